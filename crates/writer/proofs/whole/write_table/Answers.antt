use Rattle.std.proofs.Common.{◌≡◌, ◌<◌, map, length, set, refl, ap, ◌∙◌, zero-add, sym, arith}
use mathlib.Core.Logic.{∥∥₁_map}
use Rattle.std.specs.List.{flat_map}
use Rattle.grammar.specs.Parts.{parts}
use Rattle.rules.specs.Loading.{rules_of}
use Rattle.writer.specs.Tables.{words_of}
use Rattle.writer.proofs.Loads.{each_formed, whole_length, table_puts}
use Rattle.writer.proofs.whole.write_table.Goals as goal

pub returns-then-rules_size-memory : goal.returns-then-rules_size-memory
returns-then-rules_size-memory c =
    let rules = c.rules-rules.result.now in
    let e : map parts rules ≡ rules_of c.args.table.now = ap (map parts) c.rules-rules.ensures.same in
    (refl, omega (arith, whole_length rules (rules_of c.args.table.now) e), refl)

pub put_rules-end-requires-clause-formed : goal.put_rules-end-requires-clause-formed
put_rules-end-requires-clause-formed c =
    let rules = c.rules-rules.result.now in
    let e : map parts rules ≡ rules_of c.args.table.now = ap (map parts) c.rules-rules.ensures.same in
    ∥∥₁_map c.rules-rules.ensures.valid (each_formed rules (rules_of c.args.table.now) e)

pub returns : goal.returns
returns c =
    let rules = c.rules-rules.result.now in
    let t = c.args.table.now in
    let e : map parts rules ≡ rules_of t = ap (map parts) c.rules-rules.ensures.same in
    let h : length (flat_map words_of rules) < length c.args.memory.now = omega arith in
    let p = table_puts rules (rules_of t) e c.put_rules-end.result c.args.memory.now c.put_rules-end.new.memory h
    (c.put_rules-end.ensures.memory, c.put_rules-end.ensures.value ∙ sym (zero-add (length (flat_map words_of rules)))) in
    (p.0, ap (set c.put_rules-end.new.memory c.put_rules-end.result) c.word_of.ensures ∙ p.1)
