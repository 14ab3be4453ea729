use Rattle.std.proofs.Common.{sym, ap, ◌∙◌, subst}
use Rattle.words.specs.Words.{word}
use mathlib.Core.Logic.{∥∥₁_map}
use Rattle.std.specs.List.{AllByRecursion}
use Rattle.grammar.specs.Writing.{FormedHead, FormedGuard, FormedBody}
use Rattle.writer.proofs.Rows.{IsListed, taken_fit, guards_fit, body_fit, rule_put}
use Rattle.writer.proofs.whole.put_rule.Goals as goal

pub put_parts-at-requires-clause-formed : goal.put_parts-at-requires-clause-formed
put_parts-at-requires-clause-formed c = ∥∥₁_map c.requires.formed (λ g. subst (AllByRecursion FormedHead) (sym c.as_slice-kept.ensures.value) g.kept)

pub put_parts-at-requires-2-clause-formed : goal.put_parts-at-requires-2-clause-formed
put_parts-at-requires-2-clause-formed c = ∥∥₁_map c.requires.formed (λ g. subst (AllByRecursion FormedHead) (sym c.as_slice-taken.ensures.value) g.taken)

pub put_parts-at-requires-3-clause-formed : goal.put_parts-at-requires-3-clause-formed
put_parts-at-requires-3-clause-formed c = ∥∥₁_map c.requires.formed (λ g. subst (AllByRecursion FormedGuard) (sym c.as_slice-guards.ensures.value) g.guards)

pub put_parts-requires-clause-formed : goal.put_parts-requires-clause-formed
put_parts-requires-clause-formed c = ∥∥₁_map c.requires.formed (λ g. subst (AllByRecursion FormedBody) (sym c.as_slice-body.ensures.value) g.body)

pub put_parts-at-requires-2-clause-room : goal.put_parts-at-requires-2-clause-room
put_parts-at-requires-2-clause-room c =
    let l : IsListed c.args.rule.now c.word_of.result c.as_slice-kept.result.now c.as_slice-taken.result.now c.as_slice-guards.result.now c.as_slice-body.result.now = record {
      label = c.word_of.ensures ∙ ap (word 1) c.from.ensures;
      kept = c.as_slice-kept.ensures.value;
      taken = c.as_slice-taken.ensures.value;
      guards = c.as_slice-guards.ensures.value;
      body = c.as_slice-body.ensures.value;
    } in
    taken_fit l c.args.at c.args.memory.now c.requires.room c.put_parts-at.result c.put_parts-at.new.memory (c.put_parts-at.ensures.memory, c.put_parts-at.ensures.value)

pub put_parts-at-requires-3-clause-room : goal.put_parts-at-requires-3-clause-room
put_parts-at-requires-3-clause-room c =
    let l : IsListed c.args.rule.now c.word_of.result c.as_slice-kept.result.now c.as_slice-taken.result.now c.as_slice-guards.result.now c.as_slice-body.result.now = record {
      label = c.word_of.ensures ∙ ap (word 1) c.from.ensures;
      kept = c.as_slice-kept.ensures.value;
      taken = c.as_slice-taken.ensures.value;
      guards = c.as_slice-guards.ensures.value;
      body = c.as_slice-body.ensures.value;
    } in
    guards_fit l c.args.at c.args.memory.now c.requires.room c.put_parts-at.result c.put_parts-at.new.memory (c.put_parts-at.ensures.memory, c.put_parts-at.ensures.value)
    c.put_parts-at-2.result c.put_parts-at-2.new.memory (c.put_parts-at-2.ensures.memory, c.put_parts-at-2.ensures.value)

pub put_parts-requires-clause-room : goal.put_parts-requires-clause-room
put_parts-requires-clause-room c =
    let l : IsListed c.args.rule.now c.word_of.result c.as_slice-kept.result.now c.as_slice-taken.result.now c.as_slice-guards.result.now c.as_slice-body.result.now = record {
      label = c.word_of.ensures ∙ ap (word 1) c.from.ensures;
      kept = c.as_slice-kept.ensures.value;
      taken = c.as_slice-taken.ensures.value;
      guards = c.as_slice-guards.ensures.value;
      body = c.as_slice-body.ensures.value;
    } in
    body_fit l c.args.at c.args.memory.now c.requires.room c.put_parts-at.result c.put_parts-at.new.memory (c.put_parts-at.ensures.memory, c.put_parts-at.ensures.value)
    c.put_parts-at-2.result c.put_parts-at-2.new.memory (c.put_parts-at-2.ensures.memory, c.put_parts-at-2.ensures.value) c.put_parts-at-3.result c.put_parts-at-3.new.memory (c.put_parts-at-3.ensures.memory, c.put_parts-at-3.ensures.value)

pub returns : goal.returns
returns c =
    let l : IsListed c.args.rule.now c.word_of.result c.as_slice-kept.result.now c.as_slice-taken.result.now c.as_slice-guards.result.now c.as_slice-body.result.now = record {
      label = c.word_of.ensures ∙ ap (word 1) c.from.ensures;
      kept = c.as_slice-kept.ensures.value;
      taken = c.as_slice-taken.ensures.value;
      guards = c.as_slice-guards.ensures.value;
      body = c.as_slice-body.ensures.value;
    } in
    let p = rule_put l c.args.at c.args.memory.now c.requires.room c.put_parts-at.result c.put_parts-at.new.memory (c.put_parts-at.ensures.memory, c.put_parts-at.ensures.value)
    c.put_parts-at-2.result c.put_parts-at-2.new.memory (c.put_parts-at-2.ensures.memory, c.put_parts-at-2.ensures.value) c.put_parts-at-3.result c.put_parts-at-3.new.memory (c.put_parts-at-3.ensures.memory, c.put_parts-at-3.ensures.value)
    c.put_parts.result c.put_parts.new.memory (c.put_parts.ensures.memory, c.put_parts.ensures.value) in
    record { memory = p.0; value = p.1 }
