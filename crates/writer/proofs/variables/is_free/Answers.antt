use Rattle.std.proofs.Common.{◌≡◌, ℕ, ◌/◌, ◌%◌, ◌^◌, ◌<◌, Bool, true, false, cond, not, eqb, ltb, sym, ap, ◌∙◌, arith}
use Rattle.std.proofs.lemmas.Bool.Decides.{nat_tests}
use Rattle.std.proofs.lemmas.Bool.{lt-ltb}
use Rattle.words.specs.Words.{kind_of, payload_of}
use Rattle.writer.specs.Variables.{has, free_of}
use Rattle.writer.proofs.Bits.{has_past}
use Rattle.writer.proofs.variables.is_free.Goals as goal

-- a VAR word
var : (bits w n : ℕ) (t : Bool) → eqb (kind_of w) 6 ≡ true → n ≡ payload_of w → t ≡ not (has bits n) → t ≡ free_of bits w
var bits w n t k e h = h ∙ ap (λ (i : ℕ). not (has bits i)) e ∙ sym (ap (λ (b : Bool). cond b (not (has bits (payload_of w))) false) k)

odd : (n : ℕ) → eqb (n % 2) 0 ≡ not (eqb (n % 2) 1)
odd n = grind (arith, nat_tests)

pub returns-then-word-from : goal.returns-then-word-from
returns-then-word-from c =
    let n = c.from-word.result.payload in
    let k : eqb (kind_of c.args.word) 6 ≡ true = ap (λ (t : ℕ). eqb t 6) (sym c.from-word.ensures.0) ∙ sym c.if-is.ensures in
    let past : 7 < n = omega arith in
    var c.args.variables c.args.word n (ltb c.from.result n) k c.from-word.ensures.1
    (lt-ltb c.from.result n c.if-word-from.true ∙ sym (ap not (has_past c.args.variables n (omega arith) past)))

pub returns-else-word-from : goal.returns-else-word-from
returns-else-word-from c =
    let n = c.from-word.result.payload in
    let k : eqb (kind_of c.args.word) 6 ≡ true = ap (λ (t : ℕ). eqb t 6) (sym c.from-word.ensures.0) ∙ sym c.if-is.ensures in
    var c.args.variables c.args.word n (eqb (c.args.variables / 2 ^ n % 2) 0) k c.from-word.ensures.1 (odd (c.args.variables / 2 ^ n))
