use Rattle.std.proofs.Common.{◌≡◌, pos, sym, ap, ◌∙◌, w32, of_z, arith, rules}
use Rattle.std.proofs.lemmas.Bool.{ltb-false, eqb-false}
use Rattle.facts.specs.Meanings.{read_meaning}
use Rattle.facts.proofs.Same.{same_at, unlike}
use Rattle.facts.proofs.fact.FactI32PartialEq.eq.Goals.{then-eq+then-self-lt1, then-eq+else-self-lt1, else-eq, then-a-b+then-self-lt2, then-a-b+else-self-lt2, else-a-b}
use Rattle.facts.proofs.fact.FactI32PartialEq.eq.Goals as goal

pub returns-else-a-b-2 : goal.returns-else-a-b-2
returns-else-a-b-2 c =
    let a = c.args.self.now in
    let b = c.args.other.now in
    let u : read_meaning a ≡ read_meaning b → ⊥ = elim c.if-a-b.branch [
      | then-a-b+then-self-lt2 w ↦ λ e. omega (arith, ltb-false a.count 2 (sym w.value-is ∙ c.if-a-b-2.false))
      | then-a-b+else-self-lt2 w ↦
          λ e. eqb-false _ _ (sym w.value-is ∙ c.if-a-b-2.false) (ap (of_z w32) (same_at a b 1 (pos 0) e (omega arith)))
      | else-a-b w ↦ elim c.if-eq.branch [
        | then-eq+then-self-lt1 v ↦ λ e. omega (arith, ltb-false a.count 1 (sym v.value-is ∙ w.if-a-b.false))
        | then-eq+else-self-lt1 v ↦
            λ e. eqb-false _ _ (sym v.value-is ∙ w.if-a-b.false) (ap (of_z w32) (same_at a b 0 (pos 0) e (omega arith)))
        | else-eq v ↦ search rules
      ]
    ] in
    record { same = c.if-a-b-2.false ∙ sym (unlike a b u); means = rw c.if-a-b-2.false u }
