use Rattle.std.proofs.Common.{List, ℤ, w32, SFits, rules, ap}
use Rattle.std.proofs.lemmas.Int.{to_z-of_z}
use Rattle.facts.proofs.Same.{first_of_three}
use Rattle.facts.proofs.fact.Fact.make.Goals as goal

pub returns-in_err-argument-2 : goal.returns-in_err-argument-2
returns-in_err-argument-2 g c =
    let h = c.in_err-argument-2.ensures in
    let f : SFits w32 c.args.read.args.1 = search rules in
    rw c.from_residual-in_err-argument-2.ensures (λ w. h.1 (rw (to_z-of_z w32 c.args.read.args.1 f) (w.2 h.0)))

pub returns-in_err-argument-3 : goal.returns-in_err-argument-3
returns-in_err-argument-3 g c =
    let h = c.in_err-argument-3.ensures in
    let f : SFits w32 c.args.read.args.2 = search rules in
    rw c.from_residual-in_err-argument-3.ensures (λ w. h.1 (rw (to_z-of_z w32 c.args.read.args.2 f) (w.3 h.0)))

pub returns : goal.returns
returns g c =
    let n = c.args.read.args in
    let f0 : SFits w32 n.0 = search rules in
    let f1 : SFits w32 n.1 = search rules in
    let f2 : SFits w32 n.2 = search rules in
    let one = rw (to_z-of_z w32 n.0 f0) at c.in_ok-argument.ensures in
    let two = rw (to_z-of_z w32 n.1 f1) at c.in_ok-argument-2.ensures in
    let three = rw (to_z-of_z w32 n.2 f2) at c.in_ok-argument-3.ensures in
    let v = g.V.Kind.meaning in (
      (c.if-read-gt-MOST_ARGS.false, (λ h. (one.0 h).0), (λ h. (two.0 h).0), (λ h. (three.0 h).0)),
      ap
          (λ (xs : List ℤ). record { name = c.args.read.name; count = c.args.read.count; args = xs })
          (first_of_three
          c.args.read.count
          (v c.in_ok-argument.field-0)
          (v c.in_ok-argument-2.field-0)
          (v c.in_ok-argument-3.field-0)
          n.0
          n.1
          n.2
          c.if-read-gt-MOST_ARGS.false
          (λ h. (one.0 h).1)
          (λ h. (two.0 h).1)
          (λ h. (three.0 h).1)),
      (one.1, two.1, three.1),
    )
