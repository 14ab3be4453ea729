use Rattle.std.proofs.Common.{◌≡◌, [], ◌∷◌, ◌++◌, arith}
use Rattle.std.proofs.lemmas.Grind.{common_steps}
use Rattle.words.specs.Words.{tag, word}
use Rattle.hints.proofs.Turns.{accepted, refused}
use Rattle.hints.proofs.may_follow.Goals as goal

pub returns-in-Ok : goal.returns-in-Ok
returns-in-Ok c =
    let e : c.as_slice.result.now ≡ c.args.before.now ++ word (tag c.args.kind) 0 ∷ [] = grind (arith, common_steps) in
    let l = c.in-Ok.ensures.loads in
    accepted c.args.before.now (tag c.args.kind) c.as_slice.result.now e _ l.2.0 l.0.formed l.2.1

pub returns : goal.returns
returns c =
    let e : c.as_slice.result.now ≡ c.args.before.now ++ word (tag c.args.kind) 0 ∷ [] = grind (arith, common_steps) in
    rw c.is_other.ensures (refused c.args.before.now (tag c.args.kind) c.as_slice.result.now e c.in-Err.refusal.fault c.in-Err.refusal.place c.in-Err.ensures.loads.0)
