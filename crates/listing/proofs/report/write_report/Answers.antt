use Rattle.std.proofs.Common.{◌≡◌, ℕ, List, Option, None, Some, IfSome, sym, subst, arith}
use Rattle.std.proofs.lemmas.Grind.{common_steps}
use Rattle.std.proofs.lemmas.Result.{on_ok_weaker}
use Rattle.std.specs.Io.KnownBytes.{Appends}
use Rattle.listing.specs.Reports.{Reports}
use Rattle.listing.proofs.report.write_report.Goals as goal

-- what was read is all that was left, and what was written is the report on it
told : (left old new : Option (List ℕ)) (read text : List ℕ) → IfSome left (λ bs. read ≡ bs) → Reports read text → Appends old new text → IfSome left (λ bs. (out : List ℕ) × Reports bs out × Appends old new out)
told None old new read text e r a = tt
told (Some bs) old new read text e r a = (text, subst (λ (xs : List ℕ). Reports xs text) e r, a)

pub returns : goal.returns
returns g c =
    let read : List ℕ = c.as_slice.result.now in
    let text : List ℕ = c.as_bytes.result.now in
    let all : IfSome (g.R.Read.remaining c.args.input.now) (λ bs. read ≡ bs) = grind (arith, common_steps) in
    let report : Reports read text = subst (λ (bs : List ℕ). Reports read bs) (sym c.as_bytes.ensures.value) c.in_ok-text.ensures in
    on_ok_weaker c.write_all.result (told (g.R.Read.remaining c.args.input.now) _ _ read text all report) c.write_all.ensures.bytes
