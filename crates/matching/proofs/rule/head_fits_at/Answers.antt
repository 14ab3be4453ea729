use Rattle.std.proofs.Common.{◌≡◌, ℕ, ◌+◌, ◌-◌, ◌++◌, length, false, Option, sym, ap, ◌∙◌, arith, rules}
use Rattle.std.specs.Option.{option_map_or}
use Rattle.facts.specs.Meanings.{read_meaning}
use Rattle.grammar.specs.Atoms.{Head}
use Rattle.grammar.specs.Parts.{seen}
use Rattle.matching.specs.Heads.{fits_head, fits_at}
use Rattle.matching.specs.Applying.{fits}
use Rattle.matching.proofs.Meetings.{fits_there, fits_found, fits_kept, fits_later, item_got}
use Rattle.matching.proofs.rule.head_fits_at.Goals as goal

pub returns-then-position-kept : goal.returns-then-position-kept
returns-then-position-kept c =
    let rule = c.args.rule in
    let m = read_meaning c.args.fact.now in
    let is = c.head_fits.ensures ∙ sym (fits_kept rule.kept.now rule.taken.now c.args.position _ m (search rules)) in
    record { answer = is; spare = λ other e. is ∙ ap (fits (seen rule) c.args.position) (sym e) }

pub returns : goal.returns
returns c =
    let rule = c.args.rule in
    let m = read_meaning c.args.fact.now in
    let i = c.args.position - length rule.kept.now in
    let there : length rule.kept.now + i ≡ c.args.position = omega arith in
    let found = fits_found c.get.result c.is_some_and.result m _ (λ h p. search rules) c.is_some_and.ensures in
    let is = found ∙ ap (λ (o : Option Head). option_map_or (λ h. fits_head h m) o false) (item_got rule.taken.now i c.get.result c.get.ensures.lookup) ∙ fits_there rule.taken.now i m ∙ sym (fits_later rule.kept.now rule.taken.now i m) ∙ ap (λ (j : ℕ). fits_at (rule.kept.now ++ rule.taken.now) j m) there in
    record { answer = is; spare = λ other e. is ∙ ap (fits (seen rule) c.args.position) (sym e) }
