use Rattle.std.proofs.Common.{◌≡◌, ℕ, suc, ◌-◌, ◌<◌, ◌≤◌, List, [], ◌∷◌, length, get_or, take, drop, sym, refl, ap, arith, rules}
use Rattle.std.proofs.lemmas.List.{take_all}
use Rattle.rules.proofs.read.first_rest.Goals as goal

none : (ws : List ℕ) → length ws ≤ 0 → ws ≡ []
none [] h = refl
none (w ∷ ws) h = absurd (omega arith)

whole : (ws : List ℕ) → 0 < length ws → ws ≡ get_or ws 0 0 ∷ take (length ws - 1) (drop 1 ws)
whole [] h = absurd (omega arith)
whole (w ∷ ws) h = ap (λ (v : List ℕ). w ∷ v) (sym (take_all (suc (length ws) - 1) ws (omega arith)))

pub returns-in-empty : goal.returns-in-empty
returns-in-empty c = none c.args.ws.now (search rules)

pub returns-in-len1-up : goal.returns-in-len1-up
returns-in-len1-up c = whole c.args.ws.now (search rules)
