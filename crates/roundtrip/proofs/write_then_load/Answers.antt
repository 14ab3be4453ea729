use Rattle.std.proofs.Common.{◌≡◌, ℕ, List, ◌++◌, length, drop, Ok, Err, Result, sym, ap, ◌∙◌, subst, rules}
use mathlib.Core.Logic.{∥∥₁_map, ∥∥₁_elim}
use Rattle.std.proofs.Math.Nat.{ℕ_set}
use Rattle.std.specs.Result.{IsOk}
use Rattle.grammar.specs.Parts.{Parts}
use Rattle.grammar.specs.Validity.{Valid}
use Rattle.grammar.specs.Writing.{written}
use Rattle.rules.specs.declared.loader.Loaded.{Loaded}
use Rattle.rules.specs.declared.refusal.Refusal.{Refusal}
use Rattle.rules.specs.Loading.{rules_of, Given, Accepts}
use Rattle.roundtrip.proofs.write_then_load.Goals as goal

-- words that begin with the writing of a valid table, and what the loader answers
module _ (rs : List Parts) (us ws : List ℕ) (r : Result Loaded Refusal) (v : ∥ Valid rs ∥₁) (w : ws ≡ written rs ++ us) (a : Accepts ws r) where
  given : ∥ Given rs r ∥₁
  given = ∥∥₁_map v (λ x. a rs us x w)

  loaded : IsOk r
  loaded = elim r as (λ q. ∥ Given rs q ∥₁ → IsOk q) [ Ok x ↦ λ g. search rules | Err e ↦ λ g. absurd (∥∥₁_elim g (λ x y. absurd x) (λ x. x)) ] given

  back : (x : Loaded) → r ≡ Ok x → ∥ rules_of x.table ≡ rs ∥₁ × (x.used ≡ length (written rs))
  back x e =
      let g : ∥ Given rs (Ok x) ∥₁ = subst (λ (q : Result Loaded Refusal). ∥ Given rs q ∥₁) e given in
      (∥∥₁_map g (λ y. y.0), ∥∥₁_elim g (ℕ_set x.used (length (written rs))) (λ y. y.1))

pub unwrap-requires : goal.unwrap-requires
unwrap-requires c =
    loaded (rules_of c.args.table.now) _ _ c.load.result c.args.table.now.valid c.in_ok-write_table.ensures.1 c.load.ensures.accepts

pub returns : goal.returns
returns c =
    let rs : List Parts = rules_of c.args.table.now in
    let w = c.in_ok-write_table.ensures in
    let b = back rs _ _ c.load.result c.args.table.now.valid w.1 c.load.ensures.accepts c.unwrap.result c.unwrap.ensures in
    (b.0, b.1, w.1 ∙ ap (λ (n : ℕ). written rs ++ drop n c.args.memory.now) (w.0 ∙ sym b.1))
