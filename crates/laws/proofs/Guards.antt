-- Each choice to which a rule applies is guarded: a lane has it ahead, or has found it.
use Rattle.std.proofs.Common.{◌≡◌, ℕ, ◌+◌, ◌≤◌, ◌≢◌, ◌⊎◌, List, set, sym, ap, ◌∙◌, subst, inl, inr, ⊎_elim, arith}
use Rattle.std.specs.List.{AllByRecursion}
use Rattle.std.proofs.lemmas.Bool.{cases_eq}
use Rattle.facts.specs.Lists.{Nth}
use Rattle.facts.specs.Places.{Place}
use Rattle.laws.specs.Rules.{Rules}
use Rattle.laws.specs.Candidates.{Candidate, candidates}
use Rattle.laws.specs.Machine.{Search, Lane, idle, searching, found, Cell}
use Rattle.laws.specs.Law.{Choice}
use Rattle.laws.proofs.Nths.{nth_same, nth_set, nth_set_other}

-- of the lanes after one was set
pub changed : {X : Type 0} (ls : List X) (l : ℕ) (y : X) (Q : ℕ → X → Type 0) → Q l y → ((j : ℕ) (x : X) → j ≢ l → Nth ls j x → Q j x) → (j : ℕ) (x : X) → Nth (set ls l y) j x → Q j x
changed {X} ls l y Q here others j x h =
    ⊎_elim
    (λ (w : (j ≢ l) × Nth ls j x). others j x w.0 w.1)
    (λ (w : (j ≡ l) × (y ≡ x)). subst (λ (i : ℕ). Q i x) (sym w.0) (subst (λ (v : X). Q l v) w.1 here))
    (nth_set ls l y j x h)

module _ {R : Type 0} where
  -- lane l is at the fact at p under n, and the candidate at the index is ahead of it
  abbrev pub SearchAt : List (Lane R) → ℕ → ℕ → ℕ → ℕ → Type 0
  SearchAt ls l p n index = (x : Search R) × Nth ls l (searching x) × (x.place ≡ p) × (x.number ≡ n) × (x.looks ≤ index)

  -- or is ahead of it, or is the one that it has found
  abbrev pub Found_at : List (Lane R) → ℕ → ℕ → ℕ → ℕ → Type 0
  Found_at ls l p n index =
      (x : Search R) × (t : Candidate R) × (ns : List ℕ) × Nth ls l (found x t ns) × (x.place ≡ p) × (x.number ≡ n) × (x.looks ≤ index + 1)

  abbrev pub Busy : List (Lane R) → ℕ → ℕ → ℕ → ℕ → Type 0
  Busy ls l p n index = SearchAt ls l p n index ⊎ Found_at ls l p n index

  pub idle_not : (ls : List (Lane R)) (l k : ℕ) (x : Search R) → Nth ls l (idle k) → Nth ls l (searching x) → ⊥
  idle_not ls l k x a b = let e = nth_same ls l (idle k) (searching x) a b in let z : ◌≡◌ {A = ℕ} 0 1 = cc in omega arith

  pub idle_not_found : (ls : List (Lane R)) (l k : ℕ) (x : Search R) (t : Candidate R) (ns : List ℕ) → Nth ls l (idle k) → Nth ls l (found x t ns) → ⊥
  idle_not_found ls l k x t ns a b = let e = nth_same ls l (idle k) (found x t ns) a b in let z : ◌≡◌ {A = ℕ} 0 1 = cc in omega arith

  pub searching_not_found : (ls : List (Lane R)) (l : ℕ) (y x : Search R) (t : Candidate R) (ns : List ℕ) → Nth ls l (searching y) → Nth ls l (found x t ns) → ⊥
  searching_not_found ls l y x t ns a b = let e = nth_same ls l (searching y) (found x t ns) a b in let z : ◌≡◌ {A = ℕ} 0 1 = cc in omega arith

  pub searching_same : (ls : List (Lane R)) (l : ℕ) (x y : Search R) → Nth ls l (searching x) → Nth ls l (searching y) → x ≡ y
  searching_same ls l x y a b = let e = nth_same ls l (searching x) (searching y) a b in cc

  pub found_same : (ls : List (Lane R)) (l : ℕ) (x : Search R) (t : Candidate R) (ns : List ℕ) (y : Search R) (u : Candidate R) (ms : List ℕ) → Nth ls l (found x t ns) → Nth ls l (found y u ms) → (x ≡ y) × (t ≡ u) × (ns ≡ ms)
  found_same ls l x t ns y u ms a b =
      let e = nth_same ls l (found x t ns) (found y u ms) a b in
      let e₁ : x ≡ y = cc in let e₂ : t ≡ u = cc in let e₃ : ns ≡ ms = cc in (e₁, e₂, e₃)

  pub busy_idle : (ls : List (Lane R)) (l k p n index : ℕ) → Nth ls l (idle k) → Busy ls l p n index → ⊥
  busy_idle ls l k p n index at b =
      ⊎_elim
      (λ (w : SearchAt ls l p n index). idle_not ls l k w.0 at w.1)
      (λ (w : Found_at ls l p n index). idle_not_found ls l k w.0 w.1 w.2 at w.3)
      b

  pub busy_searching : (ls : List (Lane R)) (l : ℕ) (x : Search R) (p n index : ℕ) → Nth ls l (searching x) → Busy ls l p n index → (x.place ≡ p) × (x.number ≡ n) × (x.looks ≤ index)
  busy_searching ls l x p n index at b =
      ⊎_elim
      (λ (w : SearchAt ls l p n index).
      let e : x ≡ w.0 = searching_same ls l x w.0 at w.1 in
      let k : x.looks ≡ w.0.looks = ap (λ (z : Search R). z.looks) e in
      let le = w.4 in
      (ap (λ (z : Search R). z.place) e ∙ w.2, ap (λ (z : Search R). z.number) e ∙ w.3, omega arith))
      (λ (w : Found_at ls l p n index). absurd (searching_not_found ls l x w.0 w.1 w.2 at w.3))
      b

  pub busy_found : (ls : List (Lane R)) (l : ℕ) (x : Search R) (t : Candidate R) (ns : List ℕ) (p n index : ℕ) → Nth ls l (found x t ns) → Busy ls l p n index → (x.place ≡ p) × (x.number ≡ n) × (x.looks ≤ index + 1)
  busy_found ls l x t ns p n index at b =
      ⊎_elim
      (λ (w : SearchAt ls l p n index). absurd (searching_not_found ls l w.0 x t ns w.1 at))
      (λ (w : Found_at ls l p n index).
      let e : x ≡ w.0 = (found_same ls l x t ns w.0 w.1 w.2 at w.3).0 in
      let k : x.looks ≡ w.0.looks = ap (λ (z : Search R). z.looks) e in
      let le = w.6 in
      (ap (λ (z : Search R). z.place) e ∙ w.4, ap (λ (z : Search R). z.number) e ∙ w.5, omega arith))
      b

  busy_other : (ls : List (Lane R)) (l : ℕ) (y : Lane R) (j p n index : ℕ) → j ≢ l → Busy ls j p n index → Busy (set ls l y) j p n index
  busy_other ls l y j p n index ne b =
      ⊎_elim
      (λ (w : SearchAt ls j p n index). inl (w.0, nth_set_other ls l y j (searching w.0) w.1 ne, w.2, w.3, w.4))
      (λ (w : Found_at ls j p n index). inr (w.0, w.1, w.2, nth_set_other ls l y j (found w.0 w.1 w.2) w.3 ne, w.4, w.5, w.6))
      b

module _ {F R : Type 0} (T : Rules F R) (P : ℕ) where
  pub record Guarded (ls : List (Lane R)) (p n : ℕ) (f : F) (t : Candidate R) : Type 0 where
    pub lane : ℕ
    pub index : ℕ
    pub is : Nth (candidates T P p f) index t
    pub busy : Busy ls lane p n index

  -- each choice to which a rule applies is guarded by the lane of its fact with the highest number
  abbrev pub Ahead : List (Place F) → List (Lane R) → Type 0
  Ahead st ls =
      (i : ℕ) (r : R) (ps : List ℕ) (cs : List (Cell F)) (j p : ℕ) (c : Cell F)
      → Nth T.table i r → Choice T st r ps cs → Nth ps j p → Nth cs j c → AllByRecursion (λ (d : Cell F). d.number ≤ c.number) cs
      → Guarded ls p c.number c.fact (record { rule = r; pos = j; places = ps })

  -- a guard outlives the change of one lane, if it does where that lane is the guard
  pub guard_changed : (ls : List (Lane R)) (l : ℕ) (y : Lane R) (p n : ℕ) (f : F) (t : Candidate R) → Guarded ls p n f t → ((index : ℕ) → Nth (candidates T P p f) index t → Busy ls l p n index → Busy (set ls l y) l p n index) → Guarded (set ls l y) p n f t
  guard_changed ls l y p n f t w here =
      record {
        lane = w.lane;
        index = w.index;
        is = w.is;
        busy =
            ⊎_elim
            (λ (e : w.lane ≡ l). subst (λ (j : ℕ). Busy (set ls l y) j p n w.index) (sym e) (here w.index w.is (subst (λ (j : ℕ). Busy ls j p n w.index) e w.busy)))
            (λ (e : w.lane ≡ l → ⊥). busy_other ls l y w.lane p n w.index e w.busy)
            (cases_eq w.lane l);
      }
