-- What places hold, and go on holding.
use Rattle.std.proofs.Common.{◌≡◌, ℕ, zero, suc, ◌+◌, ◌<◌, ◌≤◌, ◌≢◌, ◌⊎◌, List, [], ◌∷◌, length, set, sym, refl, ap, ◌∙◌, subst, inl, inr, ⊎_elim, arith, length-set}
use Rattle.std.specs.List.{AllByRecursion}
use Rattle.facts.specs.Lists.{Nth}
use Rattle.facts.specs.Places.{Place, empty, held}
use Rattle.laws.specs.Machine.{Cell, numbers, facts}
use Rattle.laws.specs.Stored.{Stands, Gone, Held, FirstMissing, cleared}
use Rattle.laws.proofs.Nths.{nth_same, nth_set}

module _ {F : Type 0} where
  -- an empty place holds nothing
  pub empty_not : (st : List (Place F)) (p n : ℕ) (f : F) → Nth st p empty → Nth st p (held n f) → ⊥
  empty_not st p n f a b = let e = nth_same st p empty (held n f) a b in let z : ◌≡◌ {A = ℕ} 0 1 = cc in omega arith

  -- a place holds one number and one fact
  pub held_one : (st : List (Place F)) (p n : ℕ) (f : F) (m : ℕ) (g : F) → Nth st p (held n f) → Nth st p (held m g) → (n ≡ m) × (f ≡ g)
  held_one st p n f m g a b =
      let e = nth_same st p (held n f) (held m g) a b in let e₁ : n ≡ m = cc in let e₂ : f ≡ g = cc in (e₁, e₂)

  -- what a place holds at the later time it held before, or its number is above top
  abbrev pub Later : ℕ → List (Place F) → List (Place F) → Type 0
  Later top st st' = (q m : ℕ) (g : F) → Nth st' q (held m g) → Nth st q (held m g) ⊎ (top < m)

  pub later_same : (top : ℕ) (st : List (Place F)) → Later top st st
  later_same top st = λ q m g h. inl h

  pub later_put : (st : List (Place F)) (top p : ℕ) (f : F) → Later top st (set st p (held (top + 1) f))
  later_put st top p f q m g h =
      ⊎_elim
      (λ (w : (q ≢ p) × Nth st q (held m g)). inl w.1)
      (λ (w : (q ≡ p) × (held (top + 1) f ≡ held m g)). let d = w.1 in let e' : top + 1 ≡ m = cc in inr (omega arith))
      (nth_set st p (held (top + 1) f) q (held m g) h)

  -- each place holds the number named, or nothing, or a number above n
  abbrev pub Still : ℕ → List (Place F) → List ℕ → List ℕ → Type 0
  Still n st [] [] = Unit {0}
  Still n st [] (m ∷ ms) = ⊥
  Still n st (q ∷ qs) [] = ⊥
  Still n st (q ∷ qs) (m ∷ ms) = ((m' : ℕ) (g : F) → Nth st q (held m' g) → (m' ≡ m) ⊎ (n < m')) × Still n st qs ms

  pub still_later : (n top : ℕ) (st st' : List (Place F)) → n ≤ top → Later top st st' → (qs ms : List ℕ) → Still n st qs ms → Still n st' qs ms
  still_later n top st st' le later [] [] a = tt
  still_later n top st st' le later [] (m ∷ ms) a = a
  still_later n top st st' le later (q ∷ qs) [] a = a
  still_later n top st st' le later (q ∷ qs) (m ∷ ms) a = (
    (λ m' g h. ⊎_elim (λ (b : Nth st q (held m' g)). a.0 m' g b) (λ (b : top < m'). inr (omega arith)) (later q m' g h)),
    still_later n top st st' le later qs ms a.1,
  )

  pub still_held : (n : ℕ) (st : List (Place F)) (ps : List ℕ) (cs : List (Cell F)) → Held st ps cs → Still n st ps (numbers cs)
  still_held n st [] [] h = tt
  still_held n st [] (c ∷ cs) h = h
  still_held n st (p ∷ ps) [] h = h
  still_held n st (p ∷ ps) (c ∷ cs) h =
      ((λ m g a. inl (held_one st p m g c.number c.fact a h.0).0), still_held n st ps cs h.1)

  -- where none of the numbers there now is above n, they are those named
  pub still_same : (n : ℕ) (st : List (Place F)) (ps : List ℕ) (cs : List (Cell F)) (ns : List ℕ) → Still n st ps ns → Held st ps cs → AllByRecursion (λ (d : Cell F). d.number ≤ n) cs → numbers cs ≡ ns
  still_same n st [] [] [] a h b = refl
  still_same n st [] [] (m ∷ ns) a h b = absurd a
  still_same n st [] (c ∷ cs) ns a h b = absurd h
  still_same n st (p ∷ ps) [] ns a h b = absurd h
  still_same n st (p ∷ ps) (c ∷ cs) [] a h b = absurd a
  still_same n st (p ∷ ps) (c ∷ cs) (m ∷ ns) a h b =
      let e : c.number ≡ m = ⊎_elim (λ (x : c.number ≡ m). x) (λ (x : n < c.number). let y = b.0 in absurd (omega arith)) (a.0 c.number c.fact h.0) in
      let e' : numbers cs ≡ ns = still_same n st ps cs ns a.1 h.1 b.1 in
      cc

  pub held_sub : (st st' : List (Place F)) → ((q m : ℕ) (g : F) → Nth st' q (held m g) → Nth st q (held m g)) → (ps : List ℕ) (cs : List (Cell F)) → Held st' ps cs → Held st ps cs
  held_sub st st' sub [] [] h = tt
  held_sub st st' sub [] (c ∷ cs) h = h
  held_sub st st' sub (p ∷ ps) [] h = h
  held_sub st st' sub (p ∷ ps) (c ∷ cs) h = (sub p c.number c.fact h.0, held_sub st st' sub ps cs h.1)

  cell_same : (c d : Cell F) → c.number ≡ d.number → c.fact ≡ d.fact → c ≡ d
  cell_same c d p q = λ i. record { number = p i; fact = q i }

  -- places hold one list of cells
  pub cells_same : (st : List (Place F)) (ps : List ℕ) (cs ds : List (Cell F)) → Held st ps cs → Held st ps ds → cs ≡ ds
  cells_same st [] [] [] h k = refl
  cells_same st [] [] (d ∷ ds) h k = absurd k
  cells_same st [] (c ∷ cs) ds h k = absurd h
  cells_same st (p ∷ ps) [] ds h k = absurd h
  cells_same st (p ∷ ps) (c ∷ cs) [] h k = absurd k
  cells_same st (p ∷ ps) (c ∷ cs) (d ∷ ds) h k =
      let e = held_one st p c.number c.fact d.number d.fact h.0 k.0 in
      let e₁ : c ≡ d = cell_same c d e.0 e.1 in
      let e₂ : cs ≡ ds = cells_same st ps cs ds h.1 k.1 in
      cc

  -- where a number is missing, no cells with these numbers are held
  pub missing_not_held : (st : List (Place F)) (ps : List ℕ) (cs : List (Cell F)) (ns : List ℕ) (m : ℕ) → FirstMissing st ps ns m → Held st ps cs → numbers cs ≡ ns → ⊥
  missing_not_held st [] cs ns m a h e = a
  missing_not_held st (p ∷ ps) [] ns m a h e = h
  missing_not_held st (p ∷ ps) (c ∷ cs) [] m a h e = a
  missing_not_held st (p ∷ ps) (c ∷ cs) (n ∷ ns) m a h e =
      let e₁ : c.number ≡ n = cc in
      let e₂ : numbers cs ≡ ns = cc in
      ⊎_elim
      (λ (x : Gone st p n × (n ≡ m)). x.0 c.fact (subst (λ (z : ℕ). Nth st p (held z c.fact)) e₁ h.0))
      (λ (x : Stands st p n × FirstMissing st ps ns m). missing_not_held st ps cs ns m x.1 h.1 e₂)
      a

  -- the place, and the cell, at each index
  pub held_at : (st : List (Place F)) (ps : List ℕ) (cs : List (Cell F)) (j p : ℕ) (c : Cell F) → Held st ps cs → Nth ps j p → Nth cs j c → Nth st p (held c.number c.fact)
  held_at st [] cs j p c h a b = absurd a
  held_at st (q ∷ ps) [] j p c h a b = absurd h
  held_at st (q ∷ ps) (d ∷ cs) zero p c h a b =
      subst (λ (w : ℕ). Nth st w (held c.number c.fact)) a (subst (λ (w : Cell F). Nth st q (held w.number w.fact)) b h.0)
  held_at st (q ∷ ps) (d ∷ cs) (suc j) p c h a b = held_at st ps cs j p c h.1 a b

  pub held_place : (st : List (Place F)) (ps : List ℕ) (cs : List (Cell F)) (j : ℕ) (c : Cell F) → Held st ps cs → Nth cs j c → (p : ℕ) × Nth ps j p
  held_place st [] [] j c h b = absurd b
  held_place st [] (d ∷ cs) j c h b = absurd h
  held_place st (q ∷ ps) [] j c h b = absurd b
  held_place st (q ∷ ps) (d ∷ cs) zero c h b = (q, refl)
  held_place st (q ∷ ps) (d ∷ cs) (suc j) c h b = held_place st ps cs j c h.1 b

  pub held_cell : (st : List (Place F)) (ps : List ℕ) (cs : List (Cell F)) (j p : ℕ) → Held st ps cs → Nth ps j p → (c : Cell F) × Nth cs j c
  held_cell st [] cs j p h a = absurd a
  held_cell st (q ∷ ps) [] j p h a = absurd h
  held_cell st (q ∷ ps) (d ∷ cs) zero p h a = (d, refl)
  held_cell st (q ∷ ps) (d ∷ cs) (suc j) p h a = held_cell st ps cs j p h.1 a

  pub nth_numbers : (cs : List (Cell F)) (j : ℕ) (c : Cell F) → Nth cs j c → Nth (numbers cs) j c.number
  nth_numbers [] j c h = absurd h
  nth_numbers (d ∷ cs) zero c h = ap (λ (z : Cell F). z.number) h
  nth_numbers (d ∷ cs) (suc j) c h = nth_numbers cs j c h

  pub length_numbers : (cs : List (Cell F)) → length (numbers cs) ≡ length (facts cs)
  length_numbers [] = refl
  length_numbers (c ∷ cs) = ap suc (length_numbers cs)

  -- a newer cell is none of those
  pub held_old : (st : List (Place F)) (p₀ n : ℕ) (f : F) (b : ℕ) → b < n → (ps : List ℕ) (cs : List (Cell F)) → Held (set st p₀ (held n f)) ps cs → AllByRecursion (λ (d : Cell F). d.number ≤ b) cs → Held st ps cs
  held_old st p₀ n f b lt [] [] h a = tt
  held_old st p₀ n f b lt [] (c ∷ cs) h a = h
  held_old st p₀ n f b lt (p ∷ ps) [] h a = h
  held_old st p₀ n f b lt (p ∷ ps) (c ∷ cs) h a = (
    ⊎_elim
        (λ (w : (p ≢ p₀) × Nth st p (held c.number c.fact)). w.1)
        (λ (w : (p ≡ p₀) × (held n f ≡ held c.number c.fact)). let e = w.1 in let e' : n ≡ c.number = cc in let y = a.0 in absurd (omega arith))
        (nth_set st p₀ (held n f) p (held c.number c.fact) h.0),
    held_old st p₀ n f b lt ps cs h.1 a.1,
  )

  -- cleared places
  pub length_cleared : (ps : List ℕ) (st : List (Place F)) → length (cleared st ps) ≡ length st
  length_cleared [] st = refl
  length_cleared (p ∷ ps) st = length_cleared ps (set st p empty) ∙ length-set st p empty

  pub cleared_sub : (ps : List ℕ) (st : List (Place F)) (q m : ℕ) (g : F) → Nth (cleared st ps) q (held m g) → Nth st q (held m g)
  cleared_sub [] st q m g h = h
  cleared_sub (p ∷ ps) st q m g h =
      ⊎_elim
      (λ (w : (q ≢ p) × Nth st q (held m g)). w.1)
      (λ (w : (q ≡ p) × (empty ≡ held m g)). let e = w.1 in let z : ◌≡◌ {A = ℕ} 0 1 = cc in absurd (omega arith))
      (nth_set st p empty q (held m g) (cleared_sub ps (set st p empty) q m g h))

  pub cleared_gone : (ps : List ℕ) (st : List (Place F)) (i q m : ℕ) (g : F) → Nth ps i q → Nth (cleared st ps) q (held m g) → ⊥
  cleared_gone [] st i q m g a h = a
  cleared_gone (p ∷ ps) st zero q m g a h =
      ⊎_elim
      (λ (w : (q ≢ p) × Nth st q (held m g)). w.0 (sym a))
      (λ (w : (q ≡ p) × (empty ≡ held m g)). let e = w.1 in let z : ◌≡◌ {A = ℕ} 0 1 = cc in omega arith)
      (nth_set st p empty q (held m g) (cleared_sub ps (set st p empty) q m g h))
  cleared_gone (p ∷ ps) st (suc i) q m g a h = cleared_gone ps (set st p empty) i q m g a h
