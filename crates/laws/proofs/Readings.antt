-- What is read off a trace, and which entries leave it as it is.
use Rattle.std.proofs.Common.{◌≡◌, ℕ, zero, suc, ◌+◌, ◌<◌, ◌≤◌, Bool, true, false, cond, ◌&&◌, eqb, ltb, ◌≢◌, List, [], ◌∷◌, MatchBool, sym, refl, ap, ◌∙◌, subst, inr, ⊎_elim, arith}
use Rattle.std.proofs.lemmas.Bool.{ne_eqb, eq-eqb, lt-ltb, le-ltb, cases_Bool, and_left, and_right, and_from}
use Rattle.facts.specs.Lists.{Nth}
use Rattle.facts.specs.Places.{Place, held}
use Rattle.laws.specs.Machine.{Call, feed, take, look, commit, Answer, says, Cell, numbers, facts}
use Rattle.laws.specs.Stored.{Held}
use Rattle.laws.specs.Steps.{without}
use Rattle.laws.specs.Traces.{Taken, none, one, Trace, entry, answered, carried_out, Took, TookAll, Own, since, LastMatch}

pub when_yes : (b : Bool) (A B : Type 0) → b ≡ true → A → MatchBool b A B
when_yes b A B e x = subst (λ (t : Bool). MatchBool t A B) (sym e) x

pub when_no : (b : Bool) (A B : Type 0) → b ≡ false → B → MatchBool b A B
when_no b A B e x = subst (λ (t : Bool). MatchBool t A B) (sym e) x

pub from_when_yes : (b : Bool) (A B : Type 0) → b ≡ true → MatchBool b A B → A
from_when_yes b A B e x = subst (λ (t : Bool). MatchBool t A B) e x

pub from_when_no : (b : Bool) (A B : Type 0) → b ≡ false → MatchBool b A B → B
from_when_no b A B e x = subst (λ (t : Bool). MatchBool t A B) e x

-- a call on another lane; a call with another code
pub on_other : (m l : ℕ) (b : Bool) → l ≢ m → (eqb m l && b) ≡ false
on_other m l b ne = and_left (eqb m l) b (ne_eqb m l (λ (e : m ≡ l). ne (sym e)))

pub other_code : (m l : ℕ) (b : Bool) → b ≡ false → (eqb m l && b) ≡ false
other_code m l b e = and_right (eqb m l) b e

pub on_own : (m : ℕ) (b : Bool) → b ≡ true → (eqb m m && b) ≡ true
on_own m b e = and_from (eqb m m) b (eq-eqb m m refl) e

module _ {F : Type 0} where
  -- the longer trace says the same of lane l, and no less of the numbers
  pub record SameOf (tr tr' : Trace F) (l : ℕ) : Type 0 where
    pub own : (n p : ℕ) (f : F) → Own tr l n p f → Own tr' l n p f
    pub own_back : (n p : ℕ) (f : F) → Own tr' l n p f → Own tr l n p f
    pub count : since tr' l ≡ since tr l
    pub still_took : (n : ℕ) (f : F) → Took tr n f → Took tr' n f
    pub match : (k : ℕ) (b : Answer) → LastMatch tr l k b → LastMatch tr' l k b

  pub same_feed : (tr : Trace F) (g : F) (a : Answer) (x : Taken F) (l : ℕ) → SameOf tr (entry (feed g) a x ∷ tr) l
  same_feed tr g a x l = record { own = λ n p f h. h; own_back = λ n p f h. h; count = refl; still_took = λ n f h. h; match = λ k b h. h }

  pub same_commit : (tr : Trace F) (m : ℕ) (a : Answer) (x : Taken F) (l : ℕ) → SameOf tr (entry (commit m) a x ∷ tr) l
  same_commit tr m a x l = record { own = λ n p f h. h; own_back = λ n p f h. h; count = refl; still_took = λ n f h. h; match = λ k b h. h }

  pub same_take : (tr : Trace F) (m : ℕ) (a : Answer) (x : Taken F) (l : ℕ) → answered m l a 0 ≡ false → SameOf tr (entry (take m) a x ∷ tr) l
  same_take tr m a x l e =
      record {
        own = λ n p f h. when_no (answered m l a 0) ((a.p ≡ n) × (a.q ≡ p) × (x ≡ one f)) (Own tr l n p f) e h;
        own_back = λ n p f h. from_when_no (answered m l a 0) ((a.p ≡ n) × (a.q ≡ p) × (x ≡ one f)) (Own tr l n p f) e h;
        count = ap (λ (b : Bool). cond b 0 (since tr l)) e;
        still_took = λ n f h. inr h;
        match = λ k b h. h;
      }

  pub same_look : (tr : Trace F) (m : ℕ) (a : Answer) (x : Taken F) (l : ℕ) → carried_out m l a ≡ false → answered m l a 2 ≡ false → SameOf tr (entry (look m) a x ∷ tr) l
  same_look tr m a x l e d =
      record {
        own = λ n p f h. h;
        own_back = λ n p f h. h;
        count = ap (λ (b : Bool). cond b (since tr l + 1) (since tr l)) e;
        still_took = λ n f h. h;
        match = λ k b h. when_no (answered m l a 2) ((since tr l ≡ k) × (a ≡ b)) (LastMatch tr l k b) d h;
      }

  -- a refusal tells nothing
  pub same_refused : (tr : Trace F) (c : Call F) (k : ℕ) → 20 ≤ k → (l : ℕ) → SameOf tr (entry c (says k 0 0 0) none ∷ tr) l
  same_refused tr (feed g) k le l = same_feed tr g (says k 0 0 0) none l
  same_refused tr (take m) k le l = same_take tr m (says k 0 0 0) none l (other_code m l (eqb k 0) (ne_eqb k 0 (λ (e : k ≡ 0). omega arith)))
  same_refused tr (look m) k le l =
      same_look tr m (says k 0 0 0) none l (other_code m l (ltb k 20) (le-ltb k 20 le)) (other_code m l (eqb k 2) (ne_eqb k 2 (λ (e : k ≡ 2). omega arith)))
  same_refused tr (commit m) k le l = same_commit tr m (says k 0 0 0) none l

  pub took_refused : (tr : Trace F) (c : Call F) (k : ℕ) → 20 ≤ k → (n : ℕ) (f : F) → Took (entry c (says k 0 0 0) none ∷ tr) n f → Took tr n f
  took_refused tr (feed g) k le n f h = h
  took_refused tr (take m) k le n f h =
      ⊎_elim (λ (w : (k ≡ 0) × (0 ≡ n) × (none ≡ one f)). let z = w.0 in absurd (omega arith)) (λ (w : Took tr n f). w) h
  took_refused tr (look m) k le n f h = h
  took_refused tr (commit m) k le n f h = h

  -- a lane's last take: number, place and fact are one
  pub own_same : (tr : Trace F) (l n p : ℕ) (f : F) (n' p' : ℕ) (f' : F) → Own tr l n p f → Own tr l n' p' f' → (n ≡ n') × (p ≡ p') × (f ≡ f')
  own_same [] l n p f n' p' f' a b = absurd a
  own_same (entry (feed g) c x ∷ tr) l n p f n' p' f' a b = own_same tr l n p f n' p' f' a b
  own_same (entry (take m) c x ∷ tr) l n p f n' p' f' a b =
      ⊎_elim
      (λ (e : answered m l c 0 ≡ true).
      let u = from_when_yes (answered m l c 0) ((c.p ≡ n) × (c.q ≡ p) × (x ≡ one f)) (Own tr l n p f) e a in
      let v = from_when_yes (answered m l c 0) ((c.p ≡ n') × (c.q ≡ p') × (x ≡ one f')) (Own tr l n' p' f') e b in
      let d : one f ≡ one f' = sym u.2 ∙ v.2 in
      let d' : f ≡ f' = cc in
      (sym u.0 ∙ v.0, sym u.1 ∙ v.1, d'))
      (λ (e : answered m l c 0 ≡ false).
      own_same tr l n p f n' p' f'
      (from_when_no (answered m l c 0) ((c.p ≡ n) × (c.q ≡ p) × (x ≡ one f)) (Own tr l n p f) e a)
      (from_when_no (answered m l c 0) ((c.p ≡ n') × (c.q ≡ p') × (x ≡ one f')) (Own tr l n' p' f') e b))
      (cases_Bool (answered m l c 0))
  own_same (entry (look m) c x ∷ tr) l n p f n' p' f' a b = own_same tr l n p f n' p' f' a b
  own_same (entry (commit m) c x ∷ tr) l n p f n' p' f' a b = own_same tr l n p f n' p' f' a b

  pub match_same : (tr : Trace F) (l k : ℕ) (b : Answer) (k' : ℕ) (b' : Answer) → LastMatch tr l k b → LastMatch tr l k' b' → (k ≡ k') × (b ≡ b')
  match_same [] l k b k' b' u v = absurd u
  match_same (entry (feed g) c x ∷ tr) l k b k' b' u v = match_same tr l k b k' b' u v
  match_same (entry (take m) c x ∷ tr) l k b k' b' u v = match_same tr l k b k' b' u v
  match_same (entry (look m) c x ∷ tr) l k b k' b' u v =
      ⊎_elim
      (λ (e : answered m l c 2 ≡ true).
      let u' = from_when_yes (answered m l c 2) ((since tr l ≡ k) × (c ≡ b)) (LastMatch tr l k b) e u in
      let v' = from_when_yes (answered m l c 2) ((since tr l ≡ k') × (c ≡ b')) (LastMatch tr l k' b') e v in
      (sym u'.0 ∙ v'.0, sym u'.1 ∙ v'.1))
      (λ (e : answered m l c 2 ≡ false).
      match_same tr l k b k' b'
      (from_when_no (answered m l c 2) ((since tr l ≡ k) × (c ≡ b)) (LastMatch tr l k b) e u)
      (from_when_no (answered m l c 2) ((since tr l ≡ k') × (c ≡ b')) (LastMatch tr l k' b') e v))
      (cases_Bool (answered m l c 2))
  match_same (entry (commit m) c x ∷ tr) l k b k' b' u v = match_same tr l k b k' b' u v

  pub own_here : (tr : Trace F) (m n p : ℕ) (f : F) → Own (entry (take m) (says 0 n p 0) (one f) ∷ tr) m n p f
  own_here tr m n p f =
      when_yes (answered m m (says 0 n p 0) 0) ((n ≡ n) × (p ≡ p) × (one f ≡ one f)) (Own tr m n p f) (on_own m true refl) (refl, refl, refl)

  pub since_take : (tr : Trace F) (m n p : ℕ) (x : Taken F) → since (entry (take m) (says 0 n p 0) x ∷ tr) m ≡ 0
  since_take tr m n p x = ap (λ (b : Bool). cond b 0 (since tr m)) (on_own m true refl)

  pub since_look : (tr : Trace F) (m : ℕ) (a : Answer) (x : Taken F) → a.code < 20 → since (entry (look m) a x ∷ tr) m ≡ since tr m + 1
  since_look tr m a x lt = ap (λ (b : Bool). cond b (since tr m + 1) (since tr m)) (on_own m (ltb a.code 20) (lt-ltb a.code 20 lt))

  pub match_here : (tr : Trace F) (m : ℕ) (a : Answer) (x : Taken F) → a.code ≡ 2 → LastMatch (entry (look m) a x ∷ tr) m (since tr m) a
  match_here tr m a x e =
      when_yes (answered m m a 2) ((since tr m ≡ since tr m) × (a ≡ a)) (LastMatch tr m (since tr m) a) (on_own m (eqb a.code 2) (eq-eqb a.code 2 e)) (refl, refl)

  pub took_all_more : (tr tr' : Trace F) → ((n : ℕ) (f : F) → Took tr n f → Took tr' n f) → (ns : List ℕ) (fs : List F) → TookAll tr ns fs → TookAll tr' ns fs
  took_all_more tr tr' more [] [] a = tt
  took_all_more tr tr' more [] (f ∷ fs) a = absurd a
  took_all_more tr tr' more (n ∷ ns) [] a = absurd a
  took_all_more tr tr' more (n ∷ ns) (f ∷ fs) a = (more n f a.0, took_all_more tr tr' more ns fs a.1)

  pub took_all_same : (tr : Trace F) → ((n : ℕ) (f g : F) → Took tr n f → Took tr n g → f ≡ g) → (ns : List ℕ) (fs gs : List F) → TookAll tr ns fs → TookAll tr ns gs → fs ≡ gs
  took_all_same tr once [] [] [] a b = refl
  took_all_same tr once [] [] (g ∷ gs) a b = absurd b
  took_all_same tr once [] (f ∷ fs) gs a b = absurd a
  took_all_same tr once (n ∷ ns) [] gs a b = absurd a
  took_all_same tr once (n ∷ ns) (f ∷ fs) [] a b = absurd b
  took_all_same tr once (n ∷ ns) (f ∷ fs) (g ∷ gs) a b =
      let e : f ≡ g = once n f g a.0 b.0 in let e' : fs ≡ gs = took_all_same tr once ns fs gs a.1 b.1 in cc

  pub took_all_without : (tr : Trace F) (j : ℕ) (ns : List ℕ) (fs : List F) → TookAll tr ns fs → TookAll tr (without j ns) (without j fs)
  took_all_without tr j [] [] a = tt
  took_all_without tr j [] (f ∷ fs) a = absurd a
  took_all_without tr j (n ∷ ns) [] a = absurd a
  took_all_without tr zero (n ∷ ns) (f ∷ fs) a = a.1
  took_all_without tr (suc j) (n ∷ ns) (f ∷ fs) a = (a.0, took_all_without tr j ns fs a.1)

  -- what stands in the store was taken under its number
  pub took_held : (tr : Trace F) (st : List (Place F)) → ((p n : ℕ) (f : F) → Nth st p (held n f) → Took tr n f) → (ps : List ℕ) (cs : List (Cell F)) → Held st ps cs → TookAll tr (numbers cs) (facts cs)
  took_held tr st all [] [] a = tt
  took_held tr st all [] (c ∷ cs) a = absurd a
  took_held tr st all (p ∷ ps) [] a = absurd a
  took_held tr st all (p ∷ ps) (c ∷ cs) a = (all p c.number c.fact a.0, took_held tr st all ps cs a.1)
