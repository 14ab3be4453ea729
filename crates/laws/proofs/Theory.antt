-- The law, over all runs of a new machine.
use Rattle.std.proofs.Common.{◌≡◌, ℕ, suc, ◌+◌, ◌<◌, ◌≤◌, true, false, eqb, List, [], ◌∷◌, length, count_by, sym, refl, ap, ◌∙◌, subst, ⊎_elim, arith}
use Rattle.std.specs.List.{AllByRecursion}
use Rattle.std.proofs.lemmas.Bool.{cases_lt, cases_Bool}
use Rattle.std.proofs.ByRecursion.{All-weaker}
use Rattle.facts.specs.Lists.{Nth}
use Rattle.facts.specs.Places.{Place}
use Rattle.laws.specs.Rules.{Rules, WellFormed}
use Rattle.laws.specs.Candidates.{Candidate, candidates, W}
use Rattle.laws.specs.Machine.{Lane, idle, searching, found, looks, Machine, Shape, new, Call, feed, take, look, commit, Answer, Cell, facts}
use Rattle.laws.specs.Steps.{Step, answer_of, after}
use Rattle.laws.specs.Traces.{Taken, Entry, Trace, entry, taken, Leads, Took, TookAll, Own, since, insert, named, Rewrite, RewritesBy, Rewrites}
use Rattle.laws.specs.Law.{AtRest, Choice, Replays, Settled, Law, Promises, Told, LabelsTell, Counted, Ordered}
use Rattle.laws.proofs.Nths.{nth_same}
use Rattle.laws.proofs.Counting.{stored_new}
use Rattle.laws.proofs.Widths.{length_candidates}
use Rattle.laws.proofs.Indices.{candidate_at}
use Rattle.laws.proofs.Members.{length_facts}
use Rattle.laws.proofs.Readings.{from_when_yes, from_when_no, own_same, match_same, took_all_same}
use Rattle.laws.proofs.Holding.{held_place}
use Rattle.laws.proofs.Guards.{Busy, SearchAt, Found_at}
use Rattle.laws.proofs.Invariant.{Inv, Sound, keeps_idle}
use Rattle.laws.proofs.Keeping.{entry_of, inv_new, inv_step}
use Rattle.laws.proofs.Replaying.{replays_step}

-- a cell with the highest number
top_cell : {F : Type 0} (cs : List (Cell F)) → 0 < length cs → (j : ℕ) × (c : Cell F) × Nth cs j c × AllByRecursion (λ (d : Cell F). d.number ≤ c.number) cs
top_cell [] h = absurd (omega arith)
top_cell (c ∷ []) h = (0, c, refl, (omega arith, tt))
top_cell {F} (c ∷ d ∷ cs) h =
    let w = top_cell (d ∷ cs) (omega arith) in
    ⊎_elim
    (λ (lt : c.number < w.1.number). (suc w.0, w.1, w.2, (omega arith, w.3)))
    (λ (le : w.1.number ≤ c.number).
    (0, c, refl, (omega arith, All-weaker (λ (e : Cell F). e.number ≤ w.1.number) (λ (e : Cell F). e.number ≤ c.number) (λ e a. omega arith) (d ∷ cs) w.3)))
    (cases_lt c.number w.1.number)

module _ {F R : Type 0} (T : Rules F R) (ok : WellFormed T) where
  not_busy : (s : Machine F R) → AtRest s → (p n index l : ℕ) → Busy s.lanes l p n index → ⊥
  not_busy s rest p n index l b =
      ⊎_elim
      (λ (x : SearchAt s.lanes l p n index).
      let i = rest.1 l (searching x.0) x.1 in let e = i.1 in let z : ◌≡◌ {A = ℕ} 0 1 = cc in omega arith)
      (λ (x : Found_at s.lanes l p n index).
      let i = rest.1 l (found x.0 x.1 x.2) x.3 in let e = i.1 in let z : ◌≡◌ {A = ℕ} 0 1 = cc in omega arith)
      b

  -- the fact with the highest number has a lane that is not done with this choice
  pub no_choice : (P : ℕ) (tr : Trace F) (s : Machine F R) → Inv T P tr s → AtRest s → (i : ℕ) (r : R) → Nth T.table i r → T.kept r < T.heads r → (ps : List ℕ) (cs : List (Cell F)) → Choice T s.store r ps cs → ⊥
  no_choice P tr s v rest ti r in_table some ps cs m =
      let long : length cs ≡ T.heads r = sym (length_facts cs) ∙ ok.one_each r (facts cs) m.applies.0 in
      let w = top_cell cs (omega arith) in
      let q = held_place s.store ps cs w.0 w.1 m.holds w.2 in
      let g = v.ahead ti r ps cs w.0 q.0 w.1 in_table m q.1 w.2 w.3 in
      not_busy s rest q.0 w.1.number g.index g.lane g.busy

  settled : (P : ℕ) (tr : Trace F) (s : Machine F R) → Inv T P tr s → Settled T tr s
  settled P tr s v rest i r in_table ps cs m = no_choice P tr s v rest i r in_table (ok.some_taken i r in_table) ps cs m

  sound_count : (P : ℕ) (tr : Trace F) (st : List (Place F)) (top l : ℕ) (x : Lane R) → Sound T P tr st top l x → (n p : ℕ) (f : F) → Own tr l n p f → (looks x ≡ since tr l) × (looks x ≤ W T P f + 1)
  sound_count P tr st top l (idle k) w = w
  sound_count P tr st top l (searching x) w = keeps_idle T P tr top l x w
  sound_count P tr st top l (found x t ns) w = keeps_idle T P tr top l x w.0

  -- what holds of an event's own entry and machine holds of a step's
  carry : (Q : Entry F → Machine F R → Type 0) (s : Machine F R) (c : Call F) (a : Answer) (x : Taken F) (s' : Machine F R) (w : Step T s c a s') → taken w.event ≡ x → Q (entry_of T s w.event) (after T s w.event) → Q (entry c a x) s'
  carry Q s c a x s' w e h =
      let h₁ = subst (λ (z : Call F). Q (entry z (answer_of T s w.event) (taken w.event)) (after T s w.event)) w.is_call h in
      let h₂ = subst (λ (z : Answer). Q (entry c z (taken w.event)) (after T s w.event)) w.answers h₁ in
      let h₃ = subst (λ (z : Taken F). Q (entry c a z) (after T s w.event)) e h₂ in
      subst (λ (z : Machine F R). Q (entry c a x) z) w.leaves h₃

  module _ (S : Shape) where
    pub inv : (tr : Trace F) (s : Machine F R) → Leads T (new S) tr s → Inv T S.places tr s
    inv [] s h = subst (λ (z : Machine F R). Inv T S.places [] z) h (inv_new T ok S.places S refl)
    inv (entry c a x ∷ tr) s h =
        let w = h.2.0 in
        carry (λ (e : Entry F) (z : Machine F R). Inv T S.places (e ∷ tr) z) h.0 c a x s w h.2.1
        (inv_step T ok S.places tr h.0 (inv tr h.0 h.1) w.event w.allowed)

    replays : (tr : Trace F) (s : Machine F R) → Leads T (new S) tr s → Replays T S.places tr s
    replays [] s h =
        subst (λ (z : Machine F R). Replays T S.places [] z) h ([], refl, λ q. ap (λ (z : List F). count_by q z) (sym (stored_new S.places)))
    replays (entry c a x ∷ tr) s h =
        let w = h.2.0 in
        carry (λ (e : Entry F) (z : Machine F R). Replays T S.places (e ∷ tr) z) h.0 c a x s w h.2.1
        (replays_step T ok S.places tr h.0 (inv tr h.0 h.1) (replays tr h.0 h.1) w.event w.allowed)

pub law : (F R : Type 0) → Law F R
law F R T ok S tr s h =
    let v = inv T ok S tr s h in
    record {
      replays = replays T ok S tr s h;
      settled = settled T ok S.places tr s v;
      counts = λ l x at. sound_count T ok S.places tr s.store s.given l x (v.sound l x at);
    }

pub promises : (F R : Type 0) → Promises F R
promises F R T ok S s c a s' w tr h =
    let x : Taken F = taken w.event in
    let h' : Leads T (new S) (entry c a x ∷ tr) s' = (s, h, (w, refl)) in
    (x, h', law F R T ok S (entry c a x ∷ tr) s' h')

-- one rewrite is read off
rewrite_same : {F R : Type 0} (v w : Rewrite F R) → v.lane ≡ w.lane → v.rule ≡ w.rule → v.numbers ≡ w.numbers → v.facts ≡ w.facts → v ≡ w
rewrite_same v w a b c d = λ i. record { lane = a i; rule = b i; numbers = c i; facts = d i }

module _ {F R : Type 0} (T : Rules F R) (P : ℕ) where
  one_rewrite : (tr : Trace F) → ((n : ℕ) (f g : F) → Took tr n f → Took tr n g → f ≡ g) → (l : ℕ) (v w : Rewrite F R) → RewritesBy T P tr l v → RewritesBy T P tr l w → v ≡ w
  one_rewrite tr once l v w a b =
      let own = own_same tr l a.number a.place a.fact b.number b.place b.fact a.own b.own in
      let last = match_same tr l a.before a.answer b.before b.answer a.last_match b.last_match in
      let t₁ = subst (λ (z : ℕ). Nth (candidates T P z a.fact) a.before a.tried) own.1 a.is_tried in
      let t₂ = subst (λ (z : F). Nth (candidates T P b.place z) a.before a.tried) own.2 t₁ in
      let t₃ = subst (λ (z : ℕ). Nth (candidates T P b.place b.fact) z a.tried) last.0 t₂ in
      let et : a.tried ≡ b.tried = nth_same (candidates T P b.place b.fact) b.before a.tried b.tried t₃ b.is_tried in
      let er : v.rule ≡ w.rule = sym a.by_rule ∙ ap (λ (z : Candidate R). z.rule) et ∙ b.by_rule in
      let en : named T v.rule a.answer ≡ named T w.rule b.answer = named_same v.rule w.rule a.answer b.answer er last.1 in
      let others : a.others ≡ b.others =
      took_all_same tr once (named T w.rule b.answer) a.others b.others
      (subst (λ (z : List ℕ). TookAll tr z a.others) en a.took_others)
      b.took_others
      in
      let ep : a.tried.pos ≡ b.tried.pos = ap (λ (z : Candidate R). z.pos) et in
      rewrite_same v w
      (a.on_lane ∙ sym b.on_lane)
      er
      (a.of_numbers ∙ set_in a.tried.pos b.tried.pos a.number b.number (named T v.rule a.answer) (named T w.rule b.answer) ep own.0 en ∙ sym b.of_numbers)
      (a.of_facts ∙ set_in a.tried.pos b.tried.pos a.fact b.fact a.others b.others ep own.2 others ∙ sym b.of_facts)
    where
      named_same : (r q : R) (x y : Answer) → r ≡ q → x ≡ y → named T r x ≡ named T q y
      named_same r q x y e d = ap (λ (z : R). named T z x) e ∙ ap (λ (z : Answer). named T q z) d

      set_in : {X : Type 0} (j k : ℕ) (x y : X) (xs ys : List X) → j ≡ k → x ≡ y → xs ≡ ys → insert j x xs ≡ insert k y ys
      set_in {X} j k x y xs ys ej ex exs =
          ap (λ (z : ℕ). insert z x xs) ej ∙ ap (λ (z : X). insert k z xs) ex ∙ ap (λ (z : List X). insert k y z) exs

module _ {F R : Type 0} (T : Rules F R) (ok : WellFormed T) (S : Shape) where
  abbrev More : Trace F → ℕ → List (Rewrite F R) → Type 0
  More tr m ws = (w : Rewrite F R) × (vs : List (Rewrite F R)) × (ws ≡ w ∷ vs) × RewritesBy T S.places tr m w × Rewrites T S.places tr vs

  rewrites_same : (tr : Trace F) (s : Machine F R) → Leads T (new S) tr s → (ws vs : List (Rewrite F R)) → Rewrites T S.places tr ws → Rewrites T S.places tr vs → ws ≡ vs
  rewrites_same [] s h ws vs a b = a ∙ sym b
  rewrites_same (entry (feed f) c x ∷ tr) s h ws vs a b = rewrites_same tr h.0 h.1 ws vs a b
  rewrites_same (entry (take l) c x ∷ tr) s h ws vs a b = rewrites_same tr h.0 h.1 ws vs a b
  rewrites_same (entry (look l) c x ∷ tr) s h ws vs a b = rewrites_same tr h.0 h.1 ws vs a b
  rewrites_same (entry (commit l) c x ∷ tr) s h ws vs a b =
      ⊎_elim
      (λ (e : eqb c.code 0 ≡ true).
      let u = from_when_yes (eqb c.code 0) (More tr l ws) (Rewrites T S.places tr ws) e a in
      let v = from_when_yes (eqb c.code 0) (More tr l vs) (Rewrites T S.places tr vs) e b in
      let e₁ : u.0 ≡ v.0 = one_rewrite T S.places tr (inv T ok S tr h.0 h.1).once l u.0 v.0 u.3 v.3 in
      let e₂ : u.1 ≡ v.1 = rewrites_same tr h.0 h.1 u.1 v.1 u.4 v.4 in
      let e₃ = u.2 in
      let e₄ = v.2 in
      cc)
      (λ (e : eqb c.code 0 ≡ false).
      rewrites_same tr h.0 h.1 ws vs
      (from_when_no (eqb c.code 0) (More tr l ws) (Rewrites T S.places tr ws) e a)
      (from_when_no (eqb c.code 0) (More tr l vs) (Rewrites T S.places tr vs) e b))
      (cases_Bool (eqb c.code 0))

pub told : (F R : Type 0) → Told F R
told F R T ok S tr s h ws vs a b = rewrites_same T ok S tr s h ws vs a b

pub counted : (F R : Type 0) → Counted F R
counted F R T P own f = length_candidates T P own f

pub labels_tell : (F R : Type 0) → LabelsTell F R
labels_tell F R T ok i j r s at-r at-s e =
    let same : i ≡ j = ok.labels_apart i j r s at-r at-s e in
    (nth_same T.table j r s (subst (λ (z : ℕ). Nth T.table z r) same at-r) at-s, ok.labelled i r at-r)

pub ordered : (F R : Type 0) → Ordered F R
ordered F R T P own f i r j ps = candidate_at T P own f i r j ps
