-- The waiting and stored facts follow from the fed ones by the rewrites.
use Rattle.std.proofs.Common.{◌≡◌, ℕ, ◌+◌, ◌≤◌, Bool, false, cond, eqb, List, [], ◌∷◌, ◌++◌, drop, set, count_by, sym, refl, ap, ◌∙◌, subst, arith}
use Rattle.std.proofs.lemmas.Bool.{ne_eqb}
use Rattle.facts.specs.Lists.{Nth}
use Rattle.facts.specs.Places.{Place, held}
use Rattle.laws.specs.Rules.{Rules, WellFormed, Applies}
use Rattle.laws.specs.Candidates.{Candidate}
use Rattle.laws.specs.Machine.{Search, found, Machine, Call, feed, take, look, commit, says, Cell, numbers, facts}
use Rattle.laws.specs.Stored.{Held, Apart, cleared}
use Rattle.laws.specs.Steps.{without, Intact, lost, parted, rewrite, Event, refused, fed, took, looked, committed, Allowed, after}
use Rattle.laws.specs.Traces.{none, Trace, entry, TookAll, insert, Rewrite, RewritesBy, Rewrites, feeds}
use Rattle.laws.specs.Law.{stored, collection, Same, Rewritten, Replay, Replays}
use Rattle.laws.proofs.Nths.{insert_without}
use Rattle.laws.proofs.Counting.{count_append, count_cons, count_push, count_without, count_put, count_cleared, held_drop, facts_drop, apart_drop, replay_same, replay_feed}
use Rattle.laws.proofs.Members.{candid, nth_facts}
use Rattle.laws.proofs.Readings.{when_no, took_held, took_all_same, took_all_without}
use Rattle.laws.proofs.Holding.{held_one, held_at, held_cell, nth_numbers}
use Rattle.laws.proofs.Invariant.{Keeps, Hit, Inv}
use Rattle.laws.proofs.Keeping.{entry_of, refusal_code, lane_fact}

-- what each call does to the collection of waiting and stored facts
module _ {F R : Type 0} (T : Rules F R) (s : Machine F R) where
  pub feed_adds : (f : F) → Same (f ∷ collection s) (collection (after T s (fed f)))
  feed_adds f q =
      let a = count_append q (s.waiting ++ f ∷ []) (stored s.store) in
      let b = count_push q s.waiting f in
      let d = count_cons q f (collection s) in
      let e = count_append q s.waiting (stored s.store) in
      omega arith

  pub take_moves : (l p i : ℕ) (f : F) → Allowed T s (took l p i f) → Same (collection s) (collection (after T s (took l p i f)))
  take_moves l p i f al q =
      let st : List (Place F) = set s.store p (held (s.given + 1) f) in
      let a = count_append q (without i s.waiting) (stored st) in
      let b = count_without q s.waiting i f al.2 in
      let d = count_put q s.store p (s.given + 1) f al.4 in
      let e = count_append q s.waiting (stored s.store) in
      omega arith

  pub commit_rewrites : (l : ℕ) (x : Search R) (t : Candidate R) (ns : List ℕ) (cs : List (Cell F)) → Held s.store t.places cs → Apart t.places → Applies T t.rule (facts cs) → Rewritten T t.rule (facts cs) (collection s) (collection (after T s (committed l x t ns (rewrite t cs))))
  commit_rewrites l x t ns cs holds apart applies =
      let k₀ = T.kept t.rule in
      let taken : List ℕ = drop k₀ t.places in
      let body : List F = T.body t.rule (facts cs) in
      let next : List F = (s.waiting ++ body) ++ stored (cleared s.store taken) in
      record {
        applies = applies;
        there = λ q.
            let a = count_append q s.waiting (stored s.store) in
            let b = count_cleared q t.places s.store cs holds apart in
            omega arith;
        result = λ q.
            let a = count_append q s.waiting (stored s.store) in
            let b = count_cleared q taken s.store (drop k₀ cs) (held_drop s.store k₀ t.places cs holds) (apart_drop k₀ t.places apart) in
            let d : count_by q (facts (drop k₀ cs)) ≡ count_by q (drop k₀ (facts cs)) = ap (λ (z : List F). count_by q z) (facts_drop k₀ cs) in
            let e = count_append q (s.waiting ++ body) (stored (cleared s.store taken)) in
            let g = count_append q s.waiting body in
            let h = count_append q next (drop k₀ (facts cs)) in
            let i = count_append q (collection s) body in
            omega arith;
      }

module _ {F R : Type 0} (T : Rules F R) (ok : WellFormed T) (P : ℕ) (tr : Trace F) (s : Machine F R) (v : Inv T P tr s) where
  -- a commit on lane l, which has found t with the numbers ns, and all of it stands
  module _ (l : ℕ) (x : Search R) (t : Candidate R) (ns : List ℕ) (at : Nth s.lanes l (found x t ns)) (cs : List (Cell F)) (al : Intact s.store x t ns cs) where
    abbrev keeps : Keeps T P tr s.given l x
    keeps = (v.sound l (found x t ns) at).0

    abbrev hit : Hit T P tr s.store l x t ns keeps.fact
    hit = (v.sound l (found x t ns) at).1

    took_cells : TookAll tr ns (facts cs)
    took_cells = subst (λ (z : List ℕ). TookAll tr z (facts cs)) al.2 (took_held tr s.store v.cells t.places cs al.1)

    -- at the own position stand the own number and fact
    own_cell : Nth ns t.pos x.number × Nth (facts cs) t.pos keeps.fact
    own_cell =
        let here = (candid T P x.place keeps.fact hit.index t hit.tried).own_at in
        let c = held_cell s.store t.places cs t.pos x.place al.1 here in
        let there = held_at s.store t.places cs t.pos x.place c.0 al.1 here c.1 in
        let e = held_one s.store x.place c.0.number c.0.fact x.number al.0.0 there al.0.1 in
        let ef : keeps.fact ≡ al.0.0 = lane_fact T ok P tr s v l x keeps x.place x.number al.0.0 al.0.1 refl in (
          subst (λ (z : List ℕ). Nth z t.pos x.number) al.2 (subst (λ (n : ℕ). Nth (numbers cs) t.pos n) e.0 (nth_numbers cs t.pos c.0 c.1)),
          subst (λ (f : F). Nth (facts cs) t.pos f) (e.1 ∙ sym ef) (nth_facts cs t.pos c.0 c.1),
        )

    -- the commit's rewrite, as it is read off the trace
    abbrev made : Rewrite F R
    made = record { lane = l; rule = t.rule; numbers = ns; facts = facts cs }

    read_off : RewritesBy T P tr l made
    read_off =
        record {
          number = x.number;
          place = x.place;
          fact = keeps.fact;
          own = keeps.own;
          before = hit.index;
          answer = hit.answer;
          last_match = hit.match;
          tried = t;
          is_tried = hit.tried;
          index = (candid T P x.place keeps.fact hit.index t hit.tried).index;
          in_table = (candid T P x.place keeps.fact hit.index t hit.tried).in_table;
          by_label = hit.labelled;
          by_rule = refl;
          others = without t.pos (facts cs);
          took_others = subst (λ (z : List ℕ). TookAll tr z (without t.pos (facts cs))) (sym hit.names) (took_all_without tr t.pos ns (facts cs) took_cells);
          on_lane = refl;
          of_numbers = sym (ap (λ (z : List ℕ). insert t.pos x.number z) hit.names ∙ insert_without t.pos ns x.number own_cell.0);
          of_facts = sym (insert_without t.pos (facts cs) keeps.fact own_cell.1);
        }

    applies_to : Applies T t.rule (facts cs)
    applies_to =
        subst (λ (z : List F). Applies T t.rule z) (took_all_same tr v.once ns hit.fs (facts cs) hit.all took_cells) hit.applies

    rewrite_replays : Replays T P tr s → Replays T P (entry_of T s (committed l x t ns (rewrite t cs)) ∷ tr) (after T s (committed l x t ns (rewrite t cs)))
    rewrite_replays w =
        (made ∷ w.0, (made, w.0, refl, read_off, w.1), (collection s, w.2, commit_rewrites T s l x t ns cs al.1 hit.apart applies_to))

  refused_replays : (c : Call F) (k : ℕ) → 20 ≤ k → Replays T P tr s → Replays T P (entry c (says k 0 0 0) none ∷ tr) s
  refused_replays (feed f) k le w =
      let e : eqb k 0 ≡ false = ne_eqb k 0 (λ (z : k ≡ 0). omega arith) in
      (w.0, w.1, subst (λ (b : Bool). Replay T (cond b (f ∷ feeds tr) (feeds tr)) w.0 (collection s)) (sym e) w.2)
  refused_replays (take l) k le w = w
  refused_replays (look l) k le w = w
  refused_replays (commit l) k le w = (
    w.0,
    when_no (eqb k 0) ((m : Rewrite F R) × (vs : List (Rewrite F R)) × (w.0 ≡ m ∷ vs) × RewritesBy T P tr l m × Rewrites T P tr vs) (Rewrites T P tr w.0) (ne_eqb k 0 (λ (z : k ≡ 0). omega arith)) w.1,
    w.2,
  )

  pub replays_step : Replays T P tr s → (e : Event F R) → Allowed T s e → Replays T P (entry_of T s e ∷ tr) (after T s e)
  replays_step w (refused c k) al = refused_replays c k (refusal_code T s c k al) w
  replays_step w (fed f) al =
      (w.0, w.1, replay_same T w.0 (f ∷ feeds tr) (f ∷ collection s) (collection (after T s (fed f))) (feed_adds T s f) (replay_feed T f w.0 (feeds tr) (collection s) w.2))
  replays_step w (took l p i f) al =
      (w.0, w.1, replay_same T w.0 (feeds tr) (collection s) (collection (after T s (took l p i f))) (take_moves T s l p i f al) w.2)
  replays_step w (looked l x o) al = w
  replays_step w (committed l x t ns lost) al = w
  replays_step w (committed l x t ns (parted k)) al = w
  replays_step w (committed l x t ns (rewrite u cs)) al =
      subst
      (λ (z : Candidate R). Replays T P (entry_of T s (committed l x t ns (rewrite z cs)) ∷ tr) (after T s (committed l x t ns (rewrite z cs))))
      (sym al.1.0)
      (rewrite_replays l x t ns al.0 cs al.1.1 w)
