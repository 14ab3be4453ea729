-- A call has one outcome, but for the place and the fact of a take.
use Rattle.std.proofs.Common.{◌≡◌, ℕ, ◌+◌, ◌<◌, ◌≤◌, Bool, true, false, cond, leb, List, [], ◌∷◌, length, get_or, sym, refl, ap, ◌∙◌, subst, ap₂, ⊎_elim, arith}
use Rattle.std.proofs.lemmas.Bool.{le-leb, lt-leb, both_ways}
use Rattle.facts.specs.Lists.{Nth}
use Rattle.facts.specs.Places.{Place}
use Rattle.laws.specs.Rules.{Rules}
use Rattle.laws.specs.Candidates.{Candidate}
use Rattle.laws.specs.Machine.{Search, Lane, idle, searching, found, Machine, Call, feed, take, look, commit, Cell, facts}
use Rattle.laws.specs.Steps.{Look, miss, outside, match, exhausted, gone, Commit, lost, parted, rewrite, Event, refused, fed, took, looked, committed}
use Rattle.laws.specs.Stored.{Stands, Gone, Held, FirstMissing}
use Rattle.laws.specs.Steps.{Matches, Next, Looks, Intact, Commits, Allowed, call_of, answer_of, after}
use Rattle.laws.specs.Steps.{Refuses, list_full, too_long, take_lane, take_searching, take_found, none_waits, no_number, no_place, look_lane, look_idle, look_found, commit_lane, commit_idle, commit_searching, few_free}
use Rattle.laws.specs.Law.{AlikeChosen, Pinned}
use Rattle.laws.proofs.Nths.{nth_same, nth_lt, get_or_nth}
use Rattle.laws.proofs.Holding.{cells_same, missing_not_held}
use Rattle.laws.proofs.Guards.{idle_not, idle_not_found, searching_not_found, searching_same, found_same}

first_same : {F : Type 0} (st : List (Place F)) (ps ns : List ℕ) (m m' : ℕ) → FirstMissing st ps ns m → FirstMissing st ps ns m' → m ≡ m'
first_same st [] ns m m' a b = absurd a
first_same st (p ∷ ps) [] m m' a b = absurd a
first_same st (p ∷ ps) (n ∷ ns) m m' a b =
    ⊎_elim
    (λ (x : Gone st p n × (n ≡ m)).
    ⊎_elim
    (λ (y : Gone st p n × (n ≡ m')). sym x.1 ∙ y.1)
    (λ (y : Stands st p n × FirstMissing st ps ns m'). absurd (x.0 y.0.0 y.0.1))
    b)
    (λ (x : Stands st p n × FirstMissing st ps ns m).
    ⊎_elim
    (λ (y : Gone st p n × (n ≡ m')). absurd (y.0 x.0.0 x.0.1))
    (λ (y : Stands st p n × FirstMissing st ps ns m'). first_same st ps ns m m' x.1 y.1)
    b)
    a

module _ {F R : Type 0} (T : Rules F R) (st : List (Place F)) (x : Search R) where
  next_same : (t u : Candidate R) → Next x t → Next x u → t ≡ u
  next_same t u a b = let e : t ∷ a.0 ≡ u ∷ b.0 = sym a.1 ∙ b.1 in cc

  end_next : (t : Candidate R) → x.left ≡ [] → Next x t → ⊥
  end_next t e a = let d : [] ≡ t ∷ a.0 = sym e ∙ a.1 in let z : ◌≡◌ {A = ℕ} 0 1 = cc in omega arith

  gone_not : Gone st x.place x.number → Stands st x.place x.number → ⊥
  gone_not a b = a b.0 b.1

  miss_not : (t : Candidate R) (cs : List (Cell F)) → Looks T st x miss → Next x t → Matches T st t cs → ⊥
  miss_not t cs a b m = a.1.2 cs (subst (λ (z : Candidate R). Matches T st z cs) (next_same t a.1.0 b a.1.1) m)

  outside_not : (t : Candidate R) (cs : List (Cell F)) (u : Candidate R) (ds : List (Cell F)) → Looks T st x (outside t cs) → Looks T st x (match u ds) → ⊥
  outside_not t cs u ds a b =
      let et : t ≡ u = next_same t u a.1 b.1 in
      let h : Held st u.places cs = subst (λ (z : Candidate R). Held st z.places cs) et a.2.holds in
      let ec : cs ≡ ds = cells_same st u.places cs ds h b.2.holds in
      let o₁ : T.in_ends u.rule (facts cs) ≡ false = subst (λ (z : Candidate R). T.in_ends z.rule (facts cs) ≡ false) et a.3 in
      let o₂ : T.in_ends u.rule (facts ds) ≡ false = subst (λ (z : List (Cell F)). T.in_ends u.rule (facts z) ≡ false) ec o₁ in
      both_ways (T.in_ends u.rule (facts ds)) o₂ b.3

  pub both_same : {X : Type 0} (g : Candidate R → List (Cell F) → X) (t u : Candidate R) (cs ds : List (Cell F)) → t ≡ u → Held st t.places cs → Held st u.places ds → g t cs ≡ g u ds
  both_same g t u cs ds et h k =
      ap₂ g et (cells_same st u.places cs ds (subst (λ (z : Candidate R). Held st z.places cs) et h) k)

  pub one_look : (o o' : Look F R) → Looks T st x o → Looks T st x o' → o ≡ o'
  one_look miss miss a b = refl
  one_look miss (outside t cs) a b = absurd (miss_not t cs a b.1 b.2)
  one_look miss (match t cs) a b = absurd (miss_not t cs a b.1 b.2)
  one_look miss exhausted a b = absurd (end_next a.1.0 b.1 a.1.1)
  one_look miss gone a b = absurd (gone_not b a.0)
  one_look (outside t cs) miss a b = absurd (miss_not t cs b a.1 a.2)
  one_look (outside t cs) (outside u ds) a b = both_same outside t u cs ds (next_same t u a.1 b.1) a.2.holds b.2.holds
  one_look (outside t cs) (match u ds) a b = absurd (outside_not t cs u ds a b)
  one_look (outside t cs) exhausted a b = absurd (end_next t b.1 a.1)
  one_look (outside t cs) gone a b = absurd (gone_not b a.0)
  one_look (match t cs) miss a b = absurd (miss_not t cs b a.1 a.2)
  one_look (match t cs) (outside u ds) a b = absurd (outside_not u ds t cs b a)
  one_look (match t cs) (match u ds) a b = both_same match t u cs ds (next_same t u a.1 b.1) a.2.holds b.2.holds
  one_look (match t cs) exhausted a b = absurd (end_next t b.1 a.1)
  one_look (match t cs) gone a b = absurd (gone_not b a.0)
  one_look exhausted miss a b = absurd (end_next b.1.0 a.1 b.1.1)
  one_look exhausted (outside t cs) a b = absurd (end_next t a.1 b.1)
  one_look exhausted (match t cs) a b = absurd (end_next t a.1 b.1)
  one_look exhausted exhausted a b = refl
  one_look exhausted gone a b = absurd (gone_not b a.0)
  one_look gone miss a b = absurd (gone_not a b.0)
  one_look gone (outside t cs) a b = absurd (gone_not a b.0)
  one_look gone (match t cs) a b = absurd (gone_not a b.0)
  one_look gone exhausted a b = absurd (gone_not a b.0)
  one_look gone gone a b = refl

module _ {F R : Type 0} (T : Rules F R) (s : Machine F R) where
  one_commit : (x : Search R) (t : Candidate R) (ns : List ℕ) (o o' : Commit F R) → Commits T s x t ns o → Commits T s x t ns o' → o ≡ o'
  one_commit x t ns lost lost a b = refl
  one_commit x t ns lost (parted m) a b = absurd (a b.0.0 b.0.1)
  one_commit x t ns lost (rewrite u cs) a b = absurd (a b.1.0.0 b.1.0.1)
  one_commit x t ns (parted m) lost a b = absurd (b a.0.0 a.0.1)
  one_commit x t ns (parted m) (parted m') a b = ap parted (first_same s.store t.places ns m m' a.1 b.1)
  one_commit x t ns (parted m) (rewrite u cs) a b = absurd (missing_not_held s.store t.places cs ns m a.1 b.1.1 b.1.2)
  one_commit x t ns (rewrite u cs) lost a b = absurd (b a.1.0.0 a.1.0.1)
  one_commit x t ns (rewrite u cs) (parted m) a b = absurd (missing_not_held s.store t.places cs ns m b.1 a.1.1 a.1.2)
  one_commit x t ns (rewrite u cs) (rewrite u' cs') a b =
      ap₂ rewrite (a.0 ∙ sym b.0) (cells_same s.store t.places cs cs' a.1.1 b.1.1)

  -- the code with which a call is refused, if it is
  waits : List F → ℕ
  waits [] = 22
  waits (f ∷ fs) = cond (leb s.limit s.given) 23 24

  take_code : Lane R → ℕ
  unfolding waits
  take_code (idle k) = waits s.waiting
  take_code (searching x) = 21
  take_code (found x t ns) = 21

  commit_code : Lane R → ℕ
  commit_code (idle k) = 21
  commit_code (searching x) = 21
  commit_code (found x t ns) = 25

  by_lane : (Lane R → ℕ) → ℕ → ℕ
  by_lane g l = cond (leb (length s.lanes) l) 20 (g (get_or s.lanes l (idle 0)))

  code : Call F → ℕ
  unfolding by_lane
  code (feed f) = cond (leb s.capacity (length s.waiting)) 25 26
  code (take l) = by_lane take_code l
  code (look l) = by_lane (λ (x : Lane R). 21) l
  code (commit l) = by_lane commit_code l

  past_lanes : (g : Lane R → ℕ) (l : ℕ) → length s.lanes ≤ l → by_lane g l ≡ 20
  unfolding by_lane
  past_lanes g l h = ap (λ (b : Bool). cond b 20 (g (get_or s.lanes l (idle 0)))) (le-leb (length s.lanes) l h)

  at_lane : (g : Lane R → ℕ) (l : ℕ) (x : Lane R) → Nth s.lanes l x → by_lane g l ≡ g x
  unfolding by_lane
  at_lane g l x h =
      ap (λ (b : Bool). cond b 20 (g (get_or s.lanes l (idle 0)))) (lt-leb (length s.lanes) l (nth_lt s.lanes l x h))
      ∙ ap g (get_or_nth s.lanes l x (idle 0) h)

  waits_code : (fs : List F) (b : Bool) → 0 < length fs → leb s.limit s.given ≡ b → waits fs ≡ cond b 23 24
  unfolding waits
  waits_code [] b h e = absurd (omega arith)
  waits_code (f ∷ fs) b h e = ap (λ (z : Bool). cond z 23 24) e

  refuses_code : (c : Call F) (n : ℕ) → Refuses T s c n → code c ≡ n
  unfolding code take_code commit_code waits
  refuses_code c n (list_full f h) = ap (λ (b : Bool). cond b 25 26) (le-leb s.capacity (length s.waiting) h)
  refuses_code c n (too_long f h e) = ap (λ (b : Bool). cond b 25 26) (lt-leb s.capacity (length s.waiting) h)
  refuses_code c n (take_lane l h) = past_lanes take_code l h
  refuses_code c n (take_searching l x at) = at_lane take_code l (searching x) at
  refuses_code c n (take_found l x t ns at) = at_lane take_code l (found x t ns) at
  refuses_code c n (none_waits l k at e) = at_lane take_code l (idle k) at ∙ ap (λ (z : List F). waits z) e
  refuses_code c n (no_number l k at some h) = at_lane take_code l (idle k) at ∙ waits_code s.waiting true some (le-leb s.limit s.given h)
  refuses_code c n (no_place l k at some h full) = at_lane take_code l (idle k) at ∙ waits_code s.waiting false some (lt-leb s.limit s.given h)
  refuses_code c n (look_lane l h) = past_lanes (λ (x : Lane R). 21) l h
  refuses_code c n (look_idle l k at) = at_lane (λ (y : Lane R). 21) l (idle k) at
  refuses_code c n (look_found l x t ns at) = at_lane (λ (y : Lane R). 21) l (found x t ns) at
  refuses_code c n (commit_lane l h) = past_lanes commit_code l h
  refuses_code c n (commit_idle l k at) = at_lane commit_code l (idle k) at
  refuses_code c n (commit_searching l x at) = at_lane commit_code l (searching x) at
  refuses_code c n (few_free l x t ns cs at w h) = at_lane commit_code l (found x t ns) at

  -- a refused call does nothing else
  fed_not : (f : F) (n : ℕ) → Refuses T s (feed f) n → Allowed T s (fed f) → ⊥
  fed_not f n (list_full g h) a = let y = a.0 in omega arith
  fed_not f n (too_long g h e) a = both_ways (T.short f) e a.1

  took_not : (l p i : ℕ) (f : F) (n : ℕ) → Refuses T s (take l) n → Allowed T s (took l p i f) → ⊥
  took_not l p i f n (take_lane m h) a = let y = nth_lt s.lanes l (idle a.0) a.1 in omega arith
  took_not l p i f n (take_searching m x at) a = idle_not s.lanes l a.0 x a.1 at
  took_not l p i f n (take_found m x t ns at) a = idle_not_found s.lanes l a.0 x t ns a.1 at
  took_not l p i f n (none_waits m k at e) a = subst (λ (z : List F). Nth z i f) e a.2
  took_not l p i f n (no_number m k at some h) a = let y = a.3 in omega arith
  took_not l p i f n (no_place m k at some h full) a = full p a.4

  looked_not : (l : ℕ) (x : Search R) (o : Look F R) (n : ℕ) → Refuses T s (look l) n → Allowed T s (looked l x o) → ⊥
  looked_not l x o n (look_lane m h) a = let y = nth_lt s.lanes l (searching x) a.0 in omega arith
  looked_not l x o n (look_idle m k at) a = idle_not s.lanes l k x at a.0
  looked_not l x o n (look_found m y t ns at) a = searching_not_found s.lanes l x y t ns a.0 at

  free_not : (x : Search R) (t : Candidate R) (ns : List ℕ) (cs : List (Cell F)) (o : Commit F R) → Intact s.store x t ns cs → s.capacity < length s.waiting + length (T.body t.rule (facts cs)) → Commits T s x t ns o → ⊥
  free_not x t ns cs lost w k a = a w.0.0 w.0.1
  free_not x t ns cs (parted m) w k a = missing_not_held s.store t.places cs ns m a.1 w.1 w.2
  free_not x t ns cs (rewrite u ds) w k a =
      let e : length (T.body t.rule (facts cs)) ≡ length (T.body t.rule (facts ds)) =
      ap (λ (z : List (Cell F)). length (T.body t.rule (facts z))) (cells_same s.store t.places cs ds w.1 a.1.1)
      in
      let y = a.2 in
      omega arith

  committed_not : (l : ℕ) (x : Search R) (t : Candidate R) (ns : List ℕ) (o : Commit F R) (n : ℕ) → Refuses T s (commit l) n → Allowed T s (committed l x t ns o) → ⊥
  committed_not l x t ns o n (commit_lane m h) a = let y = nth_lt s.lanes l (found x t ns) a.0 in omega arith
  committed_not l x t ns o n (commit_idle m k at) a = idle_not_found s.lanes l k x t ns at a.0
  committed_not l x t ns o n (commit_searching m y at) a = searching_not_found s.lanes l y x t ns at a.0
  committed_not l x t ns o n (few_free m y u ms cs at w h) a =
      let e = found_same s.lanes l y u ms x t ns at a.0 in
      let w₁ = subst (λ (z : Search R). Intact s.store z u ms cs) e.0 w in
      let w₂ = subst (λ (z : Candidate R). Intact s.store x z ms cs) e.1 w₁ in
      let w₃ = subst (λ (z : List ℕ). Intact s.store x t z cs) e.2 w₂ in
      let h' = subst (λ (z : Candidate R). s.capacity < length s.waiting + length (T.body z.rule (facts cs))) e.1 h in
      free_not x t ns cs o w₃ h' a.1

  -- two events of one call that chose alike are one
  pub one_event : (e e' : Event F R) → Allowed T s e → Allowed T s e' → call_of e ≡ call_of e' → AlikeChosen e e' → e ≡ e'
  one_event (refused c n) (refused c' n') a b d w =
      let en : n ≡ n' = sym (refuses_code c n a) ∙ ap code d ∙ refuses_code c' n' b in ap₂ refused d en
  one_event (refused c n) (fed f) a b d w = absurd (fed_not f n (subst (λ (z : Call F). Refuses T s z n) d a) b)
  one_event (refused c n) (took l p i f) a b d w = absurd (took_not l p i f n (subst (λ (z : Call F). Refuses T s z n) d a) b)
  one_event (refused c n) (looked l x o) a b d w = absurd (looked_not l x o n (subst (λ (z : Call F). Refuses T s z n) d a) b)
  one_event (refused c n) (committed l x t ns o) a b d w = absurd (committed_not l x t ns o n (subst (λ (z : Call F). Refuses T s z n) d a) b)
  one_event (fed f) (refused c n) a b d w = absurd (fed_not f n (subst (λ (z : Call F). Refuses T s z n) (sym d) b) a)
  one_event (fed f) (fed g) a b d w = let e : f ≡ g = cc in ap fed e
  one_event (fed f) (took l p i g) a b d w = let z : ◌≡◌ {A = ℕ} 0 1 = cc in absurd (omega arith)
  one_event (fed f) (looked l x o) a b d w = let z : ◌≡◌ {A = ℕ} 0 1 = cc in absurd (omega arith)
  one_event (fed f) (committed l x t ns o) a b d w = let z : ◌≡◌ {A = ℕ} 0 1 = cc in absurd (omega arith)
  one_event (took l p i f) (refused c n) a b d w = absurd (took_not l p i f n (subst (λ (z : Call F). Refuses T s z n) (sym d) b) a)
  one_event (took l p i f) (fed g) a b d w = let z : ◌≡◌ {A = ℕ} 0 1 = cc in absurd (omega arith)
  one_event (took l p i f) (took m q j g) a b d w =
      let el : l ≡ m = cc in
      let ep : p ≡ q = w.0 in
      let ei : i ≡ j = w.1 in
      let ef : f ≡ g = nth_same s.waiting j f g (subst (λ (z : ℕ). Nth s.waiting z f) ei a.2) b.2 in
      cc
  one_event (took l p i f) (looked m x o) a b d w = let z : ◌≡◌ {A = ℕ} 0 1 = cc in absurd (omega arith)
  one_event (took l p i f) (committed m x t ns o) a b d w = let z : ◌≡◌ {A = ℕ} 0 1 = cc in absurd (omega arith)
  one_event (looked l x o) (refused c n) a b d w = absurd (looked_not l x o n (subst (λ (z : Call F). Refuses T s z n) (sym d) b) a)
  one_event (looked l x o) (fed g) a b d w = let z : ◌≡◌ {A = ℕ} 0 1 = cc in absurd (omega arith)
  one_event (looked l x o) (took m p i f) a b d w = let z : ◌≡◌ {A = ℕ} 0 1 = cc in absurd (omega arith)
  one_event (looked l x o) (looked m y o') a b d w =
      let el : l ≡ m = cc in
      let ex : x ≡ y = searching_same s.lanes m x y (subst (λ (z : ℕ). Nth s.lanes z (searching x)) el a.0) b.0 in
      let eo : o ≡ o' = one_look T s.store y o o' (subst (λ (z : Search R). Looks T s.store z o) ex a.1) b.1 in
      cc
  one_event (looked l x o) (committed m y t ns o') a b d w = let z : ◌≡◌ {A = ℕ} 0 1 = cc in absurd (omega arith)
  one_event (committed l x t ns o) (refused c n) a b d w = absurd (committed_not l x t ns o n (subst (λ (z : Call F). Refuses T s z n) (sym d) b) a)
  one_event (committed l x t ns o) (fed g) a b d w = let z : ◌≡◌ {A = ℕ} 0 1 = cc in absurd (omega arith)
  one_event (committed l x t ns o) (took m p i f) a b d w = let z : ◌≡◌ {A = ℕ} 0 1 = cc in absurd (omega arith)
  one_event (committed l x t ns o) (looked m y o') a b d w = let z : ◌≡◌ {A = ℕ} 0 1 = cc in absurd (omega arith)
  one_event (committed l x t ns o) (committed m y u ms o') a b d w =
      let el : l ≡ m = cc in
      let e = found_same s.lanes m x t ns y u ms (subst (λ (z : ℕ). Nth s.lanes z (found x t ns)) el a.0) b.0 in
      let ex = e.0 in
      let et = e.1 in
      let en = e.2 in
      let a₁ = subst (λ (z : Search R). Commits T s z t ns o) ex a.1 in
      let a₂ = subst (λ (z : Candidate R). Commits T s y z ns o) et a₁ in
      let a₃ = subst (λ (z : List ℕ). Commits T s y u z o) en a₂ in
      let eo : o ≡ o' = one_commit y u ms o o' a₃ b.1 in
      cc

pub pinned : (F R : Type 0) → Pinned F R
pinned F R T s c a b s₁ s₂ v w same =
    let e : v.event ≡ w.event = one_event T s v.event w.event v.allowed w.allowed (v.is_call ∙ sym w.is_call) same in (
      sym v.answers ∙ ap (λ (z : Event F R). answer_of T s z) e ∙ w.answers,
      sym v.leaves ∙ ap (λ (z : Event F R). after T s z) e ∙ w.leaves,
    )
