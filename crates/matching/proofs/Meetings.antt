-- Heads and facts side by side: as pairs, in order.
use Rattle.std.proofs.Common.{◌≡◌, ℕ, zero, suc, ◌+◌, ◌<◌, Bool, true, false, cond, ◌&&◌, List, [], ◌∷◌, ◌++◌, map, length, get_or, take, drop, ℤ, sym, refl, ap, ◌∙◌, inl, inr, arith, Option, Some, None, Bor}
use Rattle.std.specs.List.{list_all, zip, fold, slice_get}
use Rattle.std.specs.Option.{MatchOption, option_map, option_map_or}
use Rattle.std.specs.Slice.{IsItemAt}
use Rattle.std.proofs.lemmas.List.{append_assoc, drop_more, length-map}
use Rattle.std.proofs.lemmas.Option.{slice_get_past, slice_get_read}
use Rattle.std.proofs.lemmas.List.Folds.{list_all-append}
use Rattle.std.proofs.lemmas.Bool.{and_parts, eqb-true, false≢true, cases_Bool}
use Rattle.facts.specs.Meanings.{ReadFact, Meaning, read_meaning}
use Rattle.grammar.specs.declared.part.Operand.{Operand}
use Rattle.grammar.specs.Atoms.{Head}
use Rattle.facts.proofs.Same.{listed as three}
use Rattle.args.specs.declared.Args.{Args}
use Rattle.args.specs.declared.Args.TheVariants.{Zero, One, Two, Three}
use Rattle.args.specs.Listed.{listed, amount}
use Rattle.matching.specs.Terms.{equal, operand_value}
use Rattle.matching.specs.Heads.{fits_head, all_fit, Met, met, met_args, bind_one, bind_all, unbound, bound, agree, fits_at}

-- ---- one head and one fact

-- as many operands as a fact has arguments do not meet the spare ones
met_first : (os : Args Operand) (a b c : ℤ) (n : ℕ) → amount os ≡ n → met_args (listed os) (take n (a ∷ (b ∷ (c ∷ [])))) ≡ met_args (listed os) (a ∷ (b ∷ (c ∷ [])))
met_first Zero a b c n e = refl
met_first (One x) a b c n e = rw (← e)
met_first (Two x y) a b c n e = rw (← e)
met_first (Three x y z) a b c n e = rw (← e)

met_three : (h : Head) (f : ReadFact) → fits_head h (read_meaning f) ≡ true → met_args (listed h.args) (read_meaning f).args ≡ met_args (listed h.args) (three f)
met_three h f e = met_first h.args f.args.0 f.args.1 f.args.2 f.count (eqb-true _ _ (and_parts _ _ e).1)

-- ---- all heads and all facts

bind_all_append : (ns : List ℤ) (ms ms' : List Met) → bind_all ns (ms ++ ms') ≡ bind_all (bind_all ns ms) ms'
bind_all_append ns [] ms' = refl
bind_all_append ns (m ∷ ms) ms' = bind_all_append (bind_one ns m.operand m.number) ms ms'

-- what one pair says
abbrev pub pair_fits : Head × ReadFact → Bool
pair_fits p = fits_head p.0 (read_meaning p.1)

abbrev pub pair_met : Head × ReadFact → List Met
pair_met p = met_args (listed p.0.args) (three p.1)

abbrev pub with_pair : List ℤ → Head × ReadFact → List ℤ
with_pair ns p = bind_all ns (pair_met p)

pub heads_fit : (hs : List Head) (fs : List ReadFact) → length fs ≡ length hs → list_all pair_fits (zip hs fs) ≡ all_fit hs (map read_meaning fs)
heads_fit [] [] e = refl
heads_fit [] (f ∷ fs) e = absurd (omega arith)
heads_fit (h ∷ hs) [] e = absurd (omega arith)
heads_fit (h ∷ hs) (f ∷ fs) e = ap (λ (b : Bool). fits_head h (read_meaning f) && b) (heads_fit hs fs (omega arith))

-- where all fit
pub heads_bind : (ns : List ℤ) (hs : List Head) (fs : List ReadFact) → list_all pair_fits (zip hs fs) ≡ true → fold with_pair ns (zip hs fs) ≡ bind_all ns (met hs (map read_meaning fs))
heads_bind ns [] fs e = refl
heads_bind ns (h ∷ hs) [] e = refl
heads_bind ns (h ∷ hs) (f ∷ fs) e =
    let both = and_parts (fits_head h (read_meaning f)) (list_all pair_fits (zip hs fs)) e in
    let rest = met hs (map read_meaning fs) in
    heads_bind (with_pair ns (h, f)) hs fs both.1 ∙ sym (bind_all_append ns (pair_met (h, f)) rest) ∙ ap (λ (ms : List Met). bind_all ns (ms ++ rest)) (sym (met_three h f both.0))

pub heads_agree : (ns : List ℤ) (hs : List Head) (fs : List ReadFact) → all_fit hs (map read_meaning fs) ≡ true → list_all (λ (p : Head × ReadFact). agree ns (pair_met p)) (zip hs fs) ≡ agree ns (met hs (map read_meaning fs))
heads_agree ns [] fs e = refl
heads_agree ns (h ∷ hs) [] e = refl
heads_agree ns (h ∷ hs) (f ∷ fs) e =
    let both = and_parts (fits_head h (read_meaning f)) (all_fit hs (map read_meaning fs)) e in
    let rest = met hs (map read_meaning fs) in
    ap (λ (b : Bool). agree ns (pair_met (h, f)) && b) (heads_agree ns hs fs both.1) ∙ sym (list_all-append (λ (m : Met). equal (operand_value ns m.operand) m.number) (pair_met (h, f)) rest) ∙ ap (λ (ms : List Met). agree ns (ms ++ rest)) (sym (met_three h f both.0))

-- where some fact does not, the variables stay unbound
pub none_met : (hs : List Head) (ms : List Meaning) → false ≡ all_fit hs ms → bound hs ms ≡ unbound
none_met hs ms e = ap (λ (b : Bool). cond b (bind_all unbound (met hs ms)) unbound) (sym e)

-- ---- heads in two parts, each with facts of its own

and_assoc : (x y z : Bool) → (x && (y && z)) ≡ ((x && y) && z)
and_assoc true y z = refl
and_assoc false y z = refl

fit_append : (ks ts : List Head) (front back : List ReadFact) → length front ≡ length ks → all_fit (ks ++ ts) (map read_meaning (front ++ back)) ≡ (all_fit ks (map read_meaning front) && all_fit ts (map read_meaning back))
fit_append [] ts [] back e = refl
fit_append [] ts (f ∷ front) back e = absurd (omega arith)
fit_append (k ∷ ks) ts [] back e = absurd (omega arith)
fit_append (k ∷ ks) ts (f ∷ front) back e =
    ap (λ (b : Bool). fits_head k (read_meaning f) && b) (fit_append ks ts front back (omega arith)) ∙ and_assoc (fits_head k (read_meaning f)) (all_fit ks (map read_meaning front)) (all_fit ts (map read_meaning back))

met_append : (ks ts : List Head) (front back : List ReadFact) → length front ≡ length ks → met (ks ++ ts) (map read_meaning (front ++ back)) ≡ met ks (map read_meaning front) ++ met ts (map read_meaning back)
met_append [] ts [] back e = refl
met_append [] ts (f ∷ front) back e = absurd (omega arith)
met_append (k ∷ ks) ts [] back e = absurd (omega arith)
met_append (k ∷ ks) ts (f ∷ front) back e =
    ap (λ (ms : List Met). met_args (listed k.args) (read_meaning f).args ++ ms) (met_append ks ts front back (omega arith)) ∙ sym (append_assoc (met_args (listed k.args) (read_meaning f).args) (met ks (map read_meaning front)) (met ts (map read_meaning back)))

module _ (ks ts : List Head) (fs front back : List ReadFact) (whole : fs ≡ front ++ back) (as_many : length front ≡ length ks) where
  pub fit_parts : (all_fit ks (map read_meaning front) && all_fit ts (map read_meaning back)) ≡ all_fit (ks ++ ts) (map read_meaning fs)
  fit_parts =
      sym (ap (λ (gs : List ReadFact). all_fit (ks ++ ts) (map read_meaning gs)) whole ∙ fit_append ks ts front back as_many)

  met_parts : met ks (map read_meaning front) ++ met ts (map read_meaning back) ≡ met (ks ++ ts) (map read_meaning fs)
  met_parts =
      sym (ap (λ (gs : List ReadFact). met (ks ++ ts) (map read_meaning gs)) whole ∙ met_append ks ts front back as_many)

  pub bind_parts : (ns : List ℤ) → bind_all (bind_all ns (met ks (map read_meaning front))) (met ts (map read_meaning back)) ≡ bind_all ns (met (ks ++ ts) (map read_meaning fs))
  bind_parts ns =
      sym (bind_all_append ns (met ks (map read_meaning front)) (met ts (map read_meaning back))) ∙ ap (bind_all ns) met_parts

-- ---- a walk over the pairs

-- those from i on
abbrev pub left : List Head → List ReadFact → ℕ → List (Head × ReadFact)
left hs fs i = drop i (zip hs fs)

module _ (hs : List Head) (fs : List ReadFact) (i j : ℕ) (p : Head × ReadFact) (next : j ≡ i + 1) (inside : i < length (zip hs fs)) (there : p ≡ get_or (zip hs fs) i p) where
  left_next : left hs fs i ≡ p ∷ left hs fs j
  left_next =
      drop_more (zip hs fs) i p inside ∙ ap (λ (q : Head × ReadFact). q ∷ left hs fs (i + 1)) (sym there) ∙ ap (λ (k : ℕ). p ∷ left hs fs k) (sym next)

  pub fit_next : pair_fits p ≡ true → list_all pair_fits (left hs fs i) ≡ list_all pair_fits (left hs fs j)
  fit_next e = ap (list_all pair_fits) left_next ∙ ap (λ (b : Bool). b && list_all pair_fits (left hs fs j)) e

  pub bind_next : (ns : List ℤ) → fold with_pair ns (left hs fs i) ≡ fold with_pair (with_pair ns p) (left hs fs j)
  bind_next ns = ap (fold with_pair ns) left_next

pub fit_length : (hs : List Head) (ms : List Meaning) → all_fit hs ms ≡ true → length hs ≡ length ms
fit_length [] [] e = refl
fit_length [] (m ∷ ms) e = absurd (false≢true e)
fit_length (h ∷ hs) [] e = absurd (false≢true e)
fit_length (h ∷ hs) (m ∷ ms) e = ap suc (fit_length hs ms (and_parts (fits_head h m) (all_fit hs ms) e).1)

pub unfit : (hs : List Head) (fs : List ReadFact) → (length fs ≡ length hs → ⊥) → false ≡ all_fit hs (map read_meaning fs)
unfit hs fs ne =
    elim (cases_Bool (all_fit hs (map read_meaning fs))) [ inl e ↦ absurd (ne (omega (arith, fit_length hs (map read_meaning fs) e, length-map fs read_meaning))) | inr e ↦ sym e ]

-- ---- the head at a position

pub fits_there : (hs : List Head) (j : ℕ) (m : Meaning) → option_map_or (λ h. fits_head h m) (slice_get hs j) false ≡ fits_at hs j m
fits_there [] j m = refl
fits_there (h ∷ hs) zero m = refl
fits_there (h ∷ hs) (suc j) m = fits_there hs j m

pub fits_kept : (ks ts : List Head) (j : ℕ) (d : Head) (m : Meaning) → j < length ks → fits_at (ks ++ ts) j m ≡ fits_head (get_or ks j d) m
fits_kept [] ts j d m l = absurd (omega arith)
fits_kept (k ∷ ks) ts zero d m l = refl
fits_kept (k ∷ ks) ts (suc j) d m l = fits_kept ks ts j d m (omega arith)

pub fits_later : (ks ts : List Head) (j : ℕ) (m : Meaning) → fits_at (ks ++ ts) (length ks + j) m ≡ fits_at ts j m
fits_later [] ts j m = let e : length {A = Head} [] + j ≡ j = omega arith in ap (λ (i : ℕ). fits_at ts i m) e
fits_later (k ∷ ks) ts j m =
    let e : length (k ∷ ks) + j ≡ suc (length ks + j) = omega arith in
    ap (λ (i : ℕ). fits_at (k ∷ (ks ++ ts)) i m) e ∙ fits_later ks ts j m

-- what a slice lends
pub item_got : (hs : List Head) (i : ℕ) (o : Option (Bor Head)) → IsItemAt hs i o → option_map (λ (h : Bor Head). h.now) o ≡ slice_get hs i
item_got hs i None h = sym (slice_get_past hs i h.3)
item_got hs i (Some x) h = sym (slice_get_read hs (length hs) i x.now refl h.3.0 h.1)

pub fits_found : (o : Option (Bor Head)) (r : Bool) (m : Meaning) (P : Bor Head → Type 0) → ((h : Bor Head) → P h → r ≡ fits_head h.now m) → MatchOption o (r ≡ false) P → r ≡ option_map_or (λ h. fits_head h m) (option_map (λ (h : Bor Head). h.now) o) false
fits_found None r m P each e = e
fits_found (Some h) r m P each p = each h p
