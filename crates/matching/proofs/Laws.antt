-- What holds of a rule and facts, for whoever builds on it.
use Rattle.std.proofs.Common.{◌≡◌, ℕ, zero, suc, ◌<◌, ◌≤◌, true, cond, ◌&&◌, List, [], ◌∷◌, ◌++◌, map, length, take, drop, ℤ, count_by, sym, refl, ap, arith}
use lib.Signed.{le_z}
use Rattle.std.proofs.lemmas.List.{length-map, length-append, take-append-drop}
use Rattle.std.proofs.lemmas.Int.{ints}
use Rattle.std.proofs.lemmas.List.Sums.{sum_by-append}
use Rattle.std.proofs.lemmas.Bool.{and_parts, false≢true}
use Rattle.facts.specs.Lists.{Nth}
use Rattle.facts.specs.Meanings.{Meaning}
use Rattle.args.specs.declared.Args.{Args}
use Rattle.args.specs.declared.Args.TheVariants.{Zero, One, Two, Three}
use Rattle.grammar.specs.Atoms.{Head, BodyFact}
use Rattle.grammar.specs.declared.part.Term.{Term}
use Rattle.args.specs.Listed.{listed, amount}
use Rattle.grammar.specs.Parts.{Parts}
use Rattle.matching.specs.declared.verdict.Verdict.TheVariants.{Applies}
use Rattle.std.specs.List.{list_all}
use Rattle.matching.specs.Terms.{term_value}
use Rattle.matching.specs.Heads.{all_fit, fits_at, fits_head}
use Rattle.matching.specs.Applying.{heads, fits, values, heads_fit, numbers_agree, guards_hold, matches, within, fact_within, in_ends, clamped, written, exact, body, exact_body, verdict}
use Rattle.matching.specs.Rewriting.{Rewrites, kept_facts}
use Rattle.matching.proofs.Meetings.{fit_length}

-- a match has a fact for each position
pub matches_length : (r : Parts) (fs : List Meaning) → matches r fs ≡ true → length fs ≡ length (heads r)
matches_length r fs e =
    sym (fit_length (heads r) fs (and_parts (heads_fit r fs) (numbers_agree r fs && guards_hold r fs) e).0)

fit_at : (hs : List Head) (fs : List Meaning) → all_fit hs fs ≡ true → (j : ℕ) (f : Meaning) → Nth fs j f → fits_at hs j f ≡ true
fit_at hs [] e j f n = absurd n
fit_at [] (g ∷ fs) e j f n = absurd (false≢true e)
fit_at (h ∷ hs) (g ∷ fs) e zero f n = rw (← n) (and_parts (fits_head h g) (all_fit hs fs) e).0
fit_at (h ∷ hs) (g ∷ fs) e (suc j) f n = fit_at hs fs (and_parts (fits_head h g) (all_fit hs fs) e).1 j f n

-- in a match each fact fits the head at its position
pub matches_fits : (r : Parts) (fs : List Meaning) → matches r fs ≡ true → (j : ℕ) (f : Meaning) → Nth fs j f → fits r j f ≡ true
matches_fits r fs e =
    fit_at (heads r) fs (and_parts (heads_fit r fs) (numbers_agree r fs && guards_hold r fs) e).0

-- with a taken head there are more heads than kept ones
pub some_taken : (r : Parts) → 0 < length r.taken → length r.kept < length (heads r)
some_taken r l = simp length-append (omega arith)

-- the body writes as many facts as it has
pub body_length : (low high : ℤ) (r : Parts) (fs : List Meaning) → length (body low high r fs) ≡ length r.body
body_length low high r fs = length-map r.body (λ (b : BodyFact). written low high (values r fs) b)

amount_small : {X : Type 0} (xs : Args X) → amount xs ≤ 3
amount_small Zero = omega arith
amount_small (One a) = omega arith
amount_small (Two a b) = omega arith
amount_small (Three a b c) = omega arith

module _ (low high : ℤ) (ns : List ℤ) where
  small_at : (bs : List BodyFact) (i : ℕ) (f : Meaning) → Nth (map (λ (b : BodyFact). written low high ns b) bs) i f → f.count ≤ 3
  small_at [] i f n = absurd n
  small_at (b ∷ bs) zero f n = rw (← n) (amount_small b.args)
  small_at (b ∷ bs) (suc i) f n = small_at bs i f n

  clamped_inside : (n : ℤ) → within low high n ≡ true → clamped low high n ≡ n
  clamped_inside n e =
      let l : le_z low n ≡ true = (and_parts (le_z low n) (le_z n high) e).0 in
      let h : le_z n high ≡ true = (and_parts (le_z low n) (le_z n high) e).1 in
      grind (arith, ints)

  args_exact : (ts : List Term) → list_all (λ (t : Term). within low high (term_value ns t)) ts ≡ true → map (λ (t : Term). clamped low high (term_value ns t)) ts ≡ map (term_value ns) ts
  args_exact [] e = refl
  args_exact (t ∷ ts) e =
      let both = and_parts (within low high (term_value ns t)) (list_all (λ (u : Term). within low high (term_value ns u)) ts) e in
      let one = clamped_inside (term_value ns t) both.0 in
      let more = args_exact ts both.1 in
      cc

  facts_exact : (bs : List BodyFact) → list_all (fact_within low high ns) bs ≡ true → map (λ (b : BodyFact). written low high ns b) bs ≡ map (exact ns) bs
  facts_exact [] e = refl
  facts_exact (b ∷ bs) e =
      let both = and_parts (fact_within low high ns b) (list_all (fact_within low high ns) bs) e in
      let one = args_exact (listed b.args) both.0 in
      let more = facts_exact bs both.1 in
      cc

-- a written fact counts at most three arguments
pub body_small : (low high : ℤ) (r : Parts) (fs : List Meaning) (i : ℕ) (f : Meaning) → Nth (body low high r fs) i f → f.count ≤ 3
body_small low high r fs = small_at low high (values r fs) r.body

-- where every value lies between the ends, the body is exact
pub body_is_exact : (low high : ℤ) (r : Parts) (fs : List Meaning) → in_ends low high r fs ≡ true → body low high r fs ≡ exact_body r fs
body_is_exact low high r fs e = facts_exact low high (values r fs) r.body e

-- where the rule applies, its facts can be rewritten in any collection that holds them
pub rewrite_stands : (low high : ℤ) (r : Parts) (fs others : List Meaning) → verdict low high r fs ≡ Applies → Rewrites low high r fs (fs ++ others) (kept_facts r fs ++ (others ++ body low high r fs))
rewrite_stands low high r fs others e =
    record {
      lie = λ q. omega (arith, sum_by-append (λ x. cond (q x) 1 0) fs others);
      applies = e;
      exchanged = λ q.
          let kept = take (length r.kept) fs in
          let gone = drop (length r.kept) fs in
          let all : count_by q fs ≡ count_by q (kept ++ gone) = ap (count_by q) (sym (take-append-drop (length r.kept) fs)) in
          omega (arith, all, sum_by-append (λ x. cond (q x) 1 0) kept gone, sum_by-append (λ x. cond (q x) 1 0) fs others, sum_by-append (λ x. cond (q x) 1 0) others (body low high r fs), sum_by-append (λ x. cond (q x) 1 0) kept (others ++ body low high r fs));
    }
