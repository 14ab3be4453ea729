-- The sample table is valid, and its run is a run, by computation.
use Rattle.std.proofs.Common.{◌≡◌, ℕ, List, [], ◌∷◌, drop, refl, arith, lit<, lit≤}
use Rattle.facts.specs.Meanings.{Meaning}
use Rattle.grammar.specs.Parts.{Parts}
use Rattle.grammar.specs.Validity.{Valid}
use Rattle.laws.specs.Candidates.{Candidate, candidates}
use Rattle.laws.specs.Machine.{Search, new, Cell}
use Rattle.laws.specs.Steps.{Event, fed, took, looked, committed, gone, match, rewrite}
use Rattle.laws.specs.Worked.{f84, f90, shape}
use Rattle.laws.proofs.Examples.{final, leads, two_apart}
use Rattle.tables.specs.Sample.{rule_7, sample, Written, Widths, Run}

pub writes : Written
writes = refl

pub widths : Widths
widths = (refl, refl)

pub valid : Valid (rule_7 ∷ [])
valid =
    record {
      formed =
          record {
            few = lit≤ tt;
            each = (
              record {
                label = lit< tt;
                kept = ((lit< tt, (lit≤ tt, (lit≤ tt, tt))), tt);
                taken = ((lit< tt, (lit≤ tt, (lit≤ tt, tt))), tt);
                guards = ((lit≤ tt, lit≤ tt), tt);
                body = tt;
                some_head = lit< tt;
                few_heads = lit≤ tt;
                few_guards = lit≤ tt;
                few_body = lit≤ tt;
              },
              tt,
            );
          };
      sound = (record { bound = (refl, (refl, (refl, tt))); takes = lit< tt }, tt);
      rising = (lit< tt, tt);
    }

-- a lane's search at two places, after so many looks
abbrev seek : ℕ → ℕ → Meaning → ℕ → Search Parts
seek p n f k = record { place = p; number = n; looks = k; left = drop k (candidates sample 2 p f) }

abbrev tried : Candidate Parts
tried = record { rule = rule_7; pos = 0; places = 1 ∷ 0 ∷ [] }

abbrev cells : List (Cell Meaning)
cells = record { number = 2; fact = f84 } ∷ record { number = 1; fact = f90 } ∷ []

abbrev events : List (Event Meaning Parts)
events =
    fed f84
    ∷ fed f90
    ∷ took 0 0 1 f90
    ∷ took 1 1 0 f84
    ∷ looked 1 (seek 1 2 f84 0) (match tried cells)
    ∷ committed 1 (seek 1 2 f84 1) tried (2 ∷ 1 ∷ []) (rewrite tried cells)
    ∷ looked 0 (seek 0 1 f90 0) gone
    ∷ []

pub runs : Run
runs = (
  final sample (new (shape 2 4 1000)) events,
  leads sample (new (shape 2 4 1000)) events (
    (lit< tt, refl),
    (
      (lit< tt, refl),
      (
        (0, refl, refl, lit< tt, refl),
        (
          (0, refl, refl, lit< tt, refl),
          (
            (refl, ((f84, refl), (_, refl), record { holds = (refl, (refl, tt)); apart = two_apart 1 0 (λ (e : 0 ≡ 1). omega arith); matches = refl }, refl)),
            (
              (refl, (refl, ((f84, refl), (refl, (refl, tt)), refl), lit≤ tt)),
              (
                (refl, (λ (f : Meaning). λ e. let z : ◌≡◌ {A = ℕ} 0 1 = cc in omega arith)),
                tt,
              ),
            ),
          ),
        ),
      ),
    ),
  ),
  refl,
  refl,
)
