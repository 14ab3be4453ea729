-- The plain rewrite, on collections in which one fact may stand several times. Order says nothing: collections are
-- compared by how many of their facts pass a test, for every test.
use Rattle.std.specs.Prelude.{◌≡◌, ◌+◌, ◌≤◌, Bool, List, ◌++◌, length, take, drop, ℤ, count_by}
use Rattle.facts.specs.Meanings.{Meaning}
use Rattle.grammar.specs.Parts.{Parts}
use Rattle.matching.specs.declared.verdict.Verdict.{Verdict}
use Rattle.matching.specs.declared.verdict.Verdict.TheVariants.{Applies}
use Rattle.matching.specs.Applying.{verdict, body}

-- the facts lie in the collection, each at least as often as it is named
abbrev pub Lie : List Meaning → List Meaning → Type 0
Lie fs before = (q : Meaning → Bool) → count_by q fs ≤ count_by q before

-- the facts at kept positions, and those at taken ones
abbrev pub kept_facts : Parts → List Meaning → List Meaning
kept_facts r fs = take (length r.kept) fs

abbrev pub taken_facts : Parts → List Meaning → List Meaning
taken_facts r fs = drop (length r.kept) fs

-- some facts leave the collection and others join it
abbrev pub Exchanged : List Meaning → List Meaning → List Meaning → List Meaning → Type 0
Exchanged left joined before after =
    (q : Meaning → Bool) → count_by q after + count_by q left ≡ count_by q before + count_by q joined

-- the plain rewrite: the chosen facts lie there and the rule applies to them; those at taken positions leave, the body's join
pub record Rewrites (low high : ℤ) (r : Parts) (fs before after : List Meaning) : Type 0 where
  pub lie : Lie fs before
  pub applies : verdict low high r fs ≡ Applies
  pub exchanged : Exchanged (taken_facts r fs) (body low high r fs) before after

-- where the verdict is that the rule applies, its facts can be rewritten in every collection that holds them
abbrev pub Rewritable : ℤ → ℤ → Parts → List Meaning → Verdict → Type 0
Rewritable low high r fs v =
    v ≡ Applies → (others : List Meaning) → Rewrites low high r fs (fs ++ others) (kept_facts r fs ++ (others ++ body low high r fs))
