-- Loaded rule tables under the law over runs.
use Rattle.std.specs.Prelude.{List, length, ℤ, nat_le}
use Rattle.facts.specs.Meanings.{Meaning}
use Rattle.grammar.specs.Parts.{Parts}
use Rattle.grammar.specs.Validity.{Valid}
use Rattle.matching.specs.Applying.{heads, fits, matches, in_ends, body}
use Rattle.laws.specs.Rules.{Rules, WellFormed}
use Rattle.laws.specs.Machine.{Machine, Shape, new}
use Rattle.laws.specs.Traces.{Trace, Leads}
use Rattle.laws.specs.Law.{Lawful}

-- rules as the machine needs them, for a value kind with the ends low and high
abbrev pub rule_table : ℤ → ℤ → List Parts → Rules Meaning Parts
rule_table low high rs =
    record {
      table = rs;
      label = λ r. r.label;
      heads = λ r. length (heads r);
      kept = λ r. length r.kept;
      fits = fits;
      matches = matches;
      in_ends = in_ends low high;
      body = body low high;
      short = λ f. nat_le f.count 3;
    }

-- a valid table gives the law what it asks
abbrev pub TablesServe : Type 0
TablesServe = (low high : ℤ) (rs : List Parts) → Valid rs → WellFormed (rule_table low high rs)

-- the law holds of every run of a new machine over a valid table
abbrev pub TablesObey : Type 0
TablesObey =
    (low high : ℤ) (rs : List Parts) → Valid rs → (S : Shape) (tr : Trace Meaning) (s : Machine Meaning Parts)
    → Leads (rule_table low high rs) (new S) tr s → Lawful (rule_table low high rs) S.places tr s
