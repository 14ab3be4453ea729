-- A rule by its parts, as lists.
use Rattle.std.specs.Prelude.{ℕ, List}
use Rattle.grammar.specs.Atoms.{Head, BodyFact}
use Rattle.grammar.specs.declared.part.Guard.{Guard}
use Rattle.grammar.specs.declared.rule.Rule.{Rule}
use Rattle.grammar.specs.declared.rule.RuleParts.{RuleParts}

-- a rule: its label, kept heads, taken heads, guards and body facts, each in their order
pub record Parts : Type 0 where
  pub label : ℕ
  pub kept : List Head
  pub taken : List Head
  pub guards : List Guard
  pub body : List BodyFact

abbrev pub parts : Rule → Parts
parts r =
    record {
      label = r.label;
      kept = r.kept.items;
      taken = r.taken.items;
      guards = r.guards.items;
      body = r.body.items;
    }

-- the same of parts that stand anywhere, in any number
abbrev pub seen : RuleParts → Parts
seen r =
    record {
      label = r.label;
      kept = r.kept.now;
      taken = r.taken.now;
      guards = r.guards.now;
      body = r.body.now;
    }
