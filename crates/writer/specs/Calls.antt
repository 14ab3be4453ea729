-- What the calls of the writer do.
use Rattle.std.specs.Prelude.{◌≡◌, ℕ, ◌+◌, ◌<◌, List, [], ◌∷◌, Result, MatchResult}
use Rattle.words.specs.Words.{word}
use Rattle.grammar.specs.Parts.{Parts}
use Rattle.writer.specs.declared.part.Part.{Part}
use Rattle.writer.specs.declared.refusal.Refusal.{Refusal}
use Rattle.writer.specs.declared.refusal.Refused.{Refused}
use Rattle.writer.specs.declared.table.OpenRule.{OpenRule}
use Rattle.writer.specs.declared.table.TableWriter.{TableWriter}
use Rattle.writer.specs.declared.tally.Tally.{Tally}
use Rattle.writer.specs.Refusals.{Wrote, WroteNothing}
use Rattle.writer.specs.Tallies.{Fits, IsBound, part_words, begun, added}
use Rattle.writer.specs.Tables.{Tabled, Opened, labelled, with_part, Ended}

-- a part is added: its words are written, and the numbers count it
abbrev pub Added : Tally → Part → (before after : List ℕ) → Tally → Type 0
Added t p before after next = Wrote (Fits t p) (IsBound t p) (Unit {0}) t.used (part_words p) before after × (next ≡ added t p)

abbrev pub NotAdded : Tally → Part → (before after : List ℕ) → Refusal → Type 0
NotAdded t p before after why = WroteNothing (Fits t p) (IsBound t p) (Unit {0}) t.used (part_words p) before after why

-- what a call that adds a part to an open rule answers
abbrev pub Answer : (T S : Type 0) → Type 0
Answer T S = Result (OpenRule T × ℕ) (Refused (OpenRule S))

-- a call adds the part, or gives the rule back as it was; the words so far are in each answer
abbrev pub Adds : {S T : Type 0} → OpenRule S → Part → (before after : List ℕ) → Answer T S → Type 0
Adds rule p before after answer =
    MatchResult answer (λ x. Added rule.tally p before after x.0.tally × (x.1 ≡ x.0.tally.used))
    (λ e. NotAdded rule.tally p before after e.why × (e.state ≡ rule) × (e.used ≡ rule.tally.used))

-- the words so far are those of the rules and of the parts so far, to which a call adds the part; a refused call keeps them
abbrev pub Grows : {S T : Type 0} → (from to : Parts → Type 0) → OpenRule S → Part → (before after : List ℕ) → Answer T S → Type 0
Grows from to rule p before after answer =
    (rs : List Parts) (r : Parts) → Opened rule.tally before rs r → from r →
    MatchResult answer (λ x. Opened x.0.tally after rs (with_part r p) × to (with_part r p)) (λ e. Opened e.state.tally after rs r × from r)

-- what a call on a table with no open rule answers
abbrev pub TableAnswer : Type 0 → Type 0
TableAnswer T = Result T (Refused TableWriter)

-- a refused call gives the table back as it was, and the words so far
abbrev pub Stays : TableWriter → Refused TableWriter → Type 0
Stays w e = (e.state ≡ w) × (e.used ≡ w.used)

-- a call begins a rule of this label, or gives the table back as it was
abbrev pub Begins : {S : Type 0} → TableWriter → ℕ → (before after : List ℕ) → TableAnswer (OpenRule S × ℕ) → Type 0
Begins w label before after answer =
    MatchResult answer
    (λ x. Wrote (w.rules < 32) (Unit {0}) (w.last < label) w.used (word 1 label ∷ []) before after × (x.0.tally ≡ begun w.used w.rules label) × (x.1 ≡ x.0.tally.used))
    (λ e. WroteNothing (w.rules < 32) (Unit {0}) (w.last < label) w.used (word 1 label ∷ []) before after e.why × Stays w e)

-- the words so far are those of the closed rules, behind which a call begins one; a refused call keeps them
abbrev pub Opens : {S : Type 0} → (to : Parts → Type 0) → TableWriter → ℕ → (before after : List ℕ) → TableAnswer (OpenRule S × ℕ) → Type 0
Opens to w label before after answer =
    (rs : List Parts) → Tabled w before rs →
    MatchResult answer (λ x. Opened x.0.tally after rs (labelled label) × to (labelled label)) (λ e. Tabled e.state after rs)

-- a call ends the table, or gives it back as it was
abbrev pub Ends : TableWriter → (before after : List ℕ) → TableAnswer ℕ → Type 0
Ends w before after answer =
    MatchResult answer (λ n. Wrote (Unit {0}) (Unit {0}) (Unit {0}) w.used (word 15 0 ∷ []) before after × (n ≡ w.used + 1))
    (λ e. WroteNothing (Unit {0}) (Unit {0}) (Unit {0}) w.used (word 15 0 ∷ []) before after e.why × Stays w e)

-- a call makes the closed rules an ended table; a refused call keeps the words so far
abbrev pub Completes : TableWriter → (before after : List ℕ) → TableAnswer ℕ → Type 0
Completes w before after answer =
    (rs : List Parts) → Tabled w before rs → MatchResult answer (λ n. Ended n before after rs) (λ e. Tabled e.state after rs)
