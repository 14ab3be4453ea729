-- A part whose words were put behind the words so far.
use Rattle.std.proofs.Common.{◌≡◌, ℕ, ◌+◌, List, length, ap, ◌∙◌, subst}
use Rattle.grammar.proofs.Sizes.{head_length, guard_length, body_length}
use Rattle.writer.specs.declared.part.Part.{Part}
use Rattle.writer.specs.declared.part.Part.TheVariants.{Kept, Taken, Guard, Body}
use Rattle.writer.specs.declared.tally.Tally.{Tally}
use Rattle.writer.specs.Memory.{placed}
use Rattle.writer.specs.Refusals.{Room, Wrote}
use Rattle.writer.specs.Tallies.{Fits, IsBound, part_words, added}
use Rattle.writer.specs.Calls.{Added}

-- cs are the words put, which are ws
module _ (range : Type 0) (bound : List ℕ → Type 0) (used n : ℕ) (cs ws before after : List ℕ) (e : cs ≡ ws) where
  pub wrote : range → bound cs → Room used cs before → after ≡ placed used cs before → Wrote range (bound ws) (Unit {0}) used ws before after
  wrote g b h p =
      record {
        numbers = g;
        variables = subst bound e b;
        label = tt;
        room = subst (λ (v : List ℕ). Room used v before) e h;
        memory = p ∙ ap (λ (v : List ℕ). placed used v before) e;
      }

  pub after_words : (size : ℕ) → length ws ≡ size → n ≡ used + length cs → n ≡ used + size
  after_words size l f = f ∙ ap (λ (v : List ℕ). used + length v) e ∙ ap (λ (k : ℕ). used + k) l

-- the numbers count the words of the part
part_used : (t : Tally) (p : Part) → t.used + length (part_words p) ≡ (added t p).used
part_used t (Kept h) = ap (λ (k : ℕ). t.used + k) (head_length 2 h)
part_used t (Taken h) = ap (λ (k : ℕ). t.used + k) (head_length 3 h)
part_used t (Guard g) = ap (λ (k : ℕ). t.used + k) (guard_length g)
part_used t (Body b) = ap (λ (k : ℕ). t.used + k) (body_length b)

-- cs are the words put, which are those of the part
pub wrote_part : (t : Tally) (p : Part) (cs before after : List ℕ) (n : ℕ) (next : Tally) → Fits t p → cs ≡ part_words p → IsBound t p →
    (n ≡ t.used + length cs) × Room t.used cs before × (after ≡ placed t.used cs before) → next ≡ record (added t p) { used = n } →
    Added t p before after next
wrote_part t p cs before after n next f e b w a = (
  record {
    numbers = f;
    variables = b;
    label = tt;
    room = subst (λ (v : List ℕ). Room t.used v before) e w.1;
    memory = w.2 ∙ ap (λ (v : List ℕ). placed t.used v before) e;
  },
  a ∙ ap (λ (k : ℕ). record (added t p) { used = k }) (w.0 ∙ ap (λ (v : List ℕ). t.used + length v) e ∙ part_used t p),
)
