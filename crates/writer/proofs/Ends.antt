-- Rules begun and closed, and the table ended.
use Rattle.std.proofs.Common.{◌≡◌, ℕ, ◌+◌, ◌%◌, ◌^◌, ◌<◌, false, eqb, List, [], ◌∷◌, ◌++◌, take, drop, sym, refl, ap, ◌∙◌, subst, ap₂, arith}
use Rattle.std.specs.List.{flat_map}
use Rattle.std.proofs.lemmas.List.{append_assoc, length_push}
use Rattle.std.proofs.ByRecursion.{All-push}
use Rattle.std.proofs.lemmas.Nat.{pow_pos}
use native.Mathlib.Nat.{div-eq_of_lt}
use Rattle.words.specs.Words.{word}
use Rattle.grammar.specs.Parts.{Parts}
use Rattle.grammar.specs.Reading.{read_table}
use Rattle.grammar.specs.Writing.{standard, FormedRule, rule_words, written}
use Rattle.grammar.specs.Validity.{Sound, Rising, Valid, last_label}
use Rattle.grammar.proofs.Codec.{table_all}
use Rattle.writer.specs.declared.tally.Tally.{Tally}
use Rattle.writer.specs.declared.table.TableWriter.{TableWriter}
use Rattle.writer.specs.Memory.{placed}
use Rattle.writer.specs.Refusals.{Wrote}
use Rattle.writer.specs.Stages.{IsFilling}
use Rattle.writer.specs.Tallies.{begun}
use Rattle.writer.specs.Variables.{has}
use Rattle.writer.specs.Tables.{Front, Tabled, Opened, closed_table, labelled, Ended}
use Rattle.writer.proofs.Grows.{joined_push, front_on}

rising_push : (n : ℕ) (rs : List Parts) (r : Parts) → Rising n rs → last_label n rs < r.label → Rising n (rs ++ r ∷ [])
rising_push n [] r h l = (l, tt)
rising_push n (q ∷ rs) r h l = (h.0, rising_push q.label rs r h.1 l)

last_push : (n : ℕ) (rs : List Parts) (r : Parts) → last_label n (rs ++ r ∷ []) ≡ r.label
last_push n [] r = refl
last_push n (q ∷ rs) r = last_push q.label rs r

none_valid : Valid []
none_valid = record { formed = record { few = omega arith; each = tt }; sound = tt; rising = tt }

pub none_tabled : (w : TableWriter) (m : List ℕ) → w.used ≡ 0 → w.rules ≡ 0 → w.last ≡ 0 → Tabled w m []
none_tabled w m e f g =
    record { words = (e, ap (λ (n : ℕ). take n m) e); valid = none_valid; rules = f; last = g }

none_has : (v : ℕ) → has 0 v ≡ false
none_has v = ap (λ (n : ℕ). eqb (n % 2) 1) (div-eq_of_lt (pow_pos v))

pub rule_begun : (w : TableWriter) (label : ℕ) (m m' : List ℕ) (rs : List Parts) → label < 2 ^ 16 → Tabled w m rs →
    Wrote (w.rules < 32) (Unit {0}) (w.last < label) w.used (word 1 label ∷ []) m m' →
    Opened (begun w.used w.rules label) m' rs (labelled label)
rule_begun w label m m' rs small d o =
    record {
      words = front_on w.used 1 m m' (flat_map rule_words rs) (word 1 label ∷ []) d.words refl o.room o.memory;
      valid = d.valid;
      rules = ap (λ (n : ℕ). n + 1) d.rules;
      label = refl;
      heads = refl;
      guards = refl;
      body = refl;
      variables = none_has;
      few = subst (λ (n : ℕ). n < 32) d.rules o.numbers;
      rising = subst (λ (n : ℕ). n < label) d.last o.label;
      small = small;
      good_kept = tt;
      good_taken = tt;
      good_guards = tt;
      good_body = tt;
      few_heads = omega arith;
      few_guards = omega arith;
      few_body = omega arith;
      bound = tt;
    }

pub rule_closed : (t : Tally) (m : List ℕ) (rs : List Parts) (r : Parts) → Opened t m rs r → IsFilling r → Tabled (closed_table t) m (rs ++ r ∷ [])
rule_closed t m rs r o s =
    let g : FormedRule standard r
    = record {
      label = o.small;
      kept = o.good_kept;
      taken = o.good_taken;
      guards = o.good_guards;
      body = o.good_body;
      some_head = omega arith;
      few_heads = o.few_heads;
      few_guards = o.few_guards;
      few_body = o.few_body;
    } in
    record {
      words = subst (λ (v : List ℕ). Front t.used m v) (sym (joined_push rule_words rs r)) o.words;
      valid =
          record {
            formed = record { few = omega (arith, o.few, length_push rs r); each = All-push (FormedRule standard) rs r o.valid.formed.each g };
            sound = All-push Sound rs r o.valid.sound (record { bound = o.bound; takes = s });
            rising = rising_push 0 rs r o.valid.rising o.rising;
          };
      rules = o.rules ∙ sym (length_push rs r);
      last = o.label ∙ sym (last_push 0 rs r);
    }

pub table_ended : (w : TableWriter) (n : ℕ) (m m' : List ℕ) (rs : List Parts) → Tabled w m rs → n ≡ w.used + 1 →
    m' ≡ placed w.used (word 15 0 ∷ []) m → Ended n m m' rs
table_ended w n m m' rs d e p =
    let q : m' ≡ written rs ++ drop n m
    = p ∙ ap₂ (λ (v : List ℕ) (i : ℕ). v ++ (word 15 0 ∷ drop i m)) d.words.1 (sym e)
    ∙ sym (append_assoc (flat_map rule_words rs) (word 15 0 ∷ []) (drop n m)) in
    record {
      valid = d.valid;
      words = e ∙ ap (λ (i : ℕ). i + 1) d.words.0 ∙ sym (length_push (flat_map rule_words rs) (word 15 0));
      memory = q;
      loads = ap (read_table standard) q ∙ table_all standard rs (drop n m) d.valid.formed;
    }
