-- The rules of a loaded table, as they are written.
use Rattle.std.proofs.Common.{◌≡◌, ℕ, ◌+◌, ◌<◌, ◌≤◌, List, [], ◌∷◌, ◌++◌, map, length, drop, set, sym, ap, ◌∙◌, subst, arith}
use Rattle.std.specs.List.{flat_map, AllByRecursion}
use Rattle.std.proofs.lemmas.List.{length_push, length-map}
use Rattle.words.specs.Words.{word}
use Rattle.grammar.specs.declared.rule.Rule.{Rule}
use Rattle.grammar.specs.Parts.{Parts, parts}
use Rattle.grammar.specs.Writing.{standard, FormedRule, rule_words, written}
use Rattle.grammar.specs.Validity.{Valid}
use Rattle.writer.specs.Tables.{words_of, FormedRuleOf}
use Rattle.writer.proofs.Places.{Puts, placed_push}
use Rattle.writer.proofs.Rows.{joined_map}

all_unmap : {X Y : Type 0} (P : Y → Type 0) (f : X → Y) (xs : List X) → AllByRecursion P (map f xs) → AllByRecursion (λ x. P (f x)) xs
all_unmap P f [] a = tt
all_unmap P f (x ∷ xs) a = (a.0, all_unmap P f xs a.1)

module _ (ys : List Rule) (rs : List Parts) (e : map parts ys ≡ rs) where
  pub each_formed : Valid rs → AllByRecursion FormedRuleOf ys
  each_formed d = all_unmap (FormedRule standard) parts ys (subst (AllByRecursion (FormedRule standard)) (sym e) d.formed.each)

  pub few_rules : Valid rs → length ys ≤ 32
  few_rules d = let l = sym (length-map ys parts) ∙ ap length e in omega (arith, l, d.formed.few)

  same_words : flat_map words_of ys ≡ flat_map rule_words rs
  same_words = sym (joined_map rule_words parts ys) ∙ ap (flat_map rule_words) e

  whole : flat_map words_of ys ++ word 15 0 ∷ [] ≡ written rs
  whole = ap (λ (v : List ℕ). v ++ word 15 0 ∷ []) same_words

  pub whole_length : length (flat_map words_of ys) + 1 ≡ length (written rs)
  whole_length = sym (length_push (flat_map words_of ys) (word 15 0)) ∙ ap length whole

  pub table_puts : (at : ℕ) (m m' : List ℕ) → length (flat_map words_of ys) < length m → Puts 0 (flat_map words_of ys) m at m' →
      (at + 1 ≡ length (written rs)) × (set m' at (word 15 0) ≡ written rs ++ drop (at + 1) m)
  table_puts at m m' h p =
      let f : at ≡ 0 + length (flat_map words_of ys) = p.1 in
      let k : at < length m = omega arith in
      let l = length_push (flat_map words_of ys) (word 15 0) in
      let n : 0 + length (flat_map words_of ys ++ word 15 0 ∷ []) ≡ at + 1 = omega arith in
      let w = whole_length in (
        omega arith,
        ap (λ (v : List ℕ). set v at (word 15 0)) p.0 ∙ placed_push 0 at (flat_map words_of ys) m (word 15 0) f k
            ∙ ap (λ (i : ℕ). (flat_map words_of ys ++ word 15 0 ∷ []) ++ drop i m) n ∙ ap (λ (v : List ℕ). v ++ drop (at + 1) m) whole,
      )
