-- The sizes are the lengths of what is written.
use Rattle.std.proofs.Common.{◌≡◌, ℕ, suc, ◌+◌, List, [], ◌∷◌, length, sum_by, sym, refl, ◌∙◌, ap₂, arith, length-append}
use Rattle.std.specs.List.{flat_map}
use Rattle.std.proofs.lemmas.List.Sums.{sum_by-cons}
use Rattle.grammar.specs.declared.part.Operand.{Operand}
use Rattle.grammar.specs.declared.part.Operand.TheVariants.{Var, Const}
use Rattle.grammar.specs.declared.part.Term.{Term}
use Rattle.grammar.specs.declared.part.Term.TheVariants.{One, Sum, Diff}
use Rattle.grammar.specs.declared.part.Atom.{Atom}
use Rattle.grammar.specs.Atoms.{Head, BodyFact}
use Rattle.grammar.specs.declared.part.Guard.{Guard}
use Rattle.args.specs.declared.Args.{Args}
use Rattle.args.specs.declared.Args.TheVariants.{Zero, One as OneArg, Two, Three}
use Rattle.args.specs.Listed.{listed, amount}
use Rattle.grammar.specs.Parts.{Parts}
use Rattle.grammar.specs.Writing.{operand_words, term_words, atom_words, head_words, guard_words, body_words, heads_words, tail_words, rule_words}
use Rattle.grammar.specs.Sizes.{operand_size, term_size, atom_size, head_size, guard_size, body_size, heads_size, rule_size}

-- the length of what is written one after the other
pub length_joined : {X : Type 0} (words : X → List ℕ) (size : X → ℕ) → ((x : X) → length (words x) ≡ size x) → (xs : List X) → length (flat_map words xs) ≡ sum_by size xs
length_joined words size h [] = refl
length_joined words size h (x ∷ xs) =
    length-append (words x) (flat_map words xs) ∙ ap₂ (λ (m n : ℕ). m + n) (h x) (length_joined words size h xs) ∙ sym (sum_by-cons size x xs)

operand_length : (a : Operand) → length (operand_words a) ≡ operand_size a
operand_length (Var v) = refl
operand_length (Const n) = refl

pub term_length : (t : Term) → length (term_words t) ≡ term_size t
term_length (One a) = operand_length a
term_length (Sum a b) = simp length-append (omega (arith, operand_length a, operand_length b))
term_length (Diff a b) = simp length-append (omega (arith, operand_length a, operand_length b))

atom_length : {A : Type 0} (words : A → List ℕ) (size : A → ℕ) → ((x : A) → length (words x) ≡ size x) → (k : ℕ) (a : Atom A) → length (atom_words words k a) ≡ atom_size size a
atom_length words size h k a = omega (arith, length_joined words size h (listed a.args))

pub head_length : (k : ℕ) (h : Head) → length (head_words k h) ≡ head_size h
head_length = atom_length operand_words operand_size operand_length

amount_sum : (xs : Args Operand) → sum_by operand_size (listed xs) ≡ amount xs
amount_sum Zero = refl
amount_sum (OneArg a) = refl
amount_sum (Two a b) = refl
amount_sum (Three a b c) = refl

-- a head is its first word and a word for each operand
pub head_counted : (h : Head) → head_size h ≡ 1 + amount h.args
head_counted h = omega (arith, amount_sum h.args)

pub guard_length : (g : Guard) → length (guard_words g) ≡ guard_size g
guard_length g = simp length-append (omega (arith, term_length g.left, term_length g.right))

pub body_length : (b : BodyFact) → length (body_words b) ≡ body_size b
body_length = atom_length term_words term_size term_length 5

pub heads_length : (r : Parts) → suc (length (heads_words r)) ≡ heads_size r
heads_length r =
    simp length-append
    (omega (arith, length_joined (head_words 2) head_size (head_length 2) r.kept, length_joined (head_words 3) head_size (head_length 3) r.taken))

pub rule_length : (r : Parts) → length (rule_words r) ≡ rule_size r
rule_length r =
    let e : length (tail_words r) ≡ sum_by guard_size r.guards + sum_by body_size r.body
    = length-append (flat_map guard_words r.guards) (flat_map body_words r.body)
    ∙ ap₂ (λ (m n : ℕ). m + n) (length_joined guard_words guard_size guard_length r.guards) (length_joined body_words body_size body_length r.body) in
    omega (arith, heads_length r, length-append (heads_words r) (tail_words r))
