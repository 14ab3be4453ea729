-- Reading words from the front: what was read with the words after it, or a refusal.
use Rattle.std.specs.Prelude.{ℕ, zero, suc, ◌+◌, ◌-◌, cond, List, [], ◌∷◌, length, ◌==◌, nat_lt}
use Rattle.words.specs.Words.{kind_of, payload_of, clean, name_in, count_in, label_in, signed}
use Rattle.grammar.specs.declared.reason.Reason.{Reason}
use Rattle.grammar.specs.declared.reason.Reason.TheVariants.{OutOfTurn, StrayBit, OutOfRange}
use Rattle.grammar.specs.declared.part.Operand.{Operand}
use Rattle.grammar.specs.declared.part.Operand.TheVariants.{Var, Const}
use Rattle.grammar.specs.declared.part.Term.{Term}
use Rattle.grammar.specs.declared.part.Term.TheVariants.{One as Single, Sum, Diff}
use Rattle.grammar.specs.declared.part.Test.{Test}
use Rattle.grammar.specs.declared.part.Test.TheVariants.{Equal, NotEqual, Less, AtMost}
use Rattle.args.specs.declared.Args.{Args}
use Rattle.args.specs.declared.Args.TheVariants.{Zero, One, Two, Three}
use Rattle.grammar.specs.declared.part.Atom.{Atom}
use Rattle.grammar.specs.Atoms.{Head, BodyFact}
use Rattle.grammar.specs.declared.part.Guard.{Guard}
use Rattle.grammar.specs.Parts.{Parts}
use Rattle.grammar.specs.Writing.{Limits}

-- a refusal has its reason and how many words were left, the faulty one counted
pub data Parsed (A : Type 0) : Type 0 where
  ok : A → List ℕ → Parsed A
  no : Reason → ℕ → Parsed A

abbrev pub then : {A B : Type 0} → Parsed A → (A → List ℕ → Parsed B) → Parsed B
then (ok a ws) f = f a ws
then (no r n) f = no r n

abbrev pub read_operand : List ℕ → Parsed Operand
read_operand [] = no OutOfTurn 0
read_operand (w ∷ ws) =
    cond (kind_of w == 6)
    (cond (clean w)
    (cond (nat_lt 7 (count_in (payload_of w))) (no OutOfRange (suc (length ws))) (ok (Var (count_in (payload_of w))) ws))
    (no StrayBit (suc (length ws))))
    (cond (kind_of w == 7)
    (cond (clean w) (ok (Const (signed (payload_of w))) ws) (no StrayBit (suc (length ws))))
    (no OutOfTurn (suc (length ws))))

abbrev pub read_pair : List ℕ → Parsed (Operand × Operand)
read_pair ws = then (read_operand ws) (λ a us. then (read_operand us) (λ b vs. ok (a, b) vs))

abbrev pub read_term : List ℕ → Parsed Term
read_term [] = no OutOfTurn 0
read_term (w ∷ ws) =
    cond (kind_of w == 8)
    (cond (clean w) (then (read_pair ws) (λ x us. ok (Sum x.0 x.1) us)) (no StrayBit (suc (length ws))))
    (cond (kind_of w == 9)
    (cond (clean w) (then (read_pair ws) (λ x us. ok (Diff x.0 x.1) us)) (no StrayBit (suc (length ws))))
    (then (read_operand (w ∷ ws)) (λ a us. ok (Single a) us)))

-- that many arguments, at most three
abbrev pub read_args : {A : Type 0} → (List ℕ → Parsed A) → ℕ → List ℕ → Parsed (Args A)
read_args p zero ws = ok Zero ws
read_args p (suc zero) ws = then (p ws) (λ a us. ok (One a) us)
read_args p (suc (suc zero)) ws = then (p ws) (λ a us. then (p us) (λ b vs. ok (Two a b) vs))
read_args p (suc (suc (suc n))) ws =
    then (p ws) (λ a us. then (p us) (λ b vs. then (p vs) (λ c xs. ok (Three a b c) xs)))

-- the rest of an atom, given its first word's payload
abbrev pub read_atom : {A : Type 0} → (List ℕ → Parsed A) → ℕ → List ℕ → Parsed (Atom A)
read_atom p n ws =
    cond (nat_lt 3 (count_in n)) (no OutOfRange (suc (length ws)))
    (then (read_args p (count_in n) ws) (λ xs us. ok (record { name = name_in n; args = xs }) us))

abbrev pub read_head : ℕ → List ℕ → Parsed Head
read_head n ws = read_atom read_operand n ws

abbrev pub test_at : ℕ → Test
test_at zero = Equal
test_at (suc zero) = NotEqual
test_at (suc (suc zero)) = Less
test_at (suc (suc (suc n))) = AtMost

abbrev pub read_guard : ℕ → List ℕ → Parsed Guard
read_guard n ws =
    cond (nat_lt 3 (count_in n)) (no OutOfRange (suc (length ws)))
    (then (read_term ws) (λ a us. then (read_term us) (λ b vs. ok (record { test = test_at (count_in n); left = a; right = b }) vs)))

abbrev pub read_body : ℕ → List ℕ → Parsed BodyFact
read_body n ws = read_atom read_term n ws

-- the parts of one kind that stand next, `room` at most
abbrev pub read_parts : {A : Type 0} → (ℕ → List ℕ → Parsed A) → ℕ → ℕ → List ℕ → Parsed (List A)
read_parts p k room [] = ok [] []
read_parts p k zero (w ∷ ws) =
    cond (kind_of w == k)
    (cond (clean w) (no OutOfRange (suc (length ws))) (no StrayBit (suc (length ws))))
    (ok [] (w ∷ ws))
read_parts p k (suc room) (w ∷ ws) =
    cond (kind_of w == k)
    (cond (clean w)
    (then (p (payload_of w) ws) (λ x us. then (read_parts p k room us) (λ xs vs. ok (x ∷ xs) vs)))
    (no StrayBit (suc (length ws))))
    (ok [] (w ∷ ws))

-- the rest of a rule, given its label: only a head may follow the RULE word
abbrev pub read_rule : Limits → ℕ → List ℕ → Parsed Parts
read_rule L label ws =
    then (read_parts read_head 2 L.heads ws) (λ ks us.
    then (read_parts read_head 3 (L.heads - length ks) us) (λ ts vs.
    cond (length ks + length ts == 0) (no OutOfTurn (length vs))
    (then (read_parts read_guard 4 L.guards vs) (λ gs xs.
    then (read_parts read_body 5 L.body xs) (λ bs ys.
    ok (record { label = label; kept = ks; taken = ts; guards = gs; body = bs }) ys)))))

-- rules until END, `room` at most
abbrev pub read_rules : Limits → ℕ → List ℕ → Parsed (List Parts)
read_rules L room [] = no OutOfTurn 0
read_rules L zero (w ∷ ws) =
    cond (kind_of w == 15)
    (cond (clean w) (ok [] ws) (no StrayBit (suc (length ws))))
    (cond (kind_of w == 1)
    (cond (clean w) (no OutOfRange (suc (length ws))) (no StrayBit (suc (length ws))))
    (no OutOfTurn (suc (length ws))))
read_rules L (suc room) (w ∷ ws) =
    cond (kind_of w == 15)
    (cond (clean w) (ok [] ws) (no StrayBit (suc (length ws))))
    (cond (kind_of w == 1)
    (cond (clean w)
    (then (read_rule L (label_in (payload_of w)) ws) (λ r us. then (read_rules L room us) (λ rs vs. ok (r ∷ rs) vs)))
    (no StrayBit (suc (length ws))))
    (no OutOfTurn (suc (length ws))))

abbrev pub read_table : Limits → List ℕ → Parsed (List Parts)
read_table L ws = read_rules L L.rules ws
