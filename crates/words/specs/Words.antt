-- A 32-bit word: its kind in the top four bits, and its payload below.
use Rattle.std.specs.Prelude.{ℕ, suc, ◌+◌, ◌-◌, ◌*◌, ◌/◌, ◌%◌, ◌^◌, ◌<◌, Bool, cond, List, [], ◌∷◌, ℤ, pos, negsuc, ◌-ℤ◌, ◌==◌, bit_and, nat_lt, slice_index, codes}
use Rattle.words.specs.declared.kind.Kind.{Kind}
use Rattle.words.specs.declared.kind.Kind.TheVariants.{Blank, Rule, Kept, Taken, Guard, Body, Var, Const, Sum, Diff, Feed, Take, Look, Commit, Size, End}

-- the number of each kind
abbrev pub tag : Kind → ℕ
tag Blank = 0
tag Rule = 1
tag Kept = 2
tag Taken = 3
tag Guard = 4
tag Body = 5
tag Var = 6
tag Const = 7
tag Sum = 8
tag Diff = 9
tag Feed = 10
tag Take = 11
tag Look = 12
tag Commit = 13
tag Size = 14
tag End = 15

-- the name of each kind
abbrev pub kind_text : Kind → List ℕ
kind_text Blank = codes "of kind 0"
kind_text Rule = codes "RULE"
kind_text Kept = codes "KEPT"
kind_text Taken = codes "TAKEN"
kind_text Guard = codes "GUARD"
kind_text Body = codes "BODY"
kind_text Var = codes "VAR"
kind_text Const = codes "CONST"
kind_text Sum = codes "SUM"
kind_text Diff = codes "DIFF"
kind_text Feed = codes "FEED"
kind_text Take = codes "TAKE"
kind_text Look = codes "LOOK"
kind_text Commit = codes "COMMIT"
kind_text Size = codes "SIZE"
kind_text End = codes "END"

abbrev pub kind_of : ℕ → ℕ
kind_of w = w / 2 ^ 28

abbrev pub payload_of : ℕ → ℕ
payload_of w = w % 2 ^ 28

-- a word by its kind's number and its payload
abbrev pub word : ℕ → ℕ → ℕ
word k n = k * 2 ^ 28 + n

-- the payload bits that each kind may use
abbrev pub masks : List ℕ
masks =
    0 ∷ 0xFFFF ∷ 0xFF000F ∷ 0xFF000F ∷ 0xF ∷ 0xFF000F ∷ 0xF ∷ 0xFFFFFFF ∷ 0 ∷ 0 ∷ 0xFF000F ∷ 0xF ∷ 0xF ∷ 0xF ∷ 0xFFFFFF ∷ 0 ∷ []

-- a payload sets no bit that the kind may not use
abbrev pub allowed : ℕ → ℕ → Bool
allowed k n = bit_and n (slice_index masks k) == n

abbrev pub clean : ℕ → Bool
clean w = allowed (kind_of w) (payload_of w)

-- name and count of a head, a body fact or a feed
abbrev pub name_in : ℕ → ℕ
name_in n = n / 2 ^ 16 % 2 ^ 8

abbrev pub count_in : ℕ → ℕ
count_in n = n % 2 ^ 4

abbrev pub label_in : ℕ → ℕ
label_in n = n % 2 ^ 16

-- 28 bits as a two's complement number, and back
abbrev pub signed : ℕ → ℤ
signed n = cond (nat_lt n (2 ^ 27)) (pos n) (pos n -ℤ pos (2 ^ 28))

abbrev pub unsigned : ℤ → ℕ
unsigned (pos n) = n
unsigned (negsuc n) = 2 ^ 28 - suc n

-- −134,217,728 to 134,217,727
abbrev pub FullRange : ℤ → Type 0
FullRange (pos n) = n < 2 ^ 27
FullRange (negsuc n) = n < 2 ^ 27
