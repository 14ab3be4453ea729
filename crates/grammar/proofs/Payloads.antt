-- Words made of a kind and a payload, and which payloads a kind allows.
use Rattle.std.proofs.Common.{◌≡◌, ℕ, suc, ◌+◌, ◌-◌, ◌*◌, ◌/◌, ◌%◌, ◌^◌, ◌<◌, ◌≤◌, Bool, true, false, cond, eqb, ltb, ℤ, pos, negsuc, ◌-ℤ◌, refl, ◌∙◌, arith}
use lib.Bits.{bit_and}
use Rattle.std.proofs.lemmas.Bool.Decides.{nat_tests}
use Rattle.std.proofs.lemmas.Nat.{and_mask, and_shr, and_mod, shr_split, and_le_r}
use Rattle.std.proofs.lemmas.Int.{ints}
use Rattle.words.specs.Words.{kind_of, payload_of, word, allowed, clean, name_in, count_in, label_in, signed, unsigned, FullRange}

pub kind_word : (k n : ℕ) → n < 2 ^ 28 → kind_of (word k n) ≡ k
kind_word k n h = omega arith

pub payload_word : (k n : ℕ) → n < 2 ^ 28 → payload_of (word k n) ≡ n
payload_word k n h = omega arith

pub payload_lt : (w : ℕ) → payload_of w < 2 ^ 28
payload_lt w = omega arith

-- a word is its kind and its payload
pub word_parts : (w k n : ℕ) → kind_of w ≡ k → payload_of w ≡ n → w ≡ word k n
word_parts w k n e f = omega arith

pub clean_word : (k n : ℕ) → n < 2 ^ 28 → allowed k n ≡ true → clean (word k n) ≡ true
clean_word k n h a = rw (kind_word k n h, payload_word k n h) a

pub clean_payload : (w k : ℕ) → kind_of w ≡ k → clean w ≡ true → allowed k (payload_of w) ≡ true
clean_payload w k e c = rw e at c

is_and : (n m : ℕ) → eqb (bit_and n m) n ≡ true → bit_and n m ≡ n
is_and n m h = grind (arith, nat_tests)

-- the kinds that use no bit
pub none_only : (n : ℕ) → eqb (bit_and n 0) n ≡ true → n ≡ 0
none_only n h = let e : bit_and n 0 ≡ n = is_and n 0 h in omega (arith, and_le_r n 0)

-- the kinds that use four bits
pub four_only : (n : ℕ) → eqb (bit_and n 15) n ≡ true → count_in n ≡ n
four_only n h = let e : bit_and n 15 ≡ n = is_and n 15 h in let m : bit_and n 15 ≡ n % 2 ^ 4 = and_mask n 4 in omega arith

pub four_all : (n : ℕ) → n < 2 ^ 4 → eqb (bit_and n 15) n ≡ true
four_all n h = let m : bit_and n 15 ≡ n = and_mask n 4 ∙ omega arith in grind (arith, nat_tests)

-- RULE: a label of sixteen bits
pub label_only : (n : ℕ) → eqb (bit_and n 65535) n ≡ true → label_in n ≡ n
label_only n h = let e : bit_and n 65535 ≡ n = is_and n 65535 h in let m : bit_and n 65535 ≡ n % 2 ^ 16 = and_mask n 16 in omega arith

pub label_all : (n : ℕ) → n < 2 ^ 16 → eqb (bit_and n 65535) n ≡ true
label_all n h = let m : bit_and n 65535 ≡ n = and_mask n 16 ∙ omega arith in grind (arith, nat_tests)

-- CONST: all 28 bits
pub const_all : (n : ℕ) → n < 2 ^ 28 → eqb (bit_and n 268435455) n ≡ true
const_all n h = let m : bit_and n 268435455 ≡ n = and_mask n 28 ∙ omega arith in grind (arith, nat_tests)

-- a name and a count
and_fact : (n : ℕ) → bit_and n 0xFF000F ≡ n / 65536 % 256 * 65536 + n % 16
and_fact n =
    let h : bit_and n 0xFF000F / 65536 ≡ n / 65536 % 256 = and_shr n 0xFF000F 16 ∙ and_mask (n / 65536) 8 in
    let l : bit_and n 0xFF000F % 65536 ≡ n % 65536 % 16 = and_mod n 0xFF000F 16 ∙ and_mask (n % 65536) 4 in
    omega (arith, shr_split (bit_and n 0xFF000F) 16)

pub fact_only : (n : ℕ) → eqb (bit_and n 0xFF000F) n ≡ true → n ≡ name_in n * 2 ^ 16 + count_in n
fact_only n h = let e : bit_and n 0xFF000F ≡ n = is_and n 0xFF000F h in omega (arith, and_fact n)

pub fact_all : (name count : ℕ) → name < 2 ^ 8 → count < 2 ^ 4 → eqb (bit_and (name * 2 ^ 16 + count) 0xFF000F) (name * 2 ^ 16 + count) ≡ true
fact_all name count hn hc =
    let e : bit_and (name * 2 ^ 16 + count) 0xFF000F ≡ name * 2 ^ 16 + count = omega (arith, and_fact (name * 2 ^ 16 + count)) in
    grind (arith, nat_tests)

pub name_in_lem : (name count : ℕ) → name < 2 ^ 8 → count < 2 ^ 4 → name_in (name * 2 ^ 16 + count) ≡ name
name_in_lem name count hn hc = omega arith

pub count_in_lem : (name count : ℕ) → count < 2 ^ 4 → count_in (name * 2 ^ 16 + count) ≡ count
count_in_lem name count hc = omega arith

-- constants
pub unsigned_lt : (n : ℤ) → FullRange n → unsigned n < 2 ^ 28
unsigned_lt (pos n) h = omega arith
unsigned_lt (negsuc n) h = omega arith

pub signed_unsigned : (n : ℤ) → FullRange n → signed (unsigned n) ≡ n
signed_unsigned (pos n) h = grind (arith, ints, nat_tests)
signed_unsigned (negsuc n) h = grind (arith, ints, nat_tests)

below : (l : ℕ) → 2 ^ 27 ≤ l → l < 2 ^ 28 → pos l -ℤ pos (2 ^ 28) ≡ negsuc (2 ^ 28 - suc l)
below l h k = omega (arith, ints)

abbrev Back : ℕ → ℤ → Type 0
Back l n = FullRange n × (unsigned n ≡ l)

pub signed_back : (l : ℕ) → l < 2 ^ 28 → Back l (signed l)
signed_back l h = go (ltb l (2 ^ 27)) refl
  where
    go : (b : Bool) → ltb l (2 ^ 27) ≡ b → Back l (cond b (pos l) (pos l -ℤ pos (2 ^ 28)))
    go true e = (grind (arith, nat_tests), refl)
    go false e =
        let g : 2 ^ 27 ≤ l = grind (arith, nat_tests) in
        rw (below l g h) (omega arith, omega arith)
