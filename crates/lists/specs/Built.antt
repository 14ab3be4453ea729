-- What waits in a built list. Every value of it has a meaning.
use Rattle.std.specs.Prelude.{◌≡◌, ℕ, ◌+◌, ◌<◌, min, cond, ◌⊎◌, List, ◌++◌, map, length, take, drop, ℤ, nat_eq, nat_lt}
use Rattle.facts.specs.declared.fact.Fact.{Fact}
use Rattle.facts.specs.Meanings.{Meaning, meaning}
use Rattle.facts.specs.Reads.{cut}
use Rattle.lists.specs.declared.ring.RingList.{RingList}

-- what a fact in the memory means; its count is read as at most 3
abbrev pub kept : {V : Type 0} → (V → ℤ) → Fact V → Meaning
kept means f = meaning means (cut f)

-- the facts of a memory that a list uses: the first 4,096
abbrev pub used : {X : Type 0} → List X → List X
used memory = take 4096 memory

-- a list read from an index on, going round; from its end on is from its start on
abbrev pub rotated : {X : Type 0} → ℕ → List X → List X
rotated k xs = drop k xs ++ take k xs

abbrev pub ring_start : ℕ → ℕ → ℕ
ring_start first capacity = cond (nat_lt first capacity) first 0

-- where the position k of a ring stands: the ring starts at first, or at 0 where first is no index of it
abbrev pub Slot : ℕ → ℕ → ℕ → ℕ → Type 0
Slot first k capacity r =
    (r < capacity) × ((r ≡ ring_start first capacity + k) ⊎ (r + capacity ≡ ring_start first capacity + k))

-- where a list starts in its memory: at its front where the last fact is given, else at the index first
abbrev pub start : {V : Type 0} {last : ℕ} → RingList V last → ℕ
start {last} l = cond (nat_eq last 0) l.first 0

abbrev pub waiting : {V : Type 0} {last : ℕ} → (V → ℤ) → RingList V last → List Meaning
waiting means l = map (kept means) (take l.len (rotated (start l) (used l.memory.now)))

abbrev pub capacity : {V : Type 0} {last : ℕ} → RingList V last → ℕ
capacity l = min 4096 (length l.memory.now)
