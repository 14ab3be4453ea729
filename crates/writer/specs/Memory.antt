-- Words put into the caller's memory.
use Rattle.std.specs.Prelude.{ℕ, ◌+◌, List, ◌++◌, length, take, drop}

-- these words stand from a place on, and all others are as before
abbrev pub placed : ℕ → List ℕ → List ℕ → List ℕ
placed at ws memory = take at memory ++ (ws ++ drop (at + length ws) memory)
