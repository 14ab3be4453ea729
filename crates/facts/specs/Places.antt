-- A place of a store.
use Rattle.std.specs.Prelude.{ℕ}

pub data Place (F : Type 0) : Type 0 where
  empty : Place F
  held : (number : ℕ) → F → Place F
