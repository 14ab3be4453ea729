-- What the places of the built stores hold.
use Rattle.std.specs.Prelude.{List, ℤ}
use Rattle.facts.specs.Meanings.{Meaning}
use Rattle.facts.specs.Places.{Place}
use Rattle.stores.specs.Cells.{flat_place, packed_place, places_of}
use Rattle.stores.specs.declared.cell.FlatCell.{FlatCell}
use Rattle.stores.specs.declared.cell.PackedCell.{PackedCell}
use Rattle.stores.specs.declared.cell_store.CellStore.{CellStore}
use Rattle.stores.specs.declared.flat.Mark.{Mark}
use Rattle.stores.specs.declared.packed.Top.{Top}

-- the places of a store on lent cells, each of which means a place
abbrev pub cells_of : {C P : Type 0} → (C → Place Meaning) → CellStore C P → List (Place Meaning)
cells_of place s = places_of place s.cells.now

-- a FlatStore and a PackedStore, since antt has no name for an alias
abbrev pub FlatStore : Type 0 → Type 0
FlatStore V = CellStore (FlatCell V) Mark

abbrev pub PackedStore : Type 0 → Type 0
PackedStore V = CellStore (PackedCell V) Top

abbrev pub flat_cells : {V : Type 0} → (V → ℤ) → FlatStore V → List (Place Meaning)
flat_cells means s = cells_of (flat_place means) s

abbrev pub packed_cells : {V : Type 0} → ℤ → ℤ → PackedStore V → List (Place Meaning)
packed_cells low high s = cells_of (packed_place low high) s
