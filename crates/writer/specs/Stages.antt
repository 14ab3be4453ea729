-- How far an open rule has come: which parts there are none of yet, and that a head is taken.
use Rattle.std.specs.Prelude.{◌≡◌, ◌<◌, [], length}
use Rattle.grammar.specs.Parts.{Parts}

abbrev pub IsBegun : Parts → Type 0
IsBegun r = (r.taken ≡ []) × (r.guards ≡ []) × (r.body ≡ [])

abbrev pub IsTaking : Parts → Type 0
IsTaking r = (0 < length r.taken) × (r.guards ≡ []) × (r.body ≡ [])

abbrev pub IsGuarding : Parts → Type 0
IsGuarding r = (0 < length r.taken) × (r.body ≡ [])

abbrev pub IsFilling : Parts → Type 0
IsFilling r = 0 < length r.taken
