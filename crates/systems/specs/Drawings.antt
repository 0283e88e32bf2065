-- A drawing in a state. Assumes nothing.
use Rattle.std.specs.Prelude.{◌≡◌, T}
use Rattle.systems.specs.States.{up}
use Rattle.systems.specs.Systems.{Structure}
use Rattle.systems.specs.declared.state.State.{State}

-- the state has the item count, and the system works in it
abbrev pub WorksIn : Structure → State → Type 0
WorksIn φ s = (s.count ≡ φ.items) × T (φ.works (up s))
