use Rattle.std.proofs.Common.{◌-◌, List, length}
use Rattle.sheets.specs.Bytes.{Bytes}
use Rattle.sheets.proofs.Going.{Going}
use Rattle.sheets.proofs.items.all_items.Given as goal

abbrev pub invariant-items : goal.invariant-items
invariant-items l = (ls : List Bytes) × Going l.text l.initial.places l.places l.at l.count ls

abbrev pub decreases-items : goal.decreases-items
decreases-items l = length l.text - l.at
