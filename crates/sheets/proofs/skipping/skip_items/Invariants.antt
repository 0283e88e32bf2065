use Rattle.std.proofs.Common.{◌-◌, length}
use Rattle.sheets.proofs.Leading.{Skipping}
use Rattle.sheets.proofs.skipping.skip_items.Given as goal

abbrev pub invariant-items : goal.invariant-items
invariant-items l = Skipping l.text l.at l.nth

abbrev pub decreases-items : goal.decreases-items
decreases-items l = length l.text - l.at
