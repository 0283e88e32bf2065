use Rattle.std.proofs.Common.{length, map}
use Rattle.sheets.specs.Labels.{named}
use Rattle.sheets.proofs.Looking.{Looking}
use Rattle.sheets.proofs.look.look_up.Given as goal

abbrev pub invariant-labels : goal.invariant-labels
invariant-labels l = Looking (map (named l.text) l.places) l.row l.memory l.rest l.count

abbrev pub decreases-labels : goal.decreases-labels
decreases-labels l = length l.rest
