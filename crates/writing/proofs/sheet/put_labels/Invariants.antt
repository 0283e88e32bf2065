-- The labels of the items from the number `from` on are left.
use Rattle.std.proofs.Common.{◌-◌, map}
use Rattle.sheets.specs.Labels.{named}
use Rattle.writing.proofs.RowItems.{LabelsLeft}
use Rattle.writing.proofs.sheet.put_labels.Given as goal

abbrev pub invariant-labels : goal.invariant-labels
invariant-labels g l = LabelsLeft (map (named l.text) l.places) (g.K.SetKind.mem l.row) l.from l.initial.page l.page

abbrev pub decreases-labels : goal.decreases-labels
decreases-labels g l = 256 - l.from
