-- Both tables keep their places, and have the rows of the lines so far.
use Rattle.std.proofs.Common.{◌≤◌, ◌+◌, ◌-◌, length, drop, map}
use Rattle.tables.specs.Tables.{Kept}
use Rattle.sheets.specs.Labels.{named}
use Rattle.sheets.proofs.TablesGoing.{Going}
use Rattle.sheets.proofs.rows.put_rows.Given as goal

abbrev pub invariant-rows : goal.invariant-rows
invariant-rows g l =
    let initial = l.initial in
    record {
      paths_kept : Kept initial.paths l.paths;
      cuts_kept : Kept initial.cuts l.cuts;
      inside : l.at ≤ length l.text;
      low : l.nth ≤ l.at + 1;
      going : Going g.K.SetKind.mem g.K.SetKind.holds (map (named l.text) l.places) (drop l.from l.text) l.first initial.paths initial.cuts l.paths l.cuts (drop l.at l.text) l.nth;
    }

abbrev pub decreases-rows : goal.decreases-rows
decreases-rows g l = length l.text - l.at
