-- The lines of the rows from `row-index` on are left.
use Rattle.std.proofs.Common.{drop, map}
use Rattle.tables.specs.Memory.{meant}
use Rattle.sheets.specs.Labels.{named}
use Rattle.writing.specs.SheetTexts.{lines_of}
use Rattle.writing.proofs.Going.{Going}
use Rattle.writing.proofs.sheet.put_rows.Given as goal

abbrev pub invariant-loop-row : goal.invariant-loop-row
invariant-loop-row g l =
    let names = map (named l.text) l.places in
    let rows = map (meant g.K.SetKind.mem) l.rows in
    Going l.initial.page l.page (lines_of l.head names rows) (lines_of l.head names (drop l.row-index rows))
