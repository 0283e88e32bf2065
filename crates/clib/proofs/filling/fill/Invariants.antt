-- The rows so far are put.
use Rattle.std.proofs.Common.{drop}
use Rattle.tables.specs.Tables.{Kept}
use Rattle.clib.specs.Fills.{cut}
use Rattle.clib.proofs.Filled.{Going}
use Rattle.clib.proofs.filling.fill.Given as goal

abbrev pub invariant-loop-len : goal.invariant-loop-len
invariant-loop-len g l = record {
  kept : Kept l.initial.table l.table;
  going : Going g.K.SetKind.mem g.K.SetKind.holds (cut l.rows.items.now l.rows.lens.now) l.initial.table (cut l.left (drop l.len-index l.rows.lens.now)) l.table;
}
