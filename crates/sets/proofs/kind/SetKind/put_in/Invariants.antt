use Rattle.std.proofs.Common.{◌-◌}
use Rattle.sets.proofs.Walk.{so_far}
use Rattle.sets.proofs.ColumnLaws.{PutFor}
use Rattle.sets.proofs.kind.SetKind.put_in.Given as goal

abbrev pub invariant-putting : goal.invariant-putting
invariant-putting g l = PutFor l.fn.columns l.columns (so_far (g.Self.SetKind.mem l.self) l.from) l.place

abbrev pub decreases-putting : goal.decreases-putting
decreases-putting g l = g.Self.SetKind.top - l.from
