use Rattle.std.proofs.Common.{◌-◌}
use Rattle.sets.proofs.Walk.{so_far}
use Rattle.sets.proofs.ColumnLaws.{JoinedFor}
use Rattle.sets.proofs.kind.SetKind.join.Given as goal

abbrev pub invariant-joining : goal.invariant-joining
invariant-joining g l = JoinedFor l.columns l.joined (so_far (g.Self.SetKind.mem l.self) l.from)

abbrev pub decreases-joining : goal.decreases-joining
decreases-joining g l = g.Self.SetKind.top - l.from
