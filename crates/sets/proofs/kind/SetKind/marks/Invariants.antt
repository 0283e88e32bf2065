use Rattle.std.proofs.Common.{◌-◌}
use Rattle.sets.specs.Sets.{Same}
use Rattle.sets.specs.Marks.{marked}
use Rattle.sets.proofs.Walk.{so_far}
use Rattle.sets.proofs.kind.SetKind.marks.Given as goal

abbrev pub invariant-marking : goal.invariant-marking
invariant-marking g l = Same (marked l.marks) (so_far (g.Self.SetKind.mem l.self) l.from)

abbrev pub decreases-marking : goal.decreases-marking
decreases-marking g l = g.Self.SetKind.top - l.from
