use Rattle.std.proofs.Common.{map, length}
use Rattle.tables.specs.Memory.{meant}
use Rattle.duality.proofs.Blocking.{Held}
use Rattle.duality.proofs.auditing.first_in_blocks.Given as goal

abbrev pub invariant-holding : goal.invariant-holding
invariant-holding g l = let f = meant g.K.SetKind.mem in Held (map f l.paths) (map f l.cuts) (map f l.rest) l.first

abbrev pub decreases-holding : goal.decreases-holding
decreases-holding g l = length l.rest
