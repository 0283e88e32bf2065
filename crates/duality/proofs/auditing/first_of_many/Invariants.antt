use Rattle.std.proofs.Common.{◌≤◌, map, length}
use Rattle.systems.specs.Systems.{Fails}
use Rattle.tables.specs.Memory.{meant}
use Rattle.duality.proofs.Blocking.{Ahead}
use Rattle.duality.proofs.auditing.first_of_many.Given as goal

abbrev pub invariant-turns : goal.invariant-turns
invariant-turns g l = let f = meant g.K.SetKind.mem in record {
  some : 1 ≤ l.at_once;
  ahead : Ahead f l.paths l.rest (Fails (map f l.cuts));
}

abbrev pub decreases-turns : goal.decreases-turns
decreases-turns g l = length l.rest
