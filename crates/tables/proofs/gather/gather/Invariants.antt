use Rattle.tables.proofs.Gathering.{Gathered}
use Rattle.tables.proofs.gather.gather.Given as goal

abbrev pub invariant-loop-i : goal.invariant-loop-i
invariant-loop-i g l = Gathered l.n g.K.SetKind.holds l.items l.i-counter (g.K.SetKind.mem l.row)
