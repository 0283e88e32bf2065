use Rattle.std.proofs.Common.{length}
use Rattle.sheets.specs.Bytes.{Row}
use Rattle.sheets.proofs.line.is_row.Given as goal

abbrev pub invariant-loop-rest : goal.invariant-loop-rest
invariant-loop-rest l = (Row l.rest → Row l.s) × (Row l.s → Row l.rest)

abbrev pub decreases-loop-rest : goal.decreases-loop-rest
decreases-loop-rest l = length l.rest
