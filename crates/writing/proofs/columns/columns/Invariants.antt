-- From the column `at` on stand the last digits.
use Rattle.writing.proofs.Digits.{Digits}
use Rattle.writing.proofs.columns.columns.Given as goal

abbrev pub invariant-loop-at : goal.invariant-loop-at
invariant-loop-at g l = Digits g.row.N l.n l.bytes l.at l.left
