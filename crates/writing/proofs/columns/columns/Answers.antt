-- Each turn puts a digit; it ends with the first digit, or where no column is left.
use Rattle.std.proofs.Common.{arith}
use Rattle.writing.proofs.Digits.{digits_none, digits_more, digits_all, digits_wide}
use Rattle.writing.proofs.columns.columns.Goals as goal

pub loop-at-init : goal.loop-at-init
loop-at-init g c = digits_none g.row.N c.args.n

pub returns-then-left-eq0 : goal.returns-then-left-eq0
returns-then-left-eq0 g c = digits_all g.row.N c.args.n c.loop-at.at c.loop-at.left c.loop-at.bytes c.loop-at.invariant c.loop-at-test.true c.if-left-eq0.true

pub loop-at-preserved : goal.loop-at-preserved
loop-at-preserved g c = digits_more g.row.N c.args.n c.loop-at.at c.loop-at.left c.loop-at.bytes c.loop-at.invariant c.loop-at-test.true (omega arith) c.if-left-eq0.false

pub returns : goal.returns
returns g c = digits_wide g.row.N c.args.n c.loop-at.at c.loop-at.left c.loop-at.bytes c.loop-at.invariant c.loop-at-test.false (omega arith)
