use Rattle.std.proofs.Common.{arith}
use Rattle.std.proofs.lemmas.Result.{err_from_is_err_and}
use Rattle.sheets.proofs.Counting.{counts_refused, counts_other, counts_same}
use Rattle.sheets.proofs.counts.check_counts.Goals as goal

pub returns-in_err-n : goal.returns-in_err-n
returns-in_err-n g c =
    let e = err_from_is_err_and c.from_residual.result c.from_residual.ensures.1 in
    rw (e.1, e.2) (counts_refused _ _ _ _ c.in_err-n.ensures.checks)

pub returns-then-n-labels : goal.returns-then-n-labels
returns-then-n-labels g c = counts_other _ _ _ _ c.in_ok-n.ensures.count.0 c.in_ok-n.ensures.checks (λ e. omega arith)

pub returns : goal.returns
returns g c = counts_same _ _ _ _ c.in_ok-n.ensures.count.0 c.in_ok-n.ensures.checks (omega arith)
