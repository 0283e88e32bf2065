use Rattle.std.proofs.Common.{arith}
use Rattle.std.proofs.lemmas.Result.{err_from_is_err_and}
use Rattle.tables.specs.Calls.{row_closed, no_such_row}
use Rattle.tables.proofs.table.Table.index.Goals as goal

pub returns-in_err-opened : goal.returns-in_err-opened
returns-in_err-opened g c =
    let p = err_from_is_err_and c.from_residual.result c.from_residual.ensures.1 in
    rw (p.1, p.2, c.in_err-opened.ensures.1) (row_closed c.in_err-opened.ensures.0)

pub returns-then-row-self : goal.returns-then-row-self
returns-then-row-self g c = no_such_row (omega arith) (omega arith)
