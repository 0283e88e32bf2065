-- The report, or the STOP line in its place.
use Rattle.std.proofs.Common.{ap₂}
use Rattle.writing.specs.Reports.{stop_text}
use Rattle.writing.proofs.Calling.{err_is}
use Rattle.writing.proofs.Finding.{answer_report, answer_stop, answer_no_room}
use Rattle.writing.proofs.answer.answer_text.Goals as goal

pub returns-in_err-write_stop-in-Err : goal.returns-in_err-write_stop-in-Err
returns-in_err-write_stop-in-Err c =
    let w = c.in-Err.ensures in
    answer_no_room w.1 w.2 (ap₂ stop_text c.number.ensures c.line.ensures) (err_is c.from_residual.result c.from_residual.ensures.1) c.in_err-write_stop-in-Err.ensures

pub returns-in-Ok : goal.returns-in-Ok
returns-in-Ok c = let w = c.in-Ok.ensures in answer_report w.1 w.2

pub returns-in_ok-write_stop-in-Err : goal.returns-in_ok-write_stop-in-Err
returns-in_ok-write_stop-in-Err c =
    let w = c.in-Err.ensures in
    answer_stop w.1 w.2 (ap₂ stop_text c.number.ensures c.line.ensures) c.in_ok-write_stop-in-Err.ensures
