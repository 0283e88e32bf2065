-- The line of the verdict, and the lines of the state behind it.
use Rattle.std.proofs.Common.{map, sym, ap}
use Rattle.sheets.specs.Labels.{named}
use Rattle.writing.specs.Reports.{verdict_lines}
use Rattle.writing.proofs.Writing.{wrote_then, wrote_same}
use Rattle.writing.proofs.report.put_verdict.Goals as goal

pub returns-in-Miss : goal.returns-in-Miss
returns-in-Miss c =
    let names = map (named c.args.text.now) c.args.places.now in
    wrote_same (ap (verdict_lines names) (sym c.in-Miss.is)) (wrote_then c.put-in-Miss.ensures c.put_state.ensures)

pub returns-in-Both : goal.returns-in-Both
returns-in-Both c =
    let names = map (named c.args.text.now) c.args.places.now in
    wrote_same (ap (verdict_lines names) (sym c.in-Both.is)) (wrote_then c.put-in-Both.ensures c.put_state-in-Both.ensures)
