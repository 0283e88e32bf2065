-- The report is measured, and put if it has room.
use Rattle.std.proofs.Common.{sym, ◌∙◌, arith, rules}
use Rattle.writing.proofs.ReportLengths.{length_report}
use Rattle.writing.proofs.Outputting.{measured, output_no_room, output_put}
use Rattle.writing.proofs.report.write_verdict.Goals as goal

pub put_report-requires : goal.put_report-requires
put_report-requires c =
    let report = c.args.report.now in
    omega (arith, c.requires.few, c.new-measure.ensures.len, length_report c.args.text.now c.args.places.now report.paths report.cuts report.verdict c.requires.short)

pub returns-then-len-out : goal.returns-then-len-out
returns-then-len-out c = output_no_room (measured c.new-measure.ensures.len c.put_report.ensures c.len-len.ensures) c.if-len-out.true

pub returns : goal.returns
returns c =
    let lent = sym (c.put_report-2.ensures.lent ∙ c.new.ensures.lent) in
    output_put (measured c.new-measure.ensures.len c.put_report.ensures c.len-len.ensures) c.if-len-out.false c.new.ensures.memory c.new.ensures.len c.put_report-2.ensures (search (rules, lent))
