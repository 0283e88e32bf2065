-- The line of the counts, and the lines of the verdict.
use Rattle.writing.proofs.Writing.{wrote_then}
use Rattle.writing.proofs.report.put_report.Goals as goal

pub returns : goal.returns
returns c = wrote_then c.put_counts.ensures c.put_verdict.ensures
