-- The parts of the line, one behind the other.
use Rattle.writing.proofs.Writing.{wrote_then}
use Rattle.writing.proofs.sheet.put_row.Goals as goal

pub returns : goal.returns
returns g c = wrote_then c.put.ensures (wrote_then c.put_labels.ensures c.put-2.ensures)
