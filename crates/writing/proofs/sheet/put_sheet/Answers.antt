-- The parts of the text, one after another.
use Rattle.writing.proofs.Writing.{wrote_then}
use Rattle.writing.proofs.sheet.put_sheet.Goals as goal

pub returns : goal.returns
returns g c = wrote_then c.put_items.ensures (wrote_then c.put_rows.ensures c.put_rows-2.ensures)
