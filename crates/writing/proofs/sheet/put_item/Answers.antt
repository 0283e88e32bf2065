-- The parts of the line, one behind the other.
use Rattle.writing.proofs.Lines.{item_line_shown}
use Rattle.writing.proofs.Writing.{wrote_then, wrote_same}
use Rattle.writing.proofs.sheet.put_item.Goals as goal

pub returns : goal.returns
returns c =
    wrote_same (item_line_shown c.args.item c.args.label.now c.requires.narrow)
    (wrote_then c.put.ensures (wrote_then (wrote_same c.columns.ensures c.put-2.ensures) (wrote_then c.put-3.ensures (wrote_then c.put-4.ensures c.put-5.ensures))))
