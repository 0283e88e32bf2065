-- The parts of the line, one after another.
use Rattle.writing.proofs.Writing.{wrote_then, wrote_same}
use Rattle.writing.proofs.stop.put_stop.Goals as goal

pub returns : goal.returns
returns c =
    wrote_then c.put.ensures (wrote_then (wrote_same c.columns.ensures c.put-2.ensures) (wrote_then c.put-3.ensures (wrote_then (wrote_same c.columns-2.ensures c.put-4.ensures) c.put-5.ensures)))
