-- The line is measured, and put if it has room.
use Rattle.std.proofs.Common.{sym, ◌∙◌, arith, rules}
use Rattle.writing.proofs.Lengths.{length_stop}
use Rattle.writing.proofs.Outputting.{measured, output_no_room, output_put}
use Rattle.writing.proofs.stop.write_stop.Goals as goal

pub put_stop-requires : goal.put_stop-requires
put_stop-requires c = omega (arith, length_stop c.args.number c.args.line, c.new-measure.ensures.len)

pub returns-then-len-out : goal.returns-then-len-out
returns-then-len-out c = output_no_room (measured c.new-measure.ensures.len c.put_stop.ensures c.len-len.ensures) c.if-len-out.true

pub returns : goal.returns
returns c =
    let lent = sym (c.put_stop-2.ensures.lent ∙ c.new.ensures.lent) in
    output_put (measured c.new-measure.ensures.len c.put_stop.ensures c.len-len.ensures) c.if-len-out.false c.new.ensures.memory c.new.ensures.len c.put_stop-2.ensures (search (rules, lent))
