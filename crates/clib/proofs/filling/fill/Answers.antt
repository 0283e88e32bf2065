-- Each turn puts a row, or is refused.
use Rattle.std.proofs.Common.{Result, sym, subst}
use Rattle.tables.specs.declared.fault.TableFault.{TableFault}
use Rattle.tables.proofs.Keeping.{kept_trans}
use Rattle.writing.proofs.Calling.{err_is}
use Rattle.clib.specs.Fills.{cut}
use Rattle.clib.proofs.Filled.{Filled, going_all, going_refused, going_next}
use Rattle.clib.proofs.filling.fill.Goals as goal

pub returns-in_err-put-clause-fills : goal.returns-in_err-put-clause-fills
returns-in_err-put-clause-fills g c =
    let mem = g.K.SetKind.mem in
    let holds = g.K.SetKind.holds in
    let all = cut c.args.rows.now.items.now c.args.rows.now.lens.now in
    let filled = going_refused mem holds c.loop-len.left.now c.args.rows.now.lens.now c.loop-len.len-index c.loop-len.invariant.going c.loop-len-test.true c.min.ensures c.split_at.ensures.front c.split_at.ensures.back c.in_err-put.field-0.0 c.in_err-put.ensures.puts in
    subst (λ (r : Result (Unit {0}) TableFault). Filled mem holds all c.args.table.now r c.put.new.self) (sym (err_is c.from_residual.result c.from_residual.ensures.1)) filled

pub loop-len-preserved : goal.loop-len-preserved
loop-len-preserved g c = record {
  kept = kept_trans c.loop-len.invariant.kept c.put.ensures.kept;
  going = going_next g.K.SetKind.mem g.K.SetKind.holds c.loop-len.left.now c.args.rows.now.lens.now c.loop-len.len-index c.loop-len.invariant.going c.loop-len-test.true c.min.ensures c.split_at.ensures.front c.split_at.ensures.back c.in_ok-put.field-0
      c.put.ensures.kept.capacity c.in_ok-put.ensures.puts;
}

pub returns-clause-fills : goal.returns-clause-fills
returns-clause-fills g c = going_all g.K.SetKind.mem g.K.SetKind.holds c.loop-len.left.now c.args.rows.now.lens.now c.loop-len.len-index c.loop-len.invariant.going c.loop-len-test.false
