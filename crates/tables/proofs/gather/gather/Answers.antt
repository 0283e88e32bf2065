use Rattle.std.proofs.Common.{◌≡◌, rules, arith}
use Rattle.std.proofs.lemmas.Result.{err_from_is_err_and}
use Rattle.tables.specs.Calls.{no_such_item}
use Rattle.tables.proofs.Gathering.{gathered_none, gathered_repeated, gathered_cannot_hold, gathered_more, gathered_all, went_on, turned_back}
use Rattle.tables.specs.declared.fault.TableFault.TheVariants.{CannotHold}
use Rattle.tables.proofs.gather.gather.Goals as goal

pub loop-i-init : goal.loop-i-init
loop-i-init g c = gathered_none _ _ _ _ c.empty-row.ensures

pub returns-then-item-n : goal.returns-then-item-n
returns-then-item-n g c = no_such_item _ (omega arith) c.loop-i.invariant.pass c.if-item-n.true

pub returns-then-member : goal.returns-then-member
returns-then-member g c = gathered_repeated _ _ _ _ _ (omega arith) c.loop-i.invariant c.if-item-n.false c.if-member.ensures

pub returns-in_err-map_err : goal.returns-in_err-map_err
returns-in_err-map_err g c =
    let p = err_from_is_err_and c.from_residual.result c.from_residual.ensures.1 in
    let t = turned_back _ c.insert.result c.map_err.result c.in_err-map_err.field-0.0 c.in_err-map_err.was c.map_err.ensures.cases c.insert.ensures.err in
    let is : c.in_err-map_err.field-0.0 ≡ CannotHold c.loop-i.i-counter = search (rules, t.2) in
    rw (p.1, p.2, is) (gathered_cannot_hold _ _ _ _ _ (omega arith) c.loop-i.invariant c.if-item-n.false c.if-member.ensures t.0.0)

pub loop-i-preserved : goal.loop-i-preserved
loop-i-preserved g c = gathered_more _ _ _ _ _ (omega arith) c.loop-i.invariant c.if-item-n.false c.if-member.ensures _ (g.met.K.SetKind.held _) (went_on c.insert.result c.map_err.result _ c.in_ok-map_err.was c.map_err.ensures.variant c.insert.ensures.ok)

pub returns : goal.returns
returns g c = gathered_all _ _ _ _ _ (omega arith) c.loop-i.invariant
