use Rattle.std.proofs.Common.{arith}
use Rattle.sheets.proofs.ThenSome.{match_then_some}
use Rattle.sheets.proofs.Parses.{three, no_item_short, no_item_space, no_item_number, no_item_label, item_whole}
use Rattle.sheets.proofs.line.item_parts.Goals as goal

pub returns-in_default : goal.returns-in_default
returns-in_default c = no_item_short c.args.rest.now (omega arith)

pub returns-in_err-number : goal.returns-in_err-number
returns-in_err-number c = rw c.from_residual.ensures (no_item_number _ _ _ _ _ (three c.args.rest.now (omega arith)) c.in_err-number.ensures)

pub returns-in_err-label : goal.returns-in_err-label
returns-in_err-label c = rw c.from_residual-in_err-label.ensures (no_item_space _ _ _ _ _ (three c.args.rest.now (omega arith)) c.in_err-label.ensures)

pub returns : goal.returns
returns c =
    let n = c.in_ok-number.ensures in
    let parts = three c.args.rest.now (omega arith) in
    let space = c.in_ok-label.ensures in
    match_then_some _ _ _ _ c.then_some.ensures c.is_label.ensures (item_whole _ _ _ _ _ parts _ _ n.0 n.1 space) (no_item_label _ _ _ _ _ parts _ space)
