use Rattle.sheets.proofs.ThenSome.{match_then_some}
use Rattle.sheets.proofs.Parses.{path_settled, cuts_settled, none_settled}
use Rattle.sheets.proofs.line.take_apart.Goals as goal

pub returns-in-Some-behind : goal.returns-in-Some-behind
returns-in-Some-behind c = match_then_some _ _ _ _ c.then_some.ensures c.is_row.ensures (λ row. (row, c.in-Some-behind.ensures)) (path_settled c.args.line.now c.in_default.ensures c.in-Some-behind.row.now c.in-Some-behind.ensures)

pub returns-in-Some-behind-2 : goal.returns-in-Some-behind-2
returns-in-Some-behind-2 c = match_then_some _ _ _ _ c.then_some-in-Some-behind-2.ensures c.is_row-in-Some-behind-2.ensures (λ row. (row, c.in-Some-behind-2.ensures)) (cuts_settled c.args.line.now c.in_default.ensures c.in-Some-behind-2.row.now c.in-Some-behind-2.ensures)

pub returns : goal.returns
returns c = none_settled c.args.line.now c.in_default.ensures c.in_default-behind.ensures c.in_default-behind-2.ensures
