use Rattle.std.proofs.Common.{◌≤◌, map, arith}
use Rattle.std.proofs.lemmas.Result.{err_from_is_err_and}
use Rattle.sheets.specs.Labels.{named}
use Rattle.sheets.specs.RowPuts.{row_lost}
use Rattle.sheets.proofs.RowPutting.{is_lost, is_found, row_answered, row_not}
use Rattle.sheets.proofs.putting.put_row.Goals as goal

pub returns-in_err-items-clause-puts : goal.returns-in_err-items-clause-puts
returns-in_err-items-clause-puts g c n ps h =
    let names = map (named c.args.text.now) c.args.places.now in
    let e = err_from_is_err_and c.from_residual.result c.from_residual.ensures.1 in
    let lost = is_lost names c.args.row.now 257 c.look_up.result c.in_err-items.field-0.0 c.look_up.ensures c.in_err-items.ensures.value in
    (ps, h, rw (e.1, e.2, lost.1) (row_lost lost.0))

pub returns-in_err-put-clause-puts : goal.returns-in_err-put-clause-puts
returns-in_err-put-clause-puts g c n ps h =
    let names = map (named c.args.text.now) c.args.places.now in
    let e = err_from_is_err_and c.from_residual-in_err-put.result c.from_residual-in_err-put.ensures.1 in
    let found = is_found names c.args.row.now 257 c.look_up.result c.in_ok-items.items c.look_up.ensures c.in_ok-items.ensures.ok_part in
    let p = c.in_err-put.ensures.puts n ps h in
    let few : n ≤ 256 = omega (arith, h.items, c.args.table.now.small) in
    (p.0, p.2, rw (e.1, e.2) (row_not n c.args.table.now.capacity g.K.SetKind.holds names c.args.row.now ps p.0 c.in_ok-items.items.now few found c.in_err-put.field-0.0 p.1))

pub returns-clause-puts : goal.returns-clause-puts
returns-clause-puts g c n ps h =
    let names = map (named c.args.text.now) c.args.places.now in
    let found = is_found names c.args.row.now 257 c.look_up.result c.in_ok-items.items c.look_up.ensures c.in_ok-items.ensures.ok_part in
    let p = c.in_ok-put.ensures.puts n ps h in
    let few : n ≤ 256 = omega (arith, h.items, c.args.table.now.small) in
    (p.0, p.2, row_answered n c.args.table.now.capacity g.K.SetKind.holds names c.args.row.now ps p.0 c.in_ok-items.items.now few found c.in_ok-put.field-0 p.1)
