-- Each turn puts the line of a row.
use Rattle.std.proofs.Common.{map, refl, ap, ◌∙◌}
use Rattle.tables.specs.Memory.{meant}
use Rattle.sheets.specs.Labels.{named}
use Rattle.writing.proofs.Going.{going_none}
use Rattle.writing.proofs.Lines.{row_room, rows_more, rows_all}
use Rattle.writing.proofs.sheet.put_rows.Goals as goal

pub loop-row-init : goal.loop-row-init
loop-row-init g c = going_none refl

pub put_row-requires : goal.put_row-requires
put_row-requires g c =
    let mem = g.K.SetKind.mem in
    row_room (meant mem) c.args.head.now (map (named c.args.text.now) c.args.places.now) c.args.rows.now c.loop-row.row-index c.loop-row.invariant c.row-item.result c.loop-row-test.true
    (ap mem c.set.ensures ∙ ap (meant mem) c.row-item.is) c.requires

pub loop-row-preserved : goal.loop-row-preserved
loop-row-preserved g c =
    let mem = g.K.SetKind.mem in
    rows_more (meant mem) c.args.head.now (map (named c.args.text.now) c.args.places.now) c.args.rows.now c.loop-row.row-index c.loop-row.invariant c.row-item.result c.loop-row-test.true
    (ap mem c.set.ensures ∙ ap (meant mem) c.row-item.is) c.put_row.ensures

pub returns : goal.returns
returns g c = rows_all (meant g.K.SetKind.mem) c.args.head.now (map (named c.args.text.now) c.args.places.now) c.args.rows.now c.loop-row.row-index c.loop-row.invariant c.loop-row-test.false
