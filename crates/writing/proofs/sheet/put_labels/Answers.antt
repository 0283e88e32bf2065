-- Each turn puts a space and the label of the next item.
use Rattle.std.proofs.Common.{map, refl, arith}
use Rattle.sheets.specs.Labels.{named}
use Rattle.writing.proofs.Going.{going_none}
use Rattle.writing.proofs.RowItems.{label_room, labels_more, labels_all}
use Rattle.writing.proofs.sheet.put_labels.Goals as goal

pub labels-init : goal.labels-init
labels-init g c = going_none refl

pub put-requires : goal.put-requires
put-requires g c =
    let row = c.args.row.now in
    let room = label_room (map (named c.args.text.now) c.args.places.now) (g.K.SetKind.mem row) c.labels.invariant (g.met.K.SetKind.below row) g.met.K.SetKind.small c.in-Some.ensures refl c.requires in
    omega arith

pub put-requires-in-Some : goal.put-requires-in-Some
put-requires-in-Some g c =
    let row = c.args.row.now in
    let room = label_room (map (named c.args.text.now) c.args.places.now) (g.K.SetKind.mem row) c.labels.invariant (g.met.K.SetKind.below row) g.met.K.SetKind.small c.in-Some.ensures c.label_of.ensures c.requires in
    omega arith

pub overflow_add-from : goal.overflow_add-from
overflow_add-from g c = omega (arith, g.met.K.SetKind.below c.args.row.now c.in-Some.item c.in-Some.ensures.member, g.met.K.SetKind.small)

pub labels-smaller : goal.labels-smaller
labels-smaller g c = omega (arith, g.met.K.SetKind.below c.args.row.now c.in-Some.item c.in-Some.ensures.member, g.met.K.SetKind.small, c.in-Some.ensures.above)

pub labels-preserved : goal.labels-preserved
labels-preserved g c =
    let row = c.args.row.now in
    labels_more (map (named c.args.text.now) c.args.places.now) (g.K.SetKind.mem row) c.labels.invariant (g.met.K.SetKind.below row) g.met.K.SetKind.small c.in-Some.ensures c.label_of.ensures
    c.put.ensures c.put-in-Some.ensures

pub returns : goal.returns
returns g c = labels_all (map (named c.args.text.now) c.args.places.now) (g.K.SetKind.mem c.args.row.now) c.labels.invariant c.in_default.ensures
