-- Each turn puts the line of an item.
use Rattle.std.proofs.Common.{refl}
use Rattle.sheets.specs.Bytes.{items_text}
use Rattle.sheets.specs.Labels.{named, nowhere}
use Rattle.writing.proofs.Going.{going_none, going_more, going_room, going_all}
use Rattle.writing.proofs.Lines.{items_next, at_drop_map_all}
use Rattle.writing.proofs.sheet.put_items.Goals as goal

pub loop-item-init : goal.loop-item-init
loop-item-init c = going_none refl

pub put_item-requires-clause-counted : goal.put_item-requires-clause-counted
put_item-requires-clause-counted c =
    going_room _ _ c.loop-item.invariant c.requires.counted
    (items_next (named c.args.text.now) c.args.places.now c.loop-item.item nowhere c.label.result.now c.loop-item-test.true c.label.ensures)

pub loop-item-preserved : goal.loop-item-preserved
loop-item-preserved c =
    going_more c.loop-item.invariant
    (items_next (named c.args.text.now) c.args.places.now c.loop-item.item nowhere c.label.result.now c.loop-item-test.true c.label.ensures)
    c.put_item.ensures

pub returns : goal.returns
returns c = going_all c.loop-item.invariant (at_drop_map_all (named c.args.text.now) c.args.places.now c.loop-item.item (items_text c.loop-item.item) c.loop-item-test.false)
