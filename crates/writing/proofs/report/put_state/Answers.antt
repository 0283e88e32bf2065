-- Each turn puts the line of an item.
use Rattle.std.proofs.Common.{refl}
use Rattle.systems.specs.States.{up}
use Rattle.sheets.specs.Labels.{named, nowhere}
use Rattle.writing.specs.Reports.{state_lines}
use Rattle.writing.proofs.Going.{going_none, going_more, going_room, going_all}
use Rattle.writing.proofs.Lines.{state_next, at_drop_map_all}
use Rattle.writing.proofs.report.put_state.Goals as goal

pub loop-item-init : goal.loop-item-init
loop-item-init c = going_none refl

pub put_mark-requires : goal.put_mark-requires
put_mark-requires c =
    going_room _ _ c.loop-item.invariant c.requires
    (state_next (named c.args.text.now) c.args.places.now c.loop-item.item nowhere c.label.result.now c.loop-item-test.true c.label.ensures (up c.args.state.now) c.is_up.result c.is_up.ensures)

pub loop-item-preserved : goal.loop-item-preserved
loop-item-preserved c =
    going_more c.loop-item.invariant
    (state_next (named c.args.text.now) c.args.places.now c.loop-item.item nowhere c.label.result.now c.loop-item-test.true c.label.ensures (up c.args.state.now) c.is_up.result c.is_up.ensures)
    c.put_mark.ensures

pub returns : goal.returns
returns c =
    going_all c.loop-item.invariant (at_drop_map_all (named c.args.text.now) c.args.places.now c.loop-item.item (state_lines (up c.args.state.now) c.loop-item.item) c.loop-item-test.false)
