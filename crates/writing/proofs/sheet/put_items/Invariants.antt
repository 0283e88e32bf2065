-- The lines of the items from `item` on are left.
use Rattle.std.proofs.Common.{drop, map}
use Rattle.sheets.specs.Bytes.{items_text}
use Rattle.sheets.specs.Labels.{named}
use Rattle.writing.proofs.Going.{Going}
use Rattle.writing.proofs.sheet.put_items.Given as goal

abbrev pub invariant-loop-item : goal.invariant-loop-item
invariant-loop-item l =
    let names = map (named l.text) l.places in
    Going l.initial.page l.page (items_text 0 names) (items_text l.item (drop l.item names))
