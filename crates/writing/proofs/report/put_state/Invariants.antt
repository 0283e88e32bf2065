-- The lines of the items from `item` on are left.
use Rattle.std.proofs.Common.{drop, map}
use Rattle.systems.specs.States.{up}
use Rattle.sheets.specs.Labels.{named}
use Rattle.writing.specs.Reports.{state_lines}
use Rattle.writing.proofs.Going.{Going}
use Rattle.writing.proofs.report.put_state.Given as goal

abbrev pub invariant-loop-item : goal.invariant-loop-item
invariant-loop-item l =
    let names = map (named l.text) l.places in
    let s = up l.state in
    Going l.initial.page l.page (state_lines s 0 names) (state_lines s l.item (drop l.item names))
