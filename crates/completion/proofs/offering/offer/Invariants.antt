-- The loop collects the items that are up.
use Rattle.systems.specs.States.{up}
use Rattle.completion.proofs.Items.{Collected}
use Rattle.completion.proofs.offering.offer.Given as goal

abbrev pub invariant-loop-item : goal.invariant-loop-item
invariant-loop-item g l = Collected (up l.row) l.items.items l.item
