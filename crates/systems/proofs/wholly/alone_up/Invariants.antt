use Rattle.std.proofs.Common.{◌≡◌, ℕ, ◌<◌, ◌-◌}
use Rattle.sets.proofs.Walk.{so_far}
use Rattle.systems.specs.States.{up}
use Rattle.systems.proofs.wholly.alone_up.Given as goal

abbrev pub invariant-up : goal.invariant-up
invariant-up g l = record {
  count : l.state.count ≡ l.initial.state.count;
  marks : (k : ℕ) → k < l.state.count → up l.state k ≡ so_far (g.K.SetKind.mem l.set) l.from k;
}

abbrev pub decreases-up : goal.decreases-up
decreases-up g l = g.K.SetKind.top - l.from
