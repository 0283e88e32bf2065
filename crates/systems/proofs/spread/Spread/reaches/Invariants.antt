use Rattle.std.proofs.Common.{◌≡◌, ◌-◌}
use Rattle.sets.specs.Sets.{count}
use Rattle.systems.specs.States.{up}
use Rattle.systems.specs.Marking.{marks_of}
use Rattle.systems.proofs.Reaching.{Sound}
use Rattle.systems.proofs.spread.Spread.reaches.Given as goal

abbrev pub invariant-loop : goal.invariant-loop
invariant-loop l = record {
  drawing : l.self.drawing ≡ l.initial.self.drawing;
  state : l.self.state ≡ l.initial.self.state;
  sound : Sound l.initial.self.state.now.count l.initial.self.drawing.now.nodes l.initial.self.drawing.now.lines.now (up l.initial.self.state.now) (marks_of l.self.marks);
}

-- how many nodes have no mark
abbrev pub decreases-loop : goal.decreases-loop
decreases-loop l = l.initial.self.drawing.now.nodes - count (marks_of l.self.marks) l.initial.self.drawing.now.nodes
