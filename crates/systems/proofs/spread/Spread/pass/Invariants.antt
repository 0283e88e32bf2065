use Rattle.std.proofs.Common.{◌≡◌}
use Rattle.systems.specs.States.{up}
use Rattle.systems.specs.Marking.{marks_of, Passed}
use Rattle.systems.proofs.spread.Spread.pass.Given as goal

abbrev pub invariant-loop-line : goal.invariant-loop-line
invariant-loop-line l = record {
  drawing : l.self.drawing ≡ l.initial.self.drawing;
  state : l.self.state ≡ l.initial.self.state;
  passed : Passed l.initial.self.state.now.count l.initial.self.drawing.now.nodes l.initial.self.drawing.now.lines.now (up l.initial.self.state.now) l.line-index (marks_of l.initial.self.marks) (marks_of l.self.marks) l.more;
}
