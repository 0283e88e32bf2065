use Rattle.std.proofs.Common.{get_or, subst₂, ◌∙◌, arith}
use Rattle.systems.specs.Lines.{no_line}
use Rattle.systems.specs.Marking.{marks_of, Crossed}
use Rattle.systems.specs.States.{up}
use Rattle.systems.proofs.Passes.{passed_more}
use Rattle.systems.proofs.spread.Spread.pass.Goals as goal

pub loop-line-preserved : goal.loop-line-preserved
loop-line-preserved c =
    let inv = c.loop-line.invariant in
    let same = c.cross-more.ensures.same in
    let line = get_or c.args.self.now.drawing.now.lines.now c.loop-line.line-index no_line in
    record {
      drawing = same.0 ∙ inv.drawing;
      state = same.1 ∙ inv.state;
      passed =
          passed_more _ _ _ _ _ _ _ _ _ (omega arith) inv.passed _
          (subst₂ (λ d t. Crossed t.now.count d.now.nodes (up t.now) line (marks_of c.loop-line.self.marks) (marks_of c.cross-more.new.self.marks) c.cross-more.result) inv.drawing inv.state c.cross-more.ensures.crossed);
    }
