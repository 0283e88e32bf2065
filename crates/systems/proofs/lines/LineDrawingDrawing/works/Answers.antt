use Rattle.std.proofs.Common.{◌-◌, Decides, subst₂, arith}
use Rattle.systems.specs.Lines.{Walk}
use Rattle.systems.specs.States.{up}
use Rattle.systems.proofs.Reaching.{decides_drawn}
use Rattle.systems.proofs.lines.LineDrawingDrawing.works.Goals as goal

pub returns : goal.returns
returns c =
    let d = c.args.self.now in
    let given = c.new.ensures.given in
    decides_drawn d.items d.nodes d.lines.now c.args.state.now c.reaches.result (omega arith) (omega arith) (omega arith) (omega arith)
    (subst₂ (λ e t. Decides c.reaches.result (Walk t.count e.nodes e.lines.now (up t) (d.nodes - 1))) given.0 given.1 c.reaches.ensures)
