use Rattle.std.proofs.Common.{◌≡◌, ◌∙◌, sym, map, arith}
use Rattle.std.proofs.lemmas.Bool.{eqb-true}
use Rattle.systems.proofs.UpRows.{each_low, decides_drawn}
use Rattle.systems.proofs.path_rows.RowDrawingDrawing.works.Goals as goal
use Rattle.systems.proofs.path_rows.RowDrawingDrawing.works.Goals.{then-count-self, else-count-self}

pub returns-then-self-le4096 : goal.returns-then-self-le4096
returns-then-self-le4096 g c =
    let mem = g.K.SetKind.mem in
    let rows = c.args.self.now.rows.now in
    let state = c.args.state.now in
    let top = g.met.K.SetKind.small in
    let same : state.count ≡ c.args.self.now.items =
    elim c.if-count-self.branch [
      | then-count-self w ↦ omega (arith, w.if-count-self.true)
      | else-count-self w ↦ absurd (w.if-count-self.false (eqb-true _ _ (sym w.value-is ∙ c.if-self-le4096.true)))
    ] in
    decides_drawn c.args.self.now.items (map mem rows) state c.some_up.result same
    (each_low mem rows (λ x k m. let low = g.met.K.SetKind.below x k m in omega arith)) c.some_up.ensures
