use Rattle.std.proofs.Common.{◌+◌, ◌<◌, sym, subst, arith}
use Rattle.systems.specs.declared.state.State.{State}
use Rattle.completion.proofs.Dropping.{Shrinking, shrink_skip, shrink_drop, shrink_keep}
use Rattle.completion.proofs.shrinking.shrink.Goals as goal
use Rattle.completion.proofs.shrinking.shrink.Goals.{then-is_up+then-not-works, then-is_up+else-not-works, else-is_up}

pub loop-item-preserved : goal.loop-item-preserved
loop-item-preserved g c =
    let ψ = g.D.Drawing.means c.args.drawing.now in
    let first = c.args.set.now in
    let s = c.loop-item.least in
    let k = c.loop-item.item in
    let h = c.loop-item.invariant in
    let lt : k < s.count = omega (arith, h.count) in
    let P : State → Type 0 = λ x. Shrinking ψ first x (k + 1) in
    elim c.if-is_up.branch [
      | then-is_up+then-not-works w ↦
          subst P (sym w.least-is)
          (shrink_keep ψ first s k w.set.new.self lt w.set.ensures.count w.set.ensures.marks
          w.set-then-not-works.new.self w.set-then-not-works.ensures.count w.set-then-not-works.ensures.marks
          (sym w.if-is_up.ensures) w.if-not-works.ensures h)
      | then-is_up+else-not-works w ↦
          subst P (sym w.least-is)
          (shrink_drop ψ first s k w.set.new.self lt w.set.ensures.count w.set.ensures.marks w.if-not-works.ensures h)
      | else-is_up w ↦ subst P (sym w.least-is) (shrink_skip ψ first s k (sym w.if-is_up.ensures) h)
    ]
