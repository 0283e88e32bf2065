use Rattle.std.proofs.Common.{sym, ◌∙◌, arith}
use Rattle.duality.proofs.Planes.{counted_no_plane, counted_to_none}
use Rattle.duality.proofs.tally.present.Goals as goal

pub loop-at-init : goal.loop-at-init
loop-at-init g c k off = counted_no_plane g.M.Mask.bits k

pub loop-at-preserved : goal.loop-at-preserved
loop-at-preserved g c k off =
    counted_to_none g.M.Mask.bits c.args.planes.now c.loop-at.at c.index-planes-at.result (g.M.Mask.bits c.loop-at.items k) k (omega (arith, c.requires)) c.index-planes-at.is (sym (c.or-items.ensures k) ∙ off) (c.loop-at.invariant k)
