use Rattle.std.proofs.Common.{arith}
use Rattle.duality.proofs.Tallies.{having_few}
use Rattle.duality.proofs.Choosing.{by_paths, by_cuts, by_both}
use Rattle.duality.proofs.choice.choose.Goals as goal
use Rattle.duality.proofs.choice.choose.Goals.{then-of_paths-of_cuts, else-of_paths-of_cuts+then-of_paths-of_cuts-2, else-of_paths-of_cuts+else-of_paths-of_cuts-2}

pub returns : goal.returns
returns g c ps cs np nc tp tc =
    let bits = g.M.Mask.bits in
    let p = c.most-path_count.result in
    let q = c.most-cut_count.result in
    let mp = c.most-path_count.ensures.most (λ k. omega (arith, tp.each k, having_few ps k, np)) in
    let mc = c.most-cut_count.ensures.most (λ k. omega (arith, tc.each k, having_few cs k, nc)) in
    let paths = c.args.path_planes.now in
    let cuts = c.args.cut_planes.now in
    let low = c.lowest.ensures in
    elim c.if-of_paths-of_cuts.branch [
      | then-of_paths-of_cuts w ↦ by_paths bits ps cs paths cuts c.args.paths c.args.cuts np nc tp tc (bits c.args.items) p.0 q.0 (bits p.1) (bits q.1) mp mc c.lowest.result (omega (arith, w.if-of_paths-of_cuts.true)) (rw w.leading-is at low)
      | else-of_paths-of_cuts+then-of_paths-of_cuts-2 w ↦ by_cuts bits ps cs paths cuts c.args.paths c.args.cuts np nc tp tc (bits c.args.items) p.0 q.0 (bits p.1) (bits q.1) mp mc c.lowest.result (omega (arith, w.if-of_paths-of_cuts-2.true)) (rw w.leading-is at low)
      | else-of_paths-of_cuts+else-of_paths-of_cuts-2 w ↦ by_both bits ps cs paths cuts c.args.paths c.args.cuts np nc tp tc (bits c.args.items) p.0 q.0 (bits p.1) (bits q.1) mp mc c.lowest.result (bits w.or.result) w.or.ensures (omega (arith, w.if-of_paths-of_cuts.false, w.if-of_paths-of_cuts-2.false)) (rw w.leading-is at low)
    ]
