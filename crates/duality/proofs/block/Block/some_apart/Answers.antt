use Rattle.std.proofs.Common.{Decides, subst, ap}
use Rattle.sets.specs.Sets.{Numbers}
use Rattle.systems.specs.Systems.{Fails}
use Rattle.duality.proofs.Blocking.{decides_missed}
use Rattle.duality.proofs.block.Block.some_apart.Goals as goal

pub returns : goal.returns
returns g c cuts holds =
    let mem = g.K.SetKind.mem in
    subst (λ (s : Numbers). Decides c.is_some.result (Fails cuts s)) (ap mem c.set.ensures)
    (decides_missed cuts c.args.self.now (mem c.set.result.now) c.join.result c.without-missed.result holds c.join.ensures c.without-missed.ensures c.lowest.result c.is_some.result c.lowest.ensures c.is_some.ensures)
