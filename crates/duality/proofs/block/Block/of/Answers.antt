use Rattle.std.proofs.Common.{◌<◌, map, length, arith}
use Rattle.std.proofs.lemmas.List.{length-map}
use Rattle.tables.specs.Memory.{meant}
use Rattle.duality.proofs.RowFacts.{row_is}
use Rattle.duality.proofs.Blocking.{holds_more}
use Rattle.duality.proofs.block.Block.of.Goals as goal

pub loop-place-preserved : goal.loop-place-preserved
loop-place-preserved g c =
    let mem = g.K.SetKind.mem in
    let cuts = c.args.cuts.now in
    let p = c.loop-place.place in
    let inside : p < length cuts = omega arith in
    holds_more (map (meant mem) cuts) p (simp length-map inside) (omega (arith, c.requires)) c.loop-place.columns c.put_in.new.columns c.loop-place.places c.set-in-loop-place.new.self (mem c.set.result.now)
    (row_is mem cuts p c.index-cuts-place.result c.set.result.now inside c.index-cuts-place.is c.set.ensures) c.loop-place.invariant c.put_in.ensures c.set-in-loop-place.ensures
