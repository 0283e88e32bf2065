use Rattle.std.proofs.Common.{◌∙◌, arith}
use Rattle.std.proofs.lemmas.List.{length-set}
use Rattle.duality.proofs.Planes.{carried, carried_all, carried_out}
use Rattle.duality.proofs.tally.carry.Goals as goal

pub returns-then-is_none-clause-each : goal.returns-then-is_none-clause-each
returns-then-is_none-clause-each g c k few =
    let bits = g.M.Mask.bits in
    let next = carried bits c.loop-at.planes c.loop-at.at c.index-planes-at.result c.loop-at.carried c.xor.result c.and-carried.result k _ (omega (arith, c.loop-at.invariant.long)) c.index-planes-at.is (c.xor.ensures k) (c.and-carried.ensures k) (c.loop-at.invariant.each k) in
    carried_all bits _ _ c.and-carried.result k _ (c.is_none.ensures.0 c.if-is_none.true k) next

pub loop-at-preserved : goal.loop-at-preserved
loop-at-preserved g c = record {
  long = length-set c.loop-at.planes c.loop-at.at c.xor.result ∙ c.loop-at.invariant.long;
  each = λ k. carried g.M.Mask.bits c.loop-at.planes c.loop-at.at c.index-planes-at.result c.loop-at.carried c.xor.result c.and-carried.result k _ (omega (arith, c.loop-at.invariant.long)) c.index-planes-at.is (c.xor.ensures k) (c.and-carried.ensures k) (c.loop-at.invariant.each k);
}

pub returns-clause-each : goal.returns-clause-each
returns-clause-each g c k few = carried_out g.M.Mask.bits c.loop-at.planes c.loop-at.at c.loop-at.carried k _ (omega arith) few (c.loop-at.invariant.each k)
