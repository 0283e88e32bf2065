use Rattle.std.proofs.Common.{map, ap, arith}
use Rattle.duality.specs.Shares.{having}
use Rattle.duality.proofs.Tallies.{having_split, having_next, having_rest}
use Rattle.duality.proofs.tally.add.Goals as goal

pub eights-preserved : goal.eights-preserved
eights-preserved g c =
    let bits = g.M.Mask.bits in
    record {
      long = c.add_eight.ensures.long;
      each = λ k few.
          let all = having_split bits k 8 c.eights.rest.now in
          let first = ap (λ xs. having (map bits xs) k) c.split_at.ensures.front in
          let others = ap (λ xs. having (map bits xs) k) c.split_at.ensures.back in
          let before = c.eights.invariant.each k few in
          let more = c.add_eight.ensures.each k (omega (arith, all, first, others, before, few)) in
          omega (arith, all, first, others, before, more);
    }

pub loop-mask-preserved : goal.loop-mask-preserved
loop-mask-preserved g c =
    let bits = g.M.Mask.bits in
    record {
      long = c.carry.ensures.long;
      each = λ k few.
          let next = having_next bits k c.eights.rest.now c.loop-mask.mask-index c.mask-item.result c.loop-mask-test.true c.mask-item.is in
          let before = c.loop-mask.invariant.each k few in
          let more = c.carry.ensures.each k (omega (arith, next, before, few)) in
          omega (arith, next, before, more);
    }

pub returns-clause-each : goal.returns-clause-each
returns-clause-each g c k few =
    let bits = g.M.Mask.bits in
    omega (arith, c.loop-mask.invariant.each k few, having_rest bits k c.eights.rest.now c.loop-mask.mask-index c.loop-mask-test.false)
