use Rattle.std.proofs.Common.{set, ap, sym, ◌∙◌, arith}
use Rattle.std.proofs.lemmas.List.{get_or-set_other, length-set}
use Rattle.sets.specs.Sets.{one}
use Rattle.duality.proofs.Planes.{counted_set}
use Rattle.duality.proofs.Tallies.{having_eight}
use Rattle.duality.proofs.tally.add_eight.Goals as goal

pub returns-clause-each : goal.returns-clause-each
returns-clause-each g c k few =
    let bits = g.M.Mask.bits in
    let ps = c.args.planes.now in
    let x = c.index-planes-0.result in
    let y = c.index-planes-1.result in
    let z = c.index-planes-2.result in
    let ones = c.sum-ones-4.result.0 in
    let twos = c.sum-twos-2.result.0 in
    let fours = c.sum-fours.result.0 in
    let qs = set ps 0 ones in
    let rs = set qs 1 twos in
    let first = counted_set bits ps 0 ones x k (omega arith) in
    let second = counted_set bits qs 1 twos y k (omega (arith, length-set ps 0 ones)) in
    let third = counted_set bits rs 2 fours z k (omega (arith, length-set qs 1 twos, length-set ps 0 ones)) in
    let read_ones = ap (λ p. one (bits p k)) c.index-planes-0.is in
    let read_twos = ap (λ p. one (bits p k)) (get_or-set_other ps 0 1 ones y (λ e. omega arith) ∙ sym c.index-planes-1.is) in
    let read_fours = ap (λ p. one (bits p k)) (get_or-set_other qs 1 2 twos z (λ e. omega arith) ∙ get_or-set_other ps 0 2 ones z (λ e. omega arith) ∙ sym c.index-planes-2.is) in
    let rows = having_eight bits k c.args.rows.now c.index-rows-0.result c.index-rows-1.result c.index-rows-2.result c.index-rows-3.result c.index-rows-4.result c.index-rows-5.result c.index-rows-6.result c.index-rows-7.result c.requires.eight c.index-rows-0.is c.index-rows-1.is c.index-rows-2.is c.index-rows-3.is c.index-rows-4.is c.index-rows-5.is c.index-rows-6.is c.index-rows-7.is in
    let sum_1 = c.sum-ones.ensures k in
    let sum_2 = c.sum-ones-2.ensures k in
    let sum_3 = c.sum-ones-3.ensures k in
    let sum_4 = c.sum-ones-4.ensures k in
    let sum_5 = c.sum-twos.ensures k in
    let sum_6 = c.sum-twos-2.ensures k in
    let sum_7 = c.sum-fours.ensures k in
    let all = c.carry.ensures.each k (omega (arith, first, second, third, read_ones, read_twos, read_fours, rows, sum_1, sum_2, sum_3, sum_4, sum_5, sum_6, sum_7, few)) in
    omega (arith, first, second, third, read_ones, read_twos, read_fours, rows, sum_1, sum_2, sum_3, sum_4, sum_5, sum_6, sum_7, all)
