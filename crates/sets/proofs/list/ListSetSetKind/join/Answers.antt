use Rattle.std.proofs.Common.{take, drop, ◌+◌, length, refl, ap, arith}
use Rattle.std.proofs.lemmas.List.{drop_all}
use Rattle.sets.specs.Sets.{listed}
use Rattle.sets.proofs.Lists.{left_at}
use Rattle.sets.proofs.Walk.{but, but_with, but_none, but_all, left_within}
use Rattle.sets.proofs.ColumnLaws.{joined_none, joined_more, joined_same}
use Rattle.sets.proofs.list.ListSetSetKind.join.Goals as goal

pub loop-x-init : goal.loop-x-init
loop-x-init c =
    let xs = take c.args.self.now.len c.args.self.now.numbers in
    (joined_none c.args.columns.now c.none-joined.result (but (listed xs) (listed xs)) c.none-joined.ensures (but_none (listed xs) (listed xs) (λ j. refl)), λ j t. t)

pub loop-x-preserved : goal.loop-x-preserved
loop-x-preserved c =
    let xs = take c.args.self.now.len c.args.self.now.numbers in
    let i = c.loop-x.x-index in
    let k = c.from.result in
    let p = left_at xs _ i k c.args.self.now.ok.1 c.as_slice-x-items.ensures c.loop-x-test.true c.from.ensures in
    let so_far = c.loop-x.invariant in (
      joined_more c.args.columns.now c.loop-x.joined c.of.result c.or-joined.result (but (listed xs) (listed (drop i xs))) (but (listed xs) (listed (drop (i + 1) xs))) k
          (but_with (listed xs) (listed (drop i xs)) (listed (drop (i + 1) xs)) k so_far.1 p.0 p.1) c.of.ensures c.or-joined.ensures so_far.0,
      left_within (listed xs) (listed (drop i xs)) (listed (drop (i + 1) xs)) k so_far.1 p.1,
    )

pub returns : goal.returns
returns c =
    let xs = take c.args.self.now.len c.args.self.now.numbers in
    let rest = drop c.loop-x.x-index xs in
    joined_same c.args.columns.now c.loop-x.joined (but (listed xs) (listed rest)) (listed xs)
    (but_all (listed xs) (listed rest) (λ j. ap (λ l. listed l j) (drop_all c.loop-x.x-index xs (omega (arith, ap length c.as_slice-x-items.ensures))))) c.loop-x.invariant.0
