use Rattle.std.proofs.Common.{◌<◌, ◌≤◌, inl, inr, ⊎_elim, arith}
use Rattle.std.proofs.lemmas.Bool.{cases_lt}
use Rattle.std.proofs.lemmas.Grind.{common_steps}
use Rattle.tables.specs.Calls.{judge_permits, judge_refuses}
use Rattle.tables.proofs.table.Table.judge.Goals as goal

pub returns-then-not-contains : goal.returns-then-not-contains
returns-then-not-contains g c =
    let v = simp (c.new.ensures.start, c.new.ensures.end, c.new.ensures.exhausted, c.ceiling.ensures) at c.if-not-contains.ensures.value in
    judge_refuses (⊎_elim (λ (low : c.args.items < 1). inl (omega arith)) (λ (pos : 1 ≤ c.args.items). inr (grind (arith, common_steps))) (cases_lt c.args.items 1))

pub returns : goal.returns
returns g c =
    let v = simp (c.new.ensures.start, c.new.ensures.end, c.new.ensures.exhausted, c.ceiling.ensures) at c.if-not-contains.ensures.value in
    judge_permits (grind (arith, common_steps)) (grind (arith, common_steps))
