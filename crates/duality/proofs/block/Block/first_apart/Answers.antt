use Rattle.std.proofs.Common.{rules}
use Rattle.std.proofs.lemmas.Iterator.{YieldsList-from_slice, IsFirst-from_position}
use borrow.Author.Tests.{tests}
use Rattle.systems.specs.Systems.{Fails}
use Rattle.tables.specs.Memory.{meant}
use Rattle.duality.proofs.Blocking.{found_place}
use Rattle.duality.proofs.block.Block.first_apart.Goals as goal

pub returns : goal.returns
returns g c cuts holds =
    let f = meant g.K.SetKind.mem in
    found_place f c.args.rows.now (Fails cuts) c.position.result
    (IsFirst-from_position _ _ _ (λ x. Fails cuts (f x)) (λ x. Fails cuts (f x) → ⊥) c.position.ensures.ran (YieldsList-from_slice c.args.rows.now cc)
    (λ x q k. search (rules, tests, holds)) (λ x q k. search (rules, tests, holds)))
