use Rattle.std.proofs.Common.{rules, tests}
use Rattle.std.proofs.lemmas.Iterator.{IsFirst-from_position, YieldsList-from_slice}
use Rattle.sets.specs.Sets.{Within}
use Rattle.tables.specs.Memory.{meant}
use Rattle.tables.proofs.Reading.{first_contained}
use Rattle.tables.proofs.memory.lowest_contained.Goals as goal

pub returns : goal.returns
returns g c =
    let mem = meant g.K.SetKind.mem in
    let r = g.K.SetKind.mem c.args.row.now in
    first_contained mem r c.args.rows.now _
    (IsFirst-from_position _ _ _ (λ x. Within (mem x) r) (λ x. Within (mem x) r → ⊥) c.position.ensures.ran (YieldsList-from_slice c.args.rows.now c.iter.ensures.rest) (λ x q k. search (rules, tests)) (λ x q k. search (rules, tests)))
