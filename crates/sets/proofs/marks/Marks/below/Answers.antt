use Rattle.std.proofs.Common.{subst}
use Rattle.sets.proofs.MarkLaws.{LowWord, held_below}
use Rattle.sets.specs.Marks.{marked}
use Rattle.sets.proofs.marks.Marks.below.Goals as goal

pub returns : goal.returns
unfolding marked
returns c =
    held_below c.args.n c.low_bits.result c.low_bits-2.result c.low_bits-3.result c.low_bits-4.result c.low_bits.ensures
    (subst (λ m. LowWord m c.low_bits-2.result) c.saturating_sub.ensures c.low_bits-2.ensures)
    (subst (λ m. LowWord m c.low_bits-3.result) c.saturating_sub-2.ensures c.low_bits-3.ensures)
    (subst (λ m. LowWord m c.low_bits-4.result) c.saturating_sub-3.ensures c.low_bits-4.ensures)
