use Rattle.std.proofs.Common.{◌&&◌, nat_lt, ap, ◌∙◌}
use Rattle.sets.specs.Marks.{marked}
use Rattle.sets.proofs.WordLaws.{word_none}
use Rattle.sets.proofs.MarkLaws.{held_word}
use Rattle.std.proofs.Math.Bool.{and-false}
use Rattle.sets.proofs.mask.MarksMask.none.Goals as goal

pub returns : goal.returns
unfolding marked
returns c k = ap (λ b. nat_lt k 256 && b) (held_word 0 k ∙ word_none k) ∙ and-false (nat_lt k 256)
