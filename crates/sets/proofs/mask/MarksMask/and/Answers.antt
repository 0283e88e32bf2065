use Rattle.std.proofs.Common.{get_or, refl, ◌&&◌}
use lib.Bits.{bit_and}
use Rattle.sets.specs.Marks.{marked}
use Rattle.sets.proofs.WordLaws.{word_and}
use Rattle.sets.proofs.MaskLaws.{each_word}
use Rattle.sets.proofs.mask.MarksMask.and.Goals as goal

pub returns : goal.returns
unfolding marked
returns c = each_word bit_and (λ x y. x && y) refl c.args.self.words c.args.other.words (λ i k l. word_and (get_or c.args.self.words i 0) (get_or c.args.other.words i 0) k)
