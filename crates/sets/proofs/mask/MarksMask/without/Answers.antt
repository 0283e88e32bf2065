use Rattle.std.proofs.Common.{get_or, refl, ◌-◌, ◌^◌, ◌&&◌, not, arith}
use lib.Bits.{bit_and}
use Rattle.sets.specs.Marks.{marked}
use Rattle.sets.proofs.MaskLaws.{all_four, each_word, word_minus}
use Rattle.sets.proofs.mask.MarksMask.without.Goals as goal

pub returns : goal.returns
unfolding marked
returns c = each_word (λ a b. bit_and a (2 ^ 64 - 1 - b)) (λ x y. x && not y) refl c.args.self.words c.args.other.words (λ i k l. word_minus (get_or c.args.self.words i 0) (get_or c.args.other.words i 0) k (all_four c.args.other.words (2 ^ 64) (omega arith) (omega arith) (omega arith) (omega arith) i l))
