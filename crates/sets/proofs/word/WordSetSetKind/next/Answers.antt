use Rattle.std.proofs.Common.{◌≡◌, ◌-◌, ◌*◌, ◌%◌, ◌^◌, ◌&&◌, ap, ◌∙◌, rules, arith}
use lib.Bits.{bit_and, and_le_l}
use lib.Count.{count_trailing_zeros}
use Rattle.std.proofs.lemmas.Option.{IfSome_then}
use Rattle.sets.specs.Words.{bit}
use Rattle.sets.proofs.Bitwise.{bit_of_and, bit_mask}
use Rattle.sets.proofs.WordLaws.{masked_lowest}
use Rattle.sets.proofs.word.WordSetSetKind.next.Goals as goal

pub returns : goal.returns
returns c =
    let a = c.args.self.now.bits in
    let k = c.args.k in
    let s = ((2 ^ 64 - 1) * 2 ^ k) % 2 ^ 64 in
    masked_lowest a k (bit_and a s) (omega arith) (omega (arith, and_le_l a s)) (λ j h. bit_of_and a s j ∙ ap (λ b. bit a j && b) (bit_mask 64 k j h))
    c.then.result c.then.ensures.variant (IfSome_then c.then.result {Q = λ n. n ≡ count_trailing_zeros 64 (bit_and a s)} c.then.ensures.some (λ n q. search rules))
