use Rattle.std.proofs.Common.{◌≡◌, arith, rules}
use lib.Count.{count_trailing_zeros}
use Rattle.std.proofs.lemmas.Option.{IfSome_then}
use Rattle.sets.proofs.MaskLaws.{lowest_of_word}
use Rattle.sets.proofs.mask.WordSetMask.lowest.Goals as goal

pub returns : goal.returns
returns c =
    let a = c.args.self.now.bits in
    lowest_of_word a (omega arith) c.then.result c.then.ensures.variant (IfSome_then c.then.result {Q = λ n. n ≡ count_trailing_zeros 64 a} c.then.ensures.some (λ n q. search rules))
