use Rattle.std.proofs.Common.{◌∙◌, arith}
use Rattle.sets.specs.Truth.{holds_true}
use Rattle.systems.specs.States.{up}
use Rattle.duality.proofs.Findings.{below_count}
use Rattle.duality.proofs.Masking.{mask_is}
use Rattle.duality.proofs.masks.mask_of.Goals as goal

pub returns : goal.returns
returns g c =
    let s = c.args.state.now in
    mask_is g.M.Mask.most (g.M.Mask.bits c.of.result) (up s) (λ k lt. c.of.ensures k lt ∙ c.marks.ensures k) (g.met.M.Mask.under c.of.result)
    (λ k t. let l = below_count s k (holds_true (up s k) t) in omega (arith, c.requires))
