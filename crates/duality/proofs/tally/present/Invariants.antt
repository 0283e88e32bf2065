use Rattle.std.proofs.Common.{◌≡◌, ℕ, false, take}
use Rattle.duality.specs.Shares.{counted}
use Rattle.duality.proofs.tally.present.Given as goal

abbrev pub invariant-loop-at : goal.invariant-loop-at
invariant-loop-at g l = (k : ℕ) → g.M.Mask.bits l.items k ≡ false → counted g.M.Mask.bits (take l.at l.planes) k ≡ 0
