use Rattle.std.proofs.Common.{◌≡◌, ℕ, length, take}
use Rattle.duality.specs.Shares.{counted}
use Rattle.duality.proofs.tally.tally.Given as goal

abbrev pub invariant-loop-plane : goal.invariant-loop-plane
invariant-loop-plane g l = record {
  long : length l.planes ≡ 13;
  none : (k : ℕ) → counted g.M.Mask.bits (take l.plane l.planes) k ≡ 0;
}
