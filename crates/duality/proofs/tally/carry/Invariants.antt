use Rattle.std.proofs.Common.{◌≡◌, ℕ, ◌+◌, ◌*◌, ◌^◌, length}
use Rattle.sets.specs.Sets.{one}
use Rattle.duality.specs.Shares.{counted}
use Rattle.duality.proofs.tally.carry.Given as goal

abbrev pub invariant-loop-at : goal.invariant-loop-at
invariant-loop-at g l = record {
  long : length l.planes ≡ 13;
  each : (k : ℕ) → counted g.M.Mask.bits l.planes k + 2 ^ l.at * one (g.M.Mask.bits l.carried k) ≡ counted g.M.Mask.bits l.initial.planes k + 2 ^ l.initial.at * one (g.M.Mask.bits l.initial.carried k);
}
