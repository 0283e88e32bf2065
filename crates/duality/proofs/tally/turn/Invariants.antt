use Rattle.std.proofs.Common.{◌≡◌, ℕ, ◌+◌, ◌^◌, ◌≤◌, true, false, length, take, get_or}
use Rattle.duality.specs.Shares.{counted}
use Rattle.duality.proofs.tally.turn.Given as goal

abbrev pub invariant-loop-at : goal.invariant-loop-at
invariant-loop-at g l = record {
  long : length l.planes ≡ 13;
  behind : (j : ℕ) (d : g.row.M.Denot) → l.at ≤ j → get_or l.planes j d ≡ get_or l.initial.planes j d;
  turned : (k : ℕ) → g.M.Mask.bits l.items k ≡ true → counted g.M.Mask.bits (take l.at l.planes) k + counted g.M.Mask.bits (take l.at l.initial.planes) k + 1 ≡ 2 ^ l.at;
  others : (k : ℕ) → g.M.Mask.bits l.items k ≡ false → counted g.M.Mask.bits (take l.at l.planes) k ≡ counted g.M.Mask.bits (take l.at l.initial.planes) k;
}
