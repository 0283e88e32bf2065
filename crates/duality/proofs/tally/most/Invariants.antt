use Rattle.std.proofs.Common.{ℕ, ◌-◌, ◌<◌, ◌≤◌, ◌^◌, drop}
use Rattle.duality.specs.Shares.{counted, Most}
use Rattle.duality.proofs.tally.most.Given as goal

abbrev pub invariant-loop-above : goal.invariant-loop-above
invariant-loop-above g l = record {
  most : ((k : ℕ) → counted g.M.Mask.bits l.planes k ≤ l.rows) → Most (counted g.M.Mask.bits (drop (l.used - l.above) l.planes)) (g.M.Mask.bits l.fn.items) l.most (g.M.Mask.bits l.leading);
  few : l.most < 2 ^ l.above;
}
