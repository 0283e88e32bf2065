use Rattle.std.proofs.Common.{◌≡◌, ℕ, ◌+◌, ◌^◌, ◌<◌, length, map, drop}
use Rattle.duality.specs.Shares.{counted, having}
use Rattle.duality.proofs.tally.add.Given as goal

abbrev pub invariant-eights : goal.invariant-eights
invariant-eights g l = record {
  long : length l.planes ≡ 13;
  each : (k : ℕ) → counted g.M.Mask.bits l.initial.planes k + having (map g.M.Mask.bits l.masks) k < 2 ^ 13 → counted g.M.Mask.bits l.planes k + having (map g.M.Mask.bits l.rest) k ≡ counted g.M.Mask.bits l.initial.planes k + having (map g.M.Mask.bits l.masks) k;
}

abbrev pub decreases-eights : goal.decreases-eights
decreases-eights g l = length l.rest

abbrev pub invariant-loop-mask : goal.invariant-loop-mask
invariant-loop-mask g l = record {
  long : length l.planes ≡ 13;
  each : (k : ℕ) → counted g.M.Mask.bits l.fn.planes k + having (map g.M.Mask.bits l.masks) k < 2 ^ 13 → counted g.M.Mask.bits l.planes k + having (drop l.mask-index (map g.M.Mask.bits l.mask-items)) k ≡ counted g.M.Mask.bits l.fn.planes k + having (map g.M.Mask.bits l.masks) k;
}
