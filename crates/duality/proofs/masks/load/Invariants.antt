use Rattle.std.proofs.Common.{◌≡◌, length, map, take}
use Rattle.tables.specs.Memory.{meant}
use Rattle.duality.proofs.masks.load.Given as goal

abbrev pub invariant-loop-place : goal.invariant-loop-place
invariant-loop-place g l = record {
  long : length l.places ≡ length l.rows;
  so_far : map g.M.Mask.bits (take l.place l.places) ≡ map (meant g.K.SetKind.mem) (take l.place l.rows);
}
