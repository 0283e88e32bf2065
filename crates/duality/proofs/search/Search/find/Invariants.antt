use Rattle.std.proofs.Common.{◌≡◌, ℕ, ◌+◌, ◌*◌, ◌≤◌, [], length, map}
use Rattle.tables.specs.Memory.{meant}
use Rattle.duality.specs.Halves.{opened}
use Rattle.duality.specs.Remaining.{Fits}
use Rattle.duality.specs.Searches.{Stands, Behind, Known, Found, Leaves, Led}
use Rattle.duality.specs.Asides.{left_cut}
use Rattle.duality.proofs.Findings.{OpenSince}
use Rattle.duality.proofs.Narrowing.{PassForOf}
use Rattle.duality.proofs.Halving.{left}
use Rattle.duality.proofs.search.Search.find.Given as goal

abbrev pub invariant-halves : goal.invariant-halves
invariant-halves g l = record {
  low : l.self.low.count ≡ l.initial.self.low.count;
  high : l.self.high.count ≡ l.initial.self.high.count;
  paths : Fits g.M.Mask.bits l.left_paths;
  cuts : Fits g.M.Mask.bits l.left_cuts;
  stands : (n : ℕ) → Stands n l.initial.self → Stands n l.self;
  behind : (n : ℕ) → Stands n l.initial.self → Behind n (map (meant g.K.SetKind.mem) l.paths) (map (meant g.K.SetKind.mem) l.cuts) l.initial.self → Behind n (map (meant g.K.SetKind.mem) l.paths) (map (meant g.K.SetKind.mem) l.cuts) l.self;
  known : (n : ℕ) → Stands n l.initial.self → Known g.M.Mask.bits g.K.SetKind.mem n (map (meant g.K.SetKind.mem) l.paths) (map (meant g.K.SetKind.mem) l.cuts) l.self l.left_paths l.left_cuts;
  found : (n : ℕ) → Stands n l.initial.self → Found n (map (meant g.K.SetKind.mem) l.paths) (map (meant g.K.SetKind.mem) l.cuts) l.self l.finding;
  only : (n : ℕ) → Stands n l.initial.self → Leaves g.M.Mask.bits l.self l.left_paths l.left_cuts l.finding;
  passed : (n : ℕ) → Stands n l.initial.self → PassForOf g.M.Mask.bits left_cut l.left_cuts l.earlier (opened l.self.splits);
  all_paths : 2 * (13 + length l.paths) ≤ length l.fn.memory → l.left_paths.behind.now ≡ [];
  all_cuts : 2 * (13 + length l.cuts) ≤ length l.fn.memory → l.left_cuts.behind.now ≡ [];
  led : (n d : ℕ) → Stands n l.initial.self → 2 * (13 + length l.paths) ≤ length l.fn.memory → 2 * (13 + length l.cuts) ≤ length l.fn.memory → Led n (map (meant g.K.SetKind.mem) l.paths) (map (meant g.K.SetKind.mem) l.cuts) d (opened l.initial.self.splits) → Led n (map (meant g.K.SetKind.mem) l.paths) (map (meant g.K.SetKind.mem) l.cuts) d (opened l.self.splits);
  since : (n : ℕ) → Stands n l.initial.self → OpenSince n (map (meant g.K.SetKind.mem) l.paths) (map (meant g.K.SetKind.mem) l.cuts) l.earlier (opened l.self.splits);
}

abbrev pub decreases-halves : goal.decreases-halves
decreases-halves g l = left 256 (opened l.self.splits)
