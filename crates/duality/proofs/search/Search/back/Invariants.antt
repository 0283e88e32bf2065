use Rattle.std.proofs.Common.{◌≡◌, ℕ, length}
use Rattle.duality.specs.Halves.{opened, backed}
use Rattle.duality.specs.Searches.{Stands}
use Rattle.duality.proofs.search.Search.back.Given as goal

abbrev pub invariant-loop-frame : goal.invariant-loop-frame
invariant-loop-frame l = record {
  stands : (n : ℕ) → Stands n l.initial.self → Stands n l.self;
  low : l.self.low.count ≡ l.initial.self.low.count;
  high : l.self.high.count ≡ l.initial.self.high.count;
  back : backed (opened l.self.splits) ≡ backed (opened l.initial.self.splits);
}

abbrev pub decreases-loop-frame : goal.decreases-loop-frame
decreases-loop-frame l = length (opened l.self.splits)
