use Rattle.std.proofs.Common.{◌≤◌, Bool}
use Rattle.std.specs.Fn.{FnReturnsAt}
use Rattle.std.specs.List.Sorted.{IsPermutation}
use Rattle.std.proofs.lemmas.List.Filters.{FiltersInPlace}
use Rattle.sets.specs.Sets.{Numbers}
use Rattle.duality.specs.Remaining.{Tests}
use Rattle.duality.proofs.masks.sift.Given as goal

abbrev pub invariant-loop-i : goal.invariant-loop-i
invariant-loop-i g l = record {
  moved : IsPermutation l.initial.masks l.masks;
  behind : l.stay ≤ l.i;
  front : (test : Numbers → Bool) → Tests g.M.Mask.bits (FnReturnsAt g.F.Fn l.passes) test → FiltersInPlace (λ m. test (g.M.Mask.bits m)) l.initial.masks l.masks l.stay l.i;
}
