use Rattle.std.proofs.Common.{◌≡◌, Bool, get_or, refl, sym, arith}
use Rattle.std.proofs.lemmas.Fn.{says_at}
use Rattle.std.proofs.lemmas.List.{get_or_default}
use Rattle.std.specs.Fn.{FnReturnsAt}
use Rattle.sets.specs.Sets.{Numbers}
use Rattle.std.proofs.lemmas.List.Filters.{FiltersInPlace-all}
use Rattle.std.proofs.lemmas.List.Sorted.{IsPermutation-trans}
use Rattle.duality.specs.Remaining.{Tests}
use Rattle.duality.proofs.Swapping.{filtered_more, bool_most}
use Rattle.duality.proofs.masks.sift.Goals as goal

pub loop-i-preserved : goal.loop-i-preserved
loop-i-preserved g c =
    let xs = c.loop-i.masks in
    let passed = c.passes-passed.result in
    let more = c.from-stay.result in
    let x = get_or xs c.loop-i.i c.index-masks-i.result in
    let read : x ≡ get_or xs c.loop-i.i x = get_or_default xs c.loop-i.i c.index-masks-i.result x (omega arith) in
    let tested = λ (test : Numbers → Bool) (h : Tests g.M.Mask.bits (FnReturnsAt g.F.Fn c.args.passes.now) test). sym (h x passed (says_at g.F.Fn c.passes-passed.ensures refl)) in
    record {
      moved = IsPermutation-trans c.args.masks.now xs c.swap.new.self c.loop-i.invariant.moved c.swap.ensures.permutation;
      behind = omega (arith, bool_most passed more c.from-stay.ensures);
      front = λ test h. filtered_more (c.loop-i.invariant.front test h) (omega arith) read c.swap.ensures.by_index passed more (tested test h) c.from-stay.ensures;
    }

pub returns-clause-front : goal.returns-clause-front
returns-clause-front g c test h = FiltersInPlace-all (c.loop-i.invariant.front test h) (omega arith)
