use Rattle.std.proofs.Common.{◌≡◌, get_or, sym, refl, ap, subst, arith}
use Rattle.std.proofs.lemmas.Bool.{false≢true}
use Rattle.sets.specs.Sets.{Within}
use Rattle.std.proofs.lemmas.List.Filters.{FiltersInPlace-more_swap, FiltersInPlace-more_no}
use Rattle.tables.specs.Memory.{meant}
use Rattle.tables.specs.Rows.{stays}
use Rattle.tables.proofs.Sifting.{stays_at_yes, stays_at_no, stays_at_other, sifted_rows, sifted_whole}
use Rattle.tables.proofs.memory.keep_others.Goals as goal
use Rattle.tables.proofs.memory.keep_others.Goals.{then-not-within, else-not-within}

pub loop-i-preserved : goal.loop-i-preserved
loop-i-preserved g c =
    let mem = meant g.K.SetKind.mem in
    let r = g.K.SetKind.mem c.args.row.now in
    let low = g.met.K.SetKind.below c.args.row.now in
    let x = c.index-rows-i.result in
    let read : mem x ≡ mem (get_or c.loop-i.rows c.loop-i.i x) = ap mem c.index-rows-i.is in
    elim c.if-not-within.branch [
      | then-not-within w ↦
          let out : Within r (mem x) → ⊥ = λ h. false≢true (w.if-not-within.ensures.1 (subst (Within r) read h)) in
          simp (w.rows-is, w.stay-is) (FiltersInPlace-more_swap c.loop-i.invariant (omega arith) (stays_at_yes mem _ r low x out) c.index-rows-i.is w.swap.ensures.by_index)
      | else-not-within w ↦
          let inside : Within r (mem x) = subst (Within r) (sym read) (w.if-not-within.ensures.0 refl) in
          simp (w.rows-is, w.stay-is) (FiltersInPlace-more_no c.loop-i.invariant (omega arith) (stays_at_no mem _ r low x inside) c.index-rows-i.is)
    ]

pub returns-clause-whole : goal.returns-clause-whole
returns-clause-whole g c = sifted_whole _ _ _ _ _ _ c.loop-i.invariant (omega arith) c.clear.ensures.long

pub returns-clause-others : goal.returns-clause-others
returns-clause-others g c = λ n low.
    let mem = meant g.K.SetKind.mem in
    let r = g.K.SetKind.mem c.args.row.now in
    sifted_rows _ _ _ _ _ _ c.loop-i.invariant (omega arith) c.clear.ensures.long (stays n r) (stays_at_other mem _ r (g.met.K.SetKind.below c.args.row.now) n low) c.clear.ensures.empty
