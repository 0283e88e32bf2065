use Rattle.std.proofs.Common.{◌≡◌, ◌<◌, length, map, get_or, sym, refl, subst, inl, inr, arith}
use Rattle.std.proofs.lemmas.Bool.{cases_lt}
use Rattle.std.proofs.lemmas.List.{length-map}
use Rattle.sets.specs.Sets.{nothing, Below}
use Rattle.tables.specs.Memory.{meant}
use Rattle.duality.proofs.RowFacts.{row_is}
use Rattle.duality.proofs.masks.all_low.Goals as goal

pub loop-row-preserved : goal.loop-row-preserved
loop-row-preserved g c i lt =
    let mem = g.K.SetKind.mem in
    let j = c.loop-row.row-index in
    let x = c.row-item.result in
    elim (cases_lt i j) [
      | inl before ↦ c.loop-row.invariant i before
      | inr after ↦
          let here : j ≡ i = omega arith in
          subst (λ n. Below 64 (get_or (map (meant mem) c.args.rows.now) n nothing)) here
          (subst (Below 64) (sym (row_is mem c.args.rows.now j x x.set c.loop-row-test.true c.row-item.is refl)) (c.is_low.ensures c.if-not-is_low.false))
    ]

pub returns : goal.returns
returns g c e i lt = let l : i < length c.args.rows.now = simp length-map at lt in c.loop-row.invariant i (omega (arith, c.loop-row-test.false))
