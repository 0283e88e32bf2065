use Rattle.std.proofs.Common.{◌≡◌, ◌∷◌, [], ◌++◌, map, length, take, sym, refl, ap, ◌∙◌, subst, ◌<◌, arith}
use Rattle.std.proofs.lemmas.List.{length-set, length-map, map-append, map_more, take_more_set}
use Rattle.sets.specs.Sets.{Below}
use Rattle.tables.specs.Memory.{meant}
use Rattle.duality.proofs.Masking.{mask_is}
use Rattle.duality.proofs.RowFacts.{row_is}
use Rattle.duality.proofs.masks.load.Goals as goal

pub loop-place-preserved : goal.loop-place-preserved
loop-place-preserved g c =
    let bits = g.M.Mask.bits in
    let mem = g.K.SetKind.mem in
    let ps = c.loop-place.places in
    let rows = c.args.rows.now in
    let p = c.loop-place.place in
    let x = c.index-rows-place.result in
    let m = c.of.result in
    let inside : p < length rows = omega arith in
    let read = row_is mem rows p x x.set inside c.index-rows-place.is refl in
    let low : Below g.M.Mask.most (mem c.set.result.now) = subst (λ s. Below g.M.Mask.most s) (read ∙ ap mem (sym c.set.ensures)) (c.requires.low p (simp length-map inside)) in
    let is : bits m ≡ meant mem x = mask_is g.M.Mask.most (bits m) (mem c.set.result.now) (λ k lt. c.of.ensures k lt ∙ c.marks.ensures k) (g.met.M.Mask.under m) low ∙ ap mem c.set.ensures in
    record {
      long = length-set ps p m ∙ c.loop-place.invariant.long;
      so_far =
          ap (map bits) (take_more_set ps p m (omega (arith, c.loop-place.invariant.long)))
          ∙ map-append bits (take p ps) (m ∷ [])
          ∙ ap (λ l. l ++ bits m ∷ []) c.loop-place.invariant.so_far
          ∙ ap (λ s. map (meant mem) (take p rows) ++ s ∷ []) (is ∙ ap (meant mem) c.index-rows-place.is)
          ∙ sym (map_more (meant mem) rows p x inside);
    }
