use Rattle.std.proofs.Common.{◌≡◌, Bool, true, false, ◌&&◌, refl, ◌^◌, arith}
use Rattle.std.proofs.lemmas.Bool.{eq-eqb, eqb-true, false≢true}
use Rattle.std.specs.Cmp.Derive.{both_true}
use Rattle.sets.specs.Marks.{marked}
use Rattle.sets.proofs.MaskLaws.{words_are_none, all_four}
use Rattle.sets.proofs.mask.MarksMask.is_none.Goals as goal

both : (a b : Bool) → (a && b) ≡ true → (a ≡ true) × (b ≡ true)
both true b e = (refl, e)
both false b e = absurd (false≢true e)

pub returns : goal.returns
unfolding marked
returns c =
    words_are_none c.args.self.now.words _ (
      λ e.
          let p = both _ _ e in
          let q = both _ _ p.0 in
          let r = both _ _ q.0 in
          (eqb-true _ 0 r.0, eqb-true _ 0 r.1, eqb-true _ 0 q.1, eqb-true _ 0 p.1),
      λ z. both_true (both_true (both_true (eq-eqb _ 0 z.0) (eq-eqb _ 0 z.1)) (eq-eqb _ 0 z.2)) (eq-eqb _ 0 z.3),
    )
    (all_four c.args.self.now.words (2 ^ 64) (omega arith) (omega arith) (omega arith) (omega arith))
