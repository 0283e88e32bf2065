use Rattle.std.proofs.Common.{◌≤◌, MatchOption, true, false, subst, arith}
use Rattle.std.proofs.lemmas.Iterator.{YieldsList-from_slice, IsFirst-from_position}
use Rattle.systems.specs.Systems.{EachRow}
use Rattle.completion.specs.Completions.{PathBorne, FirstNot}
use Rattle.completion.proofs.Bearings.{Answered, first_not}
use Rattle.completion.proofs.tightening.first_unborne.Goals as goal

pub returns : goal.returns
returns g c n ps holds sound e =
    let φ = g.D.Drawing.means c.args.drawing.now in
    let mem = g.K.SetKind.mem in
    let xs = c.rows.result.now in
    let is = c.rows.ensures.rows n ps holds in
    let few : φ.items ≤ 256 = omega (arith, holds.items, c.args.table.now.small) in
    subst (λ rows. MatchOption c.position.result (EachRow rows (PathBorne φ)) (FirstNot (PathBorne φ) rows)) is
    (first_not mem φ xs (rw (is, e) sound.items) c.position.result
    (IsFirst-from_position _ _ c.position.result (Answered mem φ false) (Answered mem φ true) c.position.ensures.ran
    (YieldsList-from_slice xs cc) (λ x q k. grind arith) (λ x q k. grind arith)))
