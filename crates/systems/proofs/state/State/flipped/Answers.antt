use Rattle.std.proofs.Common.{not, ◌&&◌, ap, ◌∙◌, arith}
use Rattle.std.proofs.lemmas.Bool.{le-ltb}
use Rattle.sets.specs.Marks.{marked as has_mark}
use Rattle.sets.specs.Sets.{Same}
use Rattle.systems.specs.States.{up}
use Rattle.systems.specs.Systems.{others}
use Rattle.systems.proofs.Marks.{marked_past, turned}
use Rattle.systems.proofs.state.State.flipped.Goals as goal

pub invariant_of-result : goal.invariant_of-result
invariant_of-result c =
    let old = c.args.self.now in
    let made : Same (has_mark c.xor.result) (others old.count (up old)) =
    turned old.count (up old) (has_mark c.below.result) (has_mark c.xor.result) (omega arith) old.down c.below.ensures c.xor.ensures (λ k. marked_past c.xor.result k (omega arith)) in
    record { few = omega arith; down = λ k l. made k ∙ ap (λ b. b && not (up old k)) (le-ltb k old.count l) }

pub returns-clause-marks : goal.returns-clause-marks
returns-clause-marks c =
    let old = c.args.self.now in
    turned old.count (up old) (has_mark c.below.result) (has_mark c.xor.result) (omega arith) old.down c.below.ensures c.xor.ensures (λ k. marked_past c.xor.result k (omega arith))
