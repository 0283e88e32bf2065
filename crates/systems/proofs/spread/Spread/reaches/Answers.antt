use Rattle.std.proofs.Common.{ap, refl}
use Rattle.systems.specs.Marking.{marks_of}
use Rattle.systems.proofs.Passes.{passed_as}
use Rattle.systems.proofs.Reaching.{sound_first, fewer_left, decides_walk}
use Rattle.systems.proofs.spread.Spread.reaches.Goals as goal

pub loop-init : goal.loop-init
loop-init c = record { drawing = refl; state = refl; sound = sound_first _ _ _ _ _ c.requires.first }

pub loop-smaller : goal.loop-smaller
loop-smaller c =
    let inv = c.loop.invariant in
    let before = marks_of c.loop.self.marks in
    let after = marks_of c.pass.new.self.marks in
    fewer_left _ _ _ _ _ before after c.pass.result
    (passed_as (ap (λ x. x.now) inv.drawing) (ap (λ x. x.now) inv.state) before after c.pass.result c.pass.ensures.passed)
    c.loop-test.true

pub returns : goal.returns
returns c =
    let inv = c.loop.invariant in
    let before = marks_of c.loop.self.marks in
    let after = marks_of c.pass.new.self.marks in
    decides_walk _ _ _ _ before after c.pass.result
    (passed_as (ap (λ x. x.now) inv.drawing) (ap (λ x. x.now) inv.state) before after c.pass.result c.pass.ensures.passed)
    c.loop-test.false inv.sound c.args.node
