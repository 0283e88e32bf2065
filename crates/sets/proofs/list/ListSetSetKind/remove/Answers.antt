use Rattle.std.proofs.Common.{Some, None, ◌≡◌, ◌≢◌, ◌<◌, length, take, ap, ◌∙◌, rules, tests, arith}
use Rattle.std.proofs.lemmas.List.{length-take-le}
use Rattle.std.proofs.lemmas.Iterator.{YieldsList-from_slice, IsFirst-from_position}
use Rattle.sets.specs.Sets.{listed, without}
use Rattle.sets.proofs.Lists.{taken_out, none_equal, without_other}
use Rattle.sets.proofs.list.ListSetSetKind.remove.Goals as goal

pub invariant_of-self : goal.invariant_of-self
invariant_of-self c =
    let x = c.args.self.now in
    let whole : c.iter.result.rest.now ≡ take x.len x.numbers = cc in
    let inside : c.in-Some.at < x.len = omega (arith, c.in-Some.ensures.bound, ap length whole, length-take-le x.len x.numbers (omega arith)) in
    record { ok = (omega arith, (taken_out x.len x.numbers _ c.in-Some.at (omega arith) x.ok.1 inside c.rotate_left.ensures.after).0) }

pub returns-in-Some : goal.returns-in-Some
returns-in-Some c =
    let x = c.args.self.now in
    let xs = take x.len x.numbers in
    let found = IsFirst-from_position _ _ (Some c.in-Some.at) (λ y. y ≡ c.args.k) (λ y. y ≢ c.args.k) c.in-Some.ensures.ran (YieldsList-from_slice xs cc) (λ x q k. search (rules, tests)) (λ x q k. search (rules, tests)) in
    let size = length-take-le x.len x.numbers (omega arith) in
    λ k.
    (taken_out x.len x.numbers _ c.in-Some.at (omega arith) x.ok.1 (omega (arith, found.0)) c.rotate_left.ensures.after).1 k
    ∙ ap (λ m. without (listed xs) m k) (found.1 0)

pub returns-in_default : goal.returns-in_default
returns-in_default c =
    let x = c.args.self.now in
    let xs = take x.len x.numbers in
    let none = IsFirst-from_position _ _ None (λ y. y ≡ c.args.k) (λ y. y ≢ c.args.k) c.in_default.ensures.ran (YieldsList-from_slice xs cc) (λ x q k. search (rules, tests)) (λ x q k. search (rules, tests)) in
    without_other (listed xs) c.args.k (none_equal xs c.args.k none)
