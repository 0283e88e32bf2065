use Rattle.std.proofs.Common.{◌<◌, T, sym, refl, subst, take, arith}
use Rattle.std.specs.Result.{is_ok}
use Rattle.std.proofs.lemmas.Result.{OkIff-decides, MatchResult-from_err}
use Rattle.std.proofs.lemmas.Bool.Decides.{not_from_Decides}
use Rattle.std.proofs.lemmas.List.{length-take-le}
use Rattle.sets.specs.Sets.{listed}
use Rattle.sets.specs.Listing.{count_listed}
use Rattle.sets.specs.ListLaws.{held_not_high, held_not_full}
use Rattle.sets.proofs.Lists.{converted, with_member, member_found, new_at, put_in}
use Rattle.sets.proofs.list.ListSetSetKind.insert.Goals as goal

pub returns-in_err-number-clause-err : goal.returns-in_err-number-clause-err
returns-in_err-number-clause-err c =
    let x = c.args.self.now in
    let high = not_from_Decides (is_ok c.try_from.result) (OkIff-decides c.try_from.result (c.args.k < 256) c.args.k c.try_from.ensures) (sym c.in_err-number.ensures.variant) in
    MatchResult-from_err c.from_residual.result _ _ c.from_residual.ensures.0 (λ d. (held_not_high (listed (take x.len x.numbers)) c.args.k (omega arith), refl))

pub returns-in_default-clause-ok : goal.returns-in_default-clause-ok
returns-in_default-clause-ok c =
    let x = c.args.self.now in
    let xs = take x.len x.numbers in
    let n = converted _ c.try_from.result c.in_ok-number.was c.try_from.ensures c.map_err.ensures.variant c.map_err.ensures.cases in
    with_member (listed xs) c.args.k
    (subst (λ k. T (listed xs k)) n.0 (member_found xs _ c.in_ok-number.number c.in_default.field-0 c.binary_search.result x.ok.1 c.as_slice.ensures c.binary_search.ensures.position c.in_default.is))

pub returns-then-self-eq-ROOM-clause-err : goal.returns-then-self-eq-ROOM-clause-err
returns-then-self-eq-ROOM-clause-err c =
    let x = c.args.self.now in
    let xs = take x.len x.numbers in
    let p = new_at _ c.try_from.result c.in_ok-number.was c.try_from.ensures c.map_err.ensures.variant c.map_err.ensures.cases x.ok.1 c.as_slice.ensures c.binary_search.ensures.position c.in-Err.is in
    (held_not_full (listed xs) c.args.k p.low p.new (omega (arith, count_listed 0 xs x.ok.1, length-take-le x.len x.numbers (omega arith))), refl)

pub invariant_of-self : goal.invariant_of-self
invariant_of-self c =
    let x = c.args.self.now in
    let p = new_at _ c.try_from.result c.in_ok-number.was c.try_from.ensures c.map_err.ensures.variant c.map_err.ensures.cases x.ok.1 c.as_slice.ensures c.binary_search.ensures.position c.in-Err.is in
    record { ok = (omega arith, (put_in x.len x.numbers _ c.in-Err.at (omega arith) x.ok.1 p c.rotate_right.ensures.after).0) }

pub returns-clause-ok : goal.returns-clause-ok
returns-clause-ok c =
    let x = c.args.self.now in
    let p = new_at _ c.try_from.result c.in_ok-number.was c.try_from.ensures c.map_err.ensures.variant c.map_err.ensures.cases x.ok.1 c.as_slice.ensures c.binary_search.ensures.position c.in-Err.is in
    (put_in x.len x.numbers _ c.in-Err.at (omega arith) x.ok.1 p c.rotate_right.ensures.after).1
