use Rattle.std.proofs.Common.{◌≡◌, ◌+◌, length, drop, subst, arith}
use Rattle.std.proofs.lemmas.List.{take_rest}
use Rattle.std.proofs.lemmas.Result.{err_from_is_err_and}
use Rattle.std.proofs.lemmas.Bool.Decides.{not_from_Decides}
use Rattle.sheets.specs.Items.{Stops}
use Rattle.sheets.proofs.Going.{going_taken, going_answer, going_refused, going_names}
use Rattle.sheets.proofs.Answering.{stop_at, none_at}
use Rattle.sheets.proofs.items.all_items.Goals as goal

pub returns-in_err-len : goal.returns-in_err-len
returns-in_err-len c =
    let p = err_from_is_err_and c.from_residual.result c.from_residual.ensures.1 in
    let i = c.items.invariant in
    let go = subst (λ z. Stops z → ⊥) (take_rest c.args.text.now c.items.at) (not_from_Decides _ c.stops.ensures c.items-test.true) in
    rw (p.1, p.2) (i.0, going_refused c.args.text.now c.args.places.now c.items.places c.items.at c.items.count i.0 _ i.1 c.in_err-len.ensures (omega arith) go, i.1.memory, tt)

pub items-preserved : goal.items-preserved
items-preserved c =
    let i = c.items.invariant in
    let e : c.items.at + (10 + c.in_ok-len.len) ≡ c.items.at + 10 + c.in_ok-len.len = omega arith in
    rw e (going_taken c.args.text.now c.args.places.now c.items.places c.items.at c.items.count c.in_ok-len.len i.0 i.1 c.in_ok-len.ensures (omega arith))

pub returns-then-count-eq0 : goal.returns-then-count-eq0
returns-then-count-eq0 c =
    let i = c.items.invariant in
    let stop = subst Stops (take_rest c.args.text.now c.items.at) (c.stops.ensures.0 c.items-test.false) in
    (i.0, going_answer c.args.text.now c.args.places.now c.items.places c.items.at c.items.count i.0 _ i.1 (none_at (length c.args.places.now) i.0 (drop c.items.at c.args.text.now) c.items.count i.1.many stop c.if-count-eq0.true), i.1.memory, tt)

pub returns : goal.returns
returns c =
    let i = c.items.invariant in
    let stop = subst Stops (take_rest c.args.text.now c.items.at) (c.stops.ensures.0 c.items-test.false) in
    (i.0, going_answer c.args.text.now c.args.places.now c.items.places c.items.at c.items.count i.0 _ i.1 (stop_at (length c.args.places.now) i.0 (drop c.items.at c.args.text.now) c.items.count i.1.many stop (omega arith)), i.1.memory, going_names _ _ _ _ _ _ i.1)
