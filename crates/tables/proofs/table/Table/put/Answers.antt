use Rattle.std.proofs.Common.{refl, ◌∙◌, arith}
use Rattle.std.proofs.lemmas.List.{length-set, length-take-le}
use Rattle.std.proofs.lemmas.Result.{err_from_is_err_and}
use Rattle.tables.specs.Memory.{meant}
use Rattle.tables.specs.Calls.{put_closed, put_item}
use Rattle.tables.proofs.Changing.{length_front, beyond_written}
use Rattle.tables.proofs.Replying.{puts_contains, puts_full, puts_done}
use Rattle.tables.proofs.table.Table.put.Goals as goal

pub returns-in_err-opened-clause-puts : goal.returns-in_err-opened-clause-puts
returns-in_err-opened-clause-puts g c = λ n ps h.
    let p = err_from_is_err_and c.from_residual.result c.from_residual.ensures.1 in
    rw (← h.items) (ps, rw (p.1, p.2, c.in_err-opened.ensures.1) (put_closed c.in_err-opened.ensures.0), record { items = refl; standing = h.standing })

pub returns-in_err-row-clause-puts : goal.returns-in_err-row-clause-puts
returns-in_err-row-clause-puts g c = λ n ps h.
    let p = err_from_is_err_and c.from_residual-in_err-row.result c.from_residual-in_err-row.ensures.1 in
    rw (← h.items) (ps, rw (p.1, p.2) (put_item _ _ c.in_ok-opened.ensures c.in_err-row.ensures), record { items = refl; standing = h.standing })

pub returns-in-Some-clause-puts : goal.returns-in-Some-clause-puts
returns-in-Some-clause-puts g c = λ n ps h.
    let row = c.in_ok-row.ensures in
    let contained = rw (c.rows.ensures.rows n ps h) at c.in-Some.ensures in
    let t = c.args.self.now in
    let put = puts_contains (meant g.K.SetKind.mem) _ _ _ (record { set = c.in_ok-row.row }) c.in_ok-opened.ensures row.0 row.1 t.places.now _ _ ps (omega arith) (omega arith) h.standing _ contained in
    rw (← h.items) (ps, put, record { items = refl; standing = h.standing })

pub returns-then-stay-self-clause-puts : goal.returns-then-stay-self-clause-puts
returns-then-stay-self-clause-puts g c = λ n ps h.
    let row = c.in_ok-row.ensures in
    let new = rw (c.rows.ensures.rows n ps h) at c.in_default.ensures in
    let kept = c.keep_others-stay.ensures in
    let t = c.args.self.now in
    let put = puts_full (meant g.K.SetKind.mem) _ _ _ (record { set = c.in_ok-row.row }) c.in_ok-opened.ensures row.0 row.1 t.places.now _ _ ps (omega arith) (omega arith) h.standing new _ _ kept.long kept.fewer kept.others (omega arith) in
    rw (← h.items) (ps, put.0, record { items = refl; standing = put.1 })

pub returns-clause-kept : goal.returns-clause-kept
returns-clause-kept g c =
    let t = c.args.self.now in
    let xs = t.places.now in
    let long = c.keep_others-stay.ensures.long ∙ length-take-le t.count xs (omega arith) in
    record {
      items = refl;
      capacity = refl;
      length = length-set _ _ _ ∙ length_front xs _ t.count long (omega arith);
      beyond = beyond_written xs _ t.count long t.capacity _ _ (omega arith) (omega arith);
      lent = refl;
    }

pub returns-clause-puts : goal.returns-clause-puts
returns-clause-puts g c = λ n ps h.
    let row = c.in_ok-row.ensures in
    let new = rw (c.rows.ensures.rows n ps h) at c.in_default.ensures in
    let kept = c.keep_others-stay.ensures in
    let t = c.args.self.now in
    let put = puts_done (meant g.K.SetKind.mem) _ _ _ (record { set = c.in_ok-row.row }) c.in_ok-opened.ensures row.0 row.1 t.places.now _ _ ps (omega arith) (omega arith) h.standing new _ _ kept.long kept.fewer kept.others (omega arith) in
    rw (← h.items) (_, put.0, record { items = refl; standing = put.1 })
