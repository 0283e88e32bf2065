-- By whether the put is refused.
use Rattle.systems.specs.States.{up}
use Rattle.tables.specs.Refusals.{table_reply}
use Rattle.completion.proofs.Replied.{put_replaced, strike_replaced}
use Rattle.completion.proofs.tightening.replace.Goals as goal

pub returns-in-Ok-clause-replaces : goal.returns-in-Ok-clause-replaces
returns-in-Ok-clause-replaces g c n ps pos h sound count lt less =
    let o = c.in-Ok.ensures.offers n ps h count in (
      o.0,
      o.2,
      put_replaced n c.args.table.now.capacity g.K.SetKind.holds ps c.args.row (up c.args.set.now) lt less.0 c.in-Ok.gone c.max.result c.max.ensures o.0 o.1,
    )

pub returns-in_default-clause-replaces : goal.returns-in_default-clause-replaces
returns-in_default-clause-replaces g c n ps pos h sound count lt less =
    let o = c.in_default.ensures.offers n ps h count in
    let s = c.strike.ensures.strikes n o.0 o.2 in (
      s.0,
      s.2,
      strike_replaced n c.args.table.now.capacity g.K.SetKind.holds ps c.args.row (up c.args.set.now) lt less.0 pos
          (g.met.K.SetKind.less _ (up c.args.set.now) (sound.held c.args.row lt) less.0) (λ k t. sound.items c.args.row lt k (less.0 k t))
          _ _ o.0 o.1 (table_reply c.strike.result) s.0 s.1,
    )
