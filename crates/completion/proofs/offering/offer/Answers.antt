-- Each turn collects its item if it is up; what is put are the items that are up.
use Rattle.std.proofs.Common.{arith}
use Rattle.systems.specs.States.{up}
use Rattle.tables.specs.Refusals.{table_reply}
use Rattle.completion.proofs.Items.{collected_skip, collected_more, offers_collected}
use Rattle.completion.proofs.offering.offer.Goals as goal
use Rattle.completion.proofs.offering.offer.Goals.{then-is_up, else-is_up}

pub loop-item-preserved : goal.loop-item-preserved
loop-item-preserved g c =
    let s = up c.args.row.now in
    let l = c.loop-item in
    elim c.if-is_up.branch [
      | then-is_up w ↦ rw (w.items-is, w.push.ensures.items) (collected_more s l.items.items l.item l.invariant w.if-is_up.ensures)
      | else-is_up w ↦ rw w.items-is (collected_skip s l.items.items l.item l.invariant w.if-is_up.ensures)
    ]

pub returns-clause-offers : goal.returns-clause-offers
returns-clause-offers g c n ps h e =
    let row = c.args.row.now in
    let p = c.put.ensures.puts n ps h in (
      p.0,
      offers_collected n c.args.table.now.capacity g.K.SetKind.holds g.met.K.SetKind.none g.met.K.SetKind.less ps (up row)
          c.loop-item.items.items c.loop-item.item c.loop-item.invariant (omega (arith, e, c.count-item-end.ensures, c.loop-item-test.false))
          (λ j ge. row.down j (omega (arith, e))) (table_reply c.put.result) p.0 (rw c.as_slice.ensures.value at p.1),
      p.2,
    )
