use Rattle.std.proofs.Common.{inl, inr, arith}
use Rattle.std.proofs.lemmas.Bool.{cases_Bool}
use Rattle.duality.proofs.tally.take_away.Goals as goal

pub returns-clause-each : goal.returns-clause-each
returns-clause-each g c k fewer =
    elim (cases_Bool (g.M.Mask.bits c.present-items.result k)) [
      | inl on ↦
          let down = c.turn.ensures.turned k on in
          let added = c.add.ensures.each k (omega (arith, down, fewer)) in
          omega (arith, down, added, fewer, c.turn-2.ensures.turned k on)
      | inr off ↦
          let zero = c.present-items.ensures k off in
          let down = c.turn.ensures.others k off in
          let added = c.add.ensures.each k (omega (arith, zero, down, fewer)) in
          omega (arith, zero, down, added, fewer, c.turn-2.ensures.others k off)
    ]
