-- The parts of the line, one behind the other.
use Rattle.std.proofs.Common.{◌≡◌, sym, ap, ◌∙◌}
use Rattle.writing.specs.Reports.{mark}
use Rattle.writing.proofs.Writing.{wrote_then, wrote_same}
use Rattle.writing.proofs.report.put_mark.Goals as goal
use Rattle.writing.proofs.report.put_mark.Goals.{then-is_up, else-is_up}

pub returns : goal.returns
returns c =
    let first : c.if-is_up.put.now ≡ mark c.args.is_up = elim c.if-is_up.branch [
      | then-is_up w ↦ ap (λ b. b.now) w.put-is ∙ sym (ap mark w.if-is_up.true)
      | else-is_up w ↦ ap (λ b. b.now) w.put-is ∙ sym (ap mark w.if-is_up.false)
    ] in
    wrote_then (wrote_same first c.put.ensures)
    (wrote_then c.put-2.ensures (wrote_then (wrote_same c.columns.ensures c.put-3.ensures) (wrote_then c.put-4.ensures (wrote_then c.put-5.ensures c.put-6.ensures))))
