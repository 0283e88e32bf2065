-- Each turn shows a missed state and learns from it, or shows that none is missed.
use Rattle.std.proofs.Common.{Err, Result, sym, ap, ◌∙◌, subst, arith}
use Rattle.std.proofs.lemmas.Result.{err_from_is_err_and}
use Rattle.completion.specs.declared.side.Side.TheVariants.{Paths}
use Rattle.completion.specs.declared.fault.CompletionFault.{CompletionFault}
use Rattle.completion.specs.declared.fault.CompletionFault.TheVariants.{MoreThanPlaces}
use Rattle.tables.proofs.Keeping.{kept_same, kept_trans}
use Rattle.completion.proofs.Filled.{Filled, filling_none, filled_never, filled_all, filling_more, filled_blocked}
use Rattle.completion.proofs.filling.fill.Goals as goal

pub loop-turn-init : goal.loop-turn-init
loop-turn-init g c = record {
  paths_kept = kept_same;
  cuts_kept = kept_same;
  filling = filling_none c.item_count.result c.item_count.ensures c.new-search.ensures.stands c.new-search.ensures.fresh;
}

pub returns-in_default-clause-fills : goal.returns-in_default-clause-fills
returns-in_default-clause-fills g c = filled_all c.loop-turn.invariant.filling c.rows.ensures.rows c.rows-in-loop-turn.ensures.rows c.in_default.ensures.found

pub loop-turn-preserved : goal.loop-turn-preserved
loop-turn-preserved g c =
    let inv = c.loop-turn.invariant in
    let e = c.next_missed.ensures in
    record {
      paths_kept = kept_trans inv.paths_kept c.learn.ensures.paths_kept;
      cuts_kept = kept_trans inv.cuts_kept c.learn.ensures.cuts_kept;
      filling = filling_more inv.filling c.rows.ensures.rows c.rows-in-loop-turn.ensures.rows inv.paths_kept.capacity inv.cuts_kept.capacity
          c.in-Some.missed c.in-Some.ensures.found c.learn.new.paths c.learn.new.cuts e.stands e.behind c.in_ok-learn.ensures.learns;
    }

-- the last turn
pub returns-in_ok-learn-clause-fills : goal.returns-in_ok-learn-clause-fills
returns-in_ok-learn-clause-fills g c =
    let inv = c.loop-turn.invariant in
    let e = c.next_missed.ensures in
    filled_never
    (filling_more inv.filling c.rows.ensures.rows c.rows-in-loop-turn.ensures.rows inv.paths_kept.capacity inv.cuts_kept.capacity
    c.in-Some.missed c.in-Some.ensures.found c.learn.new.paths c.learn.new.cuts {s' = c.next_missed.new.self} e.stands e.behind c.in_ok-learn.ensures.learns)
    (omega (arith, c.capacity.ensures, c.capacity-2.ensures)) (Err (MoreThanPlaces Paths))

pub returns-in_err-learn-clause-fills : goal.returns-in_err-learn-clause-fills
returns-in_err-learn-clause-fills g c =
    let inv = c.loop-turn.invariant in
    let f = c.in_err-learn.field-0.0 in
    let p = err_from_is_err_and c.from_residual.result c.from_residual.ensures.1 in
    let P : Result (Unit {0}) CompletionFault → Type 0 =
    Filled g.K.SetKind.mem g.K.SetKind.holds (g.D.Drawing.means c.args.from_cuts.now.drawing.now) c.args.paths.now c.args.cuts.now c.learn.new.paths c.learn.new.cuts in
    subst P (sym (p.1 ∙ ap Err p.2))
    (filled_blocked inv.filling c.rows.ensures.rows c.rows-in-loop-turn.ensures.rows inv.paths_kept.capacity inv.cuts_kept.capacity
    c.in-Some.missed c.in-Some.ensures.found c.learn.new.paths c.learn.new.cuts f c.in_err-learn.ensures.learns)
