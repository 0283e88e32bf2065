-- By the call, and by whether it is refused.
use Rattle.std.proofs.Common.{◌≡◌, ℕ, ◌<◌, ◌≤◌, List, map, length, get_or, None, Some, Option, Err, sym, ap, ◌∙◌, Bor}
use Rattle.std.specs.Option.{ok_or}
use Rattle.std.specs.Slice.{IsItemAt}
use Rattle.std.proofs.lemmas.List.{get_or-map, length-map}
use Rattle.std.proofs.lemmas.Result.{err_from_is_err_and}
use Rattle.systems.specs.Systems.{Structure}
use Rattle.tables.proofs.Histories.{calls_go_on}
use Rattle.completion.specs.Runs.{path_put, path_refused, cut_put, cut_refused, path_struck, path_kept, cut_struck, cut_kept, audited, not_audited, completed, not_completed, no_drawing, no_structure}
use Rattle.completion.specs.declared.refused.Refused.{Refused}
use Rattle.completion.specs.declared.refused.Refused.TheVariants.{NoDrawing}
use Rattle.completion.proofs.running.step.Goals as goal

-- the drawing that is looked up, as it is meant
module _ {X : Type 0} (means : X → Structure) (xs : List X) (i : ℕ) where
  is_there : (r : Option (Bor X)) (x : Bor X) → IsItemAt xs i r → r ≡ Some x → i < length (map means xs)
  is_there None x at e = cc
  is_there (Some y) x at e = simp length-map at.3.0

  is_meant : (r : Option (Bor X)) (x : Bor X) → IsItemAt xs i r → r ≡ Some x → means x.now ≡ get_or (map means xs) i no_structure
  is_meant None x at e = cc
  is_meant (Some y) x at e = ap means (cc (at.1)) ∙ sym (get_or-map means xs i y.now no_structure at.3.0)

  is_absent : (r : Option (Bor X)) (e : Refused) → IsItemAt xs i r → Err e ≡ ok_or r (NoDrawing i) → (length (map means xs) ≤ i) × (e ≡ NoDrawing i)
  is_absent None e at is = (simp length-map at.3, cc)
  is_absent (Some y) e at is = cc

pub returns-in_err-put-in-PutPath-clause-steps : goal.returns-in_err-put-in-PutPath-clause-steps
returns-in_err-put-in-PutPath-clause-steps g c n ps cs past hp hc =
    let e = err_from_is_err_and c.from_residual.result c.from_residual.ensures.1 in
    let p = c.in_err-put-in-PutPath.ensures.puts n ps hp in
    let on = calls_go_on g.K.SetKind.holds g.met.K.SetKind.none in
    (p.0, cs, p.2, hc, on.path_puts n _ _ ps cs p.0 _ _ past p.1, rw (e.1, e.2, c.in-PutPath.is) (path_refused c.in-PutPath.items _ p.1))

pub returns-in_ok-put-in-PutPath-clause-steps : goal.returns-in_ok-put-in-PutPath-clause-steps
returns-in_ok-put-in-PutPath-clause-steps g c n ps cs past hp hc =
    let p = c.in_ok-put-in-PutPath.ensures.puts n ps hp in
    let on = calls_go_on g.K.SetKind.holds g.met.K.SetKind.none in
    (p.0, cs, p.2, hc, on.path_puts n _ _ ps cs p.0 _ _ past p.1, rw c.in-PutPath.is (path_put c.in-PutPath.items _ p.1))

pub returns-in_err-put-in-PutCut-clause-steps : goal.returns-in_err-put-in-PutCut-clause-steps
returns-in_err-put-in-PutCut-clause-steps g c n ps cs past hp hc =
    let e = err_from_is_err_and c.from_residual-in_err-put-in-PutCut.result c.from_residual-in_err-put-in-PutCut.ensures.1 in
    let d = c.in_err-put-in-PutCut.ensures.puts n cs hc in
    let on = calls_go_on g.K.SetKind.holds g.met.K.SetKind.none in
    (ps, d.0, hp, d.2, on.cut_puts n _ _ ps cs d.0 _ _ past d.1, rw (e.1, e.2, c.in-PutCut.is) (cut_refused c.in-PutCut.items _ d.1))

pub returns-in_ok-put-in-PutCut-clause-steps : goal.returns-in_ok-put-in-PutCut-clause-steps
returns-in_ok-put-in-PutCut-clause-steps g c n ps cs past hp hc =
    let d = c.in_ok-put-in-PutCut.ensures.puts n cs hc in
    let on = calls_go_on g.K.SetKind.holds g.met.K.SetKind.none in
    (ps, d.0, hp, d.2, on.cut_puts n _ _ ps cs d.0 _ _ past d.1, rw c.in-PutCut.is (cut_put c.in-PutCut.items _ d.1))

pub returns-in_err-strike-in-StrikePath-clause-steps : goal.returns-in_err-strike-in-StrikePath-clause-steps
returns-in_err-strike-in-StrikePath-clause-steps g c n ps cs past hp hc =
    let e = err_from_is_err_and c.from_residual-in_err-strike-in-StrikePath.result c.from_residual-in_err-strike-in-StrikePath.ensures.1 in
    let p = c.in_err-strike-in-StrikePath.ensures.strikes n ps hp in
    let on = calls_go_on g.K.SetKind.holds g.met.K.SetKind.none in
    (p.0, cs, p.2, hc, on.path_strikes n _ _ ps cs p.0 _ _ past p.1, rw (e.1, e.2, c.in-StrikePath.is) (path_kept c.in-StrikePath.row _ p.1))

pub returns-in_ok-strike-in-StrikePath-clause-steps : goal.returns-in_ok-strike-in-StrikePath-clause-steps
returns-in_ok-strike-in-StrikePath-clause-steps g c n ps cs past hp hc =
    let p = c.in_ok-strike-in-StrikePath.ensures.strikes n ps hp in
    let on = calls_go_on g.K.SetKind.holds g.met.K.SetKind.none in
    (p.0, cs, p.2, hc, on.path_strikes n _ _ ps cs p.0 _ _ past p.1, rw c.in-StrikePath.is (path_struck c.in-StrikePath.row p.1))

pub returns-in_err-strike-in-StrikeCut-clause-steps : goal.returns-in_err-strike-in-StrikeCut-clause-steps
returns-in_err-strike-in-StrikeCut-clause-steps g c n ps cs past hp hc =
    let e = err_from_is_err_and c.from_residual-in_err-strike-in-StrikeCut.result c.from_residual-in_err-strike-in-StrikeCut.ensures.1 in
    let d = c.in_err-strike-in-StrikeCut.ensures.strikes n cs hc in
    let on = calls_go_on g.K.SetKind.holds g.met.K.SetKind.none in
    (ps, d.0, hp, d.2, on.cut_strikes n _ _ ps cs d.0 _ _ past d.1, rw (e.1, e.2, c.in-StrikeCut.is) (cut_kept c.in-StrikeCut.row _ d.1))

pub returns-in_ok-strike-in-StrikeCut-clause-steps : goal.returns-in_ok-strike-in-StrikeCut-clause-steps
returns-in_ok-strike-in-StrikeCut-clause-steps g c n ps cs past hp hc =
    let d = c.in_ok-strike-in-StrikeCut.ensures.strikes n cs hc in
    let on = calls_go_on g.K.SetKind.holds g.met.K.SetKind.none in
    (ps, d.0, hp, d.2, on.cut_strikes n _ _ ps cs d.0 _ _ past d.1, rw c.in-StrikeCut.is (cut_struck c.in-StrikeCut.row d.1))

pub returns-in_err-audit-in-Audit-clause-steps : goal.returns-in_err-audit-in-Audit-clause-steps
returns-in_err-audit-in-Audit-clause-steps g c n ps cs past hp hc =
    let e = err_from_is_err_and c.from_residual-in_err-audit-in-Audit.result c.from_residual-in_err-audit-in-Audit.ensures.1 in
    let checks = rw (hp.items, hc.items) at c.in_err-audit-in-Audit.ensures.checks in
    (ps, cs, hp, hc, past, rw (e.1, e.2, c.in-Audit.is) (not_audited _ checks))

pub returns-in_ok-audit-in-Audit-clause-steps : goal.returns-in_ok-audit-in-Audit-clause-steps
returns-in_ok-audit-in-Audit-clause-steps g c n ps cs past hp hc = (ps, cs, hp, hc, past, rw c.in-Audit.is (audited _ (c.in_ok-audit-in-Audit.ensures.audited n ps cs past hp hc)))

pub returns-in_err-drawing-in-Complete-clause-steps : goal.returns-in_err-drawing-in-Complete-clause-steps
returns-in_err-drawing-in-Complete-clause-steps g c n ps cs past hp hc =
    let e = err_from_is_err_and c.from_residual-in_err-drawing-in-Complete.result c.from_residual-in_err-drawing-in-Complete.ensures.1 in
    let none = is_absent g.D.Drawing.means c.args.drawings.now c.in-Complete.number c.get.result _ c.get.ensures.lookup c.in_err-drawing-in-Complete.ensures.value in
    (ps, cs, hp, hc, past, rw (e.1, e.2, none.1, c.in-Complete.is) (no_drawing c.in-Complete.number none.0))

pub returns-in_err-complete-in-Complete-clause-steps : goal.returns-in_err-complete-in-Complete-clause-steps
returns-in_err-complete-in-Complete-clause-steps g c n ps cs past hp hc =
    let e = err_from_is_err_and c.from_residual-in_err-complete-in-Complete.result c.from_residual-in_err-complete-in-Complete.ensures.1 in
    let h = c.in_err-complete-in-Complete.ensures.completes n ps cs past hp hc in
    let found = c.in_ok-drawing-in-Complete.ensures.ok_part in
    let made = rw (is_meant g.D.Drawing.means c.args.drawings.now c.in-Complete.number c.get.result c.in_ok-drawing-in-Complete.drawing c.get.ensures.lookup found) at h.4 in
    (h.0, h.1, h.2, h.3, h.4.past, rw (e.1, e.2, c.in-Complete.is) (not_completed c.in-Complete.number _ (is_there _ _ _ _ _ c.get.ensures.lookup found) made))

pub returns-in_ok-complete-in-Complete-clause-steps : goal.returns-in_ok-complete-in-Complete-clause-steps
returns-in_ok-complete-in-Complete-clause-steps g c n ps cs past hp hc =
    let h = c.in_ok-complete-in-Complete.ensures.completes n ps cs past hp hc in
    let found = c.in_ok-drawing-in-Complete.ensures.ok_part in
    let made = rw (is_meant g.D.Drawing.means c.args.drawings.now c.in-Complete.number c.get.result c.in_ok-drawing-in-Complete.drawing c.get.ensures.lookup found) at h.4 in
    (h.0, h.1, h.2, h.3, h.4.past, rw c.in-Complete.is (completed c.in-Complete.number (is_there _ _ _ _ _ c.get.ensures.lookup found) made))
