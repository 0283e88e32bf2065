use Rattle.std.proofs.Common.{◌≡◌, List, map, get_or, sym, ap, ◌∙◌, subst, arith, rules}
use Rattle.std.proofs.lemmas.Result.{err_from_is_err_and}
use Rattle.sets.specs.Sets.{Numbers, nothing, Below}
use Rattle.systems.specs.Systems.{EachRow, Fails}
use Rattle.tables.specs.Memory.{meant}
use Rattle.tables.proofs.Histories.{past_sound}
use Rattle.duality.specs.Halves.{opened, Settled}
use Rattle.duality.specs.Verdicts.{Audited}
use Rattle.duality.specs.declared.splits.Frame.{Frame}
use Rattle.duality.proofs.Judging.{pair_zero, not_answered, doubled_alone, audited_both, audited_found, audited_at}
use Rattle.duality.proofs.auditing.audit.Goals as goal

pub returns-in_err-n : goal.returns-in_err-n
returns-in_err-n g c =
    let p = err_from_is_err_and c.from_residual.result c.from_residual.ensures.1 in
    let checks = c.in_err-n.ensures.checks in
    record {
      checks = rw (p.1, p.2) checks;
      audited = λ n ps cs past hp hc. rw p.1 (pair_zero _ _ n _ hp.items hc.items checks (not_answered _ _));
    }

-- the rows as they are read are those that the tables hold, and have items below the count
pub returns-in-Some : goal.returns-in-Some
returns-in-Some g c =
    let mem = g.K.SetKind.mem in
    let holds = g.K.SetKind.holds in
    let rs = map (meant mem) c.rows-path_rows.result.now in
    let ds = map (meant mem) c.rows-cut_rows.result.now in
    let apart = c.in-Some.ensures in
    let s = c.alone_up.result in
    record {
      checks = c.in_ok-n.ensures.checks;
      audited = λ n ps cs past hp hc.
          let e : rs ≡ ps = c.rows-path_rows.ensures.rows n ps hp in
          let small = c.args.paths.now.small in
          let count : s.count ≡ n = omega (arith, c.alone_up.ensures.count (omega (arith, c.in_ok-n.ensures.count.0)), c.in_ok-n.ensures.count.0, hp.items) in
          let low : EachRow rs (Below n) = subst (λ (l : List Numbers). EachRow l (Below n)) (sym e) (past_sound holds n _ _ ps cs past).0.items in
          let row : get_or rs apart.0.row nothing ≡ mem c.set.result.now = apart.0.means ∙ ap mem (sym c.set.ensures) in
          audited_at n rs ps ds cs _ e (c.rows-cut_rows.ensures.rows n cs hc)
          (audited_both n rs ds s count
          (doubled_alone n rs ds apart.0.row s apart.0.there count (low apart.0.row apart.0.there)
          (λ k lt. c.alone_up.ensures.marks k lt ∙ sym (ap (λ (v : Numbers). v k) row)) (subst (Fails ds) (sym apart.0.means) apart.1)));
    }

-- every cut meets every path; a search from the start finds a missed state, or there is none
pub returns : goal.returns
returns g c =
    let mem = g.K.SetKind.mem in
    let rs = map (meant mem) c.rows-path_rows.result.now in
    let ds = map (meant mem) c.rows-cut_rows.result.now in
    let m = c.in_ok-n.n in
    let small = c.args.paths.now.small in
    let stands = c.new.ensures.stands (omega (arith, c.in_ok-n.ensures.count.0)) in
    let fresh : Settled m rs ds (opened c.new.result.splits) = subst (λ (l : List Frame). Settled m rs ds l) (sym c.new.ensures.fresh) tt in
    let v : Audited m rs ds c.map_or.result =
    audited_found m rs ds c.next_missed-missed.result c.map_or.result fresh (c.next_missed-missed.ensures.found m stands) c.in_default.ensures
    (λ e. rw e at c.map_or.ensures) (λ s e. let h = rw e at c.map_or.ensures in search (rules, h)) in
    record {
      checks = c.in_ok-n.ensures.checks;
      audited = λ n ps cs past hp hc.
          audited_at n rs ps ds cs _ (c.rows-path_rows.ensures.rows n ps hp) (c.rows-cut_rows.ensures.rows n cs hc)
          (subst (λ k. Audited k rs ds c.map_or.result) (c.in_ok-n.ensures.count.0 ∙ hp.items) v);
    }
