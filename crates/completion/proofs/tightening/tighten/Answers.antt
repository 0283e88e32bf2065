-- Each turn looks at the row at `at`: it is minimal, or it is replaced.
use Rattle.std.proofs.Common.{◌≡◌, ℕ, ◌≤◌, get_or, sym, ◌∙◌, subst, arith}
use Rattle.sets.specs.Sets.{nothing}
use Rattle.systems.specs.States.{up}
use Rattle.systems.specs.Systems.{ProperSubset, MinimalPath}
use Rattle.completion.specs.Offers.{Replaced}
use Rattle.tables.proofs.Keeping.{kept_same, kept_trans}
use Rattle.completion.proofs.Replied.{row_shown, row_refused}
use Rattle.completion.proofs.Tightenings.{Tightening, tight_none, tight_all, opening, tight_next, tight_replaced}
use Rattle.completion.proofs.tightening.tighten.Goals as goal

pub loop-at-init : goal.loop-at-init
loop-at-init g c = record {
  kept = kept_same;
  few = omega (arith, c.row_count-end.ensures.count, c.args.table.now.few, c.args.table.now.fits);
  tight = λ n ps pos h sound e borne. (ps, h, rw (c.row_count-end.ensures.rows n ps h) (tight_none n _ _ _ ps sound borne));
}

-- a row at `at` is there
pub returns-in_default-clause-tightens : goal.returns-in_default-clause-tightens
returns-in_default-clause-tightens g c n ps pos h sound e borne =
    let i = c.loop-at.invariant.tight n ps pos h sound e borne in
    let o = opening n _ _ _ ps i.0 c.loop-at.at c.loop-at.end i.2 c.loop-at-test.true in
    absurd (omega (arith, o.there, row_refused n i.0 c.loop-at.at _ _ pos (c.in_default.ensures n i.0 i.1)))

pub loop-at-preserved-in-Some : goal.loop-at-preserved-in-Some
loop-at-preserved-in-Some g c =
    let inv = c.loop-at.invariant in
    let ψ = g.D.Drawing.means c.args.drawing.now in
    let holds = g.K.SetKind.holds in
    let before = c.args.table.now in
    let at = c.loop-at.at in
    let v = g.K.SetKind.mem c.in-Ok.set.now in
    let least = c.in-Some.least in
    record {
      kept = kept_trans inv.kept c.replace.ensures.kept;
      few = omega (arith, inv.few, c.saturating_sub-end.ensures);
      tight = λ n ps pos h sound e borne.
          let i = inv.tight n ps pos h sound e borne in
          let shown = row_shown n i.0 at v (c.in-Ok.ensures n i.0 i.1) in
          let same : ψ.items ≡ c.item_count-n.result = e ∙ sym h.items ∙ sym c.item_count-n.ensures in
          let few : ψ.items ≤ 256 = omega (arith, h.items, e, before.small) in
          let s = c.in-Some.ensures same few (rw (e, shown.1) (i.2.sound.items at shown.0)) (rw shown.1 (i.2.borne at shown.0)) in
          let less : ProperSubset (up least) (get_or i.0 at nothing) = subst (ProperSubset (up least)) shown.1 s.less in
          let q = c.replace.ensures.replaces n i.0 pos i.1 (rw inv.kept.capacity i.2.sound) (s.count ∙ e) shown.0 less in (
            q.0,
            q.1,
            subst (λ (k : ℕ). Tightening n before.capacity holds ψ ps q.0 at k) (sym c.saturating_sub-end.ensures)
                (tight_replaced n before.capacity holds ψ ps i.0 at c.loop-at.end i.2 (opening n _ _ _ ps i.0 at c.loop-at.end i.2 c.loop-at-test.true)
                (up least) s.least less c.replace.result q.0 (subst (λ k. Replaced n k holds i.0 at (up least) c.replace.result q.0) inv.kept.capacity q.2)),
          );
    }

pub loop-at-preserved : goal.loop-at-preserved
loop-at-preserved g c =
    let inv = c.loop-at.invariant in
    let ψ = g.D.Drawing.means c.args.drawing.now in
    let at = c.loop-at.at in
    let v = g.K.SetKind.mem c.in-Ok.set.now in
    record {
      kept = inv.kept;
      few = inv.few;
      tight = λ n ps pos h sound e borne.
          let i = inv.tight n ps pos h sound e borne in
          let shown = row_shown n i.0 at v (c.in-Ok.ensures n i.0 i.1) in
          let same : ψ.items ≡ c.item_count-n.result = e ∙ sym h.items ∙ sym c.item_count-n.ensures in
          let few : ψ.items ≤ 256 = omega (arith, h.items, e, c.args.table.now.small) in
          let m = c.in_default-smaller.ensures same few (rw (e, shown.1) (i.2.sound.items at shown.0)) (rw shown.1 (i.2.borne at shown.0)) in
          (i.0, i.1, tight_next n _ _ ψ ps i.0 at c.loop-at.end i.2 (opening n _ _ _ ps i.0 at c.loop-at.end i.2 c.loop-at-test.true) (subst (MinimalPath ψ) shown.1 m));
    }

pub returns-clause-tightens : goal.returns-clause-tightens
returns-clause-tightens g c n ps pos h sound e borne =
    let i = c.loop-at.invariant.tight n ps pos h sound e borne in
    (i.0, i.1, tight_all n _ _ _ ps i.0 c.loop-at.at c.loop-at.end i.2 c.loop-at-test.false)
