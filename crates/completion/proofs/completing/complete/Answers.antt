use Rattle.std.proofs.Common.{◌≡◌, ℕ, ◌≤◌, sym, ◌∙◌, subst, arith, rules}
use Rattle.std.proofs.lemmas.Result.{err_from_is_err_and}
use Rattle.tables.specs.Refusals.{refused}
use Rattle.tables.proofs.Histories.{past_sound}
use Rattle.duality.specs.declared.fault.PairFault.TheVariants.{CountsDiffer}
use Rattle.completion.specs.declared.fault.CompletionFault.TheVariants.{Pair}
use Rattle.completion.specs.Completions.{Completed}
use Rattle.systems.specs.Duals.{dual}
use Rattle.completion.specs.Minimals.{Minimals}
use Rattle.completion.specs.Fills.{Fills}
use Rattle.completion.proofs.Counting.{counts_refused, counts_pass, counts_other, counts_same, one_count, only_untouched}
use Rattle.completion.proofs.Endings.{closed_completed, differs_completed, path_unborne_completed, cut_unborne_completed, first_not_cut, borne_cuts, completed_from}
use Rattle.completion.proofs.completing.complete.Goals as goal

pub returns-in_err-n-clause-counts : goal.returns-in_err-n-clause-counts
returns-in_err-n-clause-counts g c =
    let p = err_from_is_err_and c.from_residual.result c.from_residual.ensures.1 in
    rw (p.1, p.2) (counts_refused _ _ _ _ _ c.in_err-n.ensures.checks)

pub returns-in_err-n-clause-completes : goal.returns-in_err-n-clause-completes
returns-in_err-n-clause-completes g c n ps cs past hp hc =
    let p = err_from_is_err_and c.from_residual.result c.from_residual.ensures.1 in
    let φ = g.D.Drawing.means c.args.drawing.now in (
      ps,
      cs,
      hp,
      hc,
      rw (p.1, p.2)
          (one_count _ _ n _ _ (λ number values. Completed n c.args.paths.now.capacity c.args.cuts.now.capacity g.K.SetKind.holds φ ps cs (refused number values) ps cs)
          hp.items hc.items c.in_err-n.ensures.checks (closed_completed n _ _ _ φ ps cs past)),
    )

pub returns-then-m-n-clause-counts : goal.returns-then-m-n-clause-counts
returns-then-m-n-clause-counts g c =
    let pass = c.in_ok-n.ensures in
    let e : c.into.result ≡ Pair (CountsDiffer c.in_ok-n.n c.item_count-m.result) = search rules in
    rw e (counts_other _ _ _ _ _ pass.checks pass.count.0 c.item_count-m.ensures c.if-m-n.true)

pub returns-then-m-n-clause-completes : goal.returns-then-m-n-clause-completes
returns-then-m-n-clause-completes g c n ps cs past hp hc =
    let e : c.into.result ≡ Pair (CountsDiffer c.in_ok-n.n c.item_count-m.result) = search rules in
    let same : c.in_ok-n.n ≡ n = c.in_ok-n.ensures.count.0 ∙ hp.items in (
      ps,
      cs,
      hp,
      hc,
      rw (e, same, c.item_count-m.ensures)
          (differs_completed n _ _ _ (g.D.Drawing.means c.args.drawing.now) ps cs past (λ e. c.if-m-n.true (c.item_count-m.ensures ∙ e ∙ sym same))),
    )

pub returns-in-Some-clause-counts : goal.returns-in-Some-clause-counts
returns-in-Some-clause-counts g c =
    let pass = c.in_ok-n.ensures in
    counts_same _ _ _ _ _ _ pass.checks pass.count.0 c.item_count-m.ensures c.if-m-n.false

pub returns-in-Some-clause-completes : goal.returns-in-Some-clause-completes
returns-in-Some-clause-completes g c n ps cs past hp hc =
    let φ = g.D.Drawing.means c.args.drawing.now in
    let e : φ.items ≡ n = sym c.item_count-m.ensures ∙ c.if-m-n.false ∙ c.in_ok-n.ensures.count.0 ∙ hp.items in
    let sound = past_sound _ n _ _ ps cs past in
    (ps, cs, hp, hc, path_unborne_completed n _ _ _ φ ps cs past e c.in-Some.row (c.in-Some.ensures n ps hp sound.0 e))

pub returns-in-Some-first_unborne-clause-counts : goal.returns-in-Some-first_unborne-clause-counts
returns-in-Some-first_unborne-clause-counts g c =
    let pass = c.in_ok-n.ensures in
    counts_same _ _ _ _ _ _ pass.checks pass.count.0 c.item_count-m.ensures c.if-m-n.false

pub returns-in-Some-first_unborne-clause-completes : goal.returns-in-Some-first_unborne-clause-completes
returns-in-Some-first_unborne-clause-completes g c n ps cs past hp hc =
    let φ = g.D.Drawing.means c.args.drawing.now in
    let e : φ.items ≡ n = sym c.item_count-m.ensures ∙ c.if-m-n.false ∙ c.in_ok-n.ensures.count.0 ∙ hp.items in
    let sound = past_sound _ n _ _ ps cs past in (
      ps,
      cs,
      hp,
      hc,
      cut_unborne_completed n _ _ _ φ ps cs past e c.in-Some-first_unborne.row (c.in_default.ensures n ps hp sound.0 e)
          (first_not_cut φ cs _ (c.in-Some-first_unborne.ensures n cs hc sound.1 e)),
    )

pub returns-clause-counts : goal.returns-clause-counts
returns-clause-counts g c =
    let pass = c.in_ok-n.ensures in
    counts_same _ _ _ _ _ _ pass.checks pass.count.0 c.item_count-m.ensures c.if-m-n.false

pub returns-clause-untouched : goal.returns-clause-untouched
returns-clause-untouched g c = only_untouched c.fill.result _ c.fill.ensures.only

pub returns-clause-completes : goal.returns-clause-completes
returns-clause-completes g c n ps cs past hp hc =
    let φ = g.D.Drawing.means c.args.drawing.now in
    let pass = c.in_ok-n.ensures in
    let e : φ.items ≡ n = sym c.item_count-m.ensures ∙ c.if-m-n.false ∙ pass.count.0 ∙ hp.items in
    let holds = g.K.SetKind.holds in
    let a = c.args.paths.now.capacity in
    let b = c.args.cuts.now.capacity in
    let pos : 1 ≤ n = omega (arith, (counts_pass _ _ pass.checks).0, hp.items) in
    let sound = past_sound holds n a b ps cs past in
    let pb = c.in_default.ensures n ps hp sound.0 e in
    let cb = c.in_default-first_unborne.ensures n cs hc sound.1 e in
    let p = c.tighten.ensures.tightens n ps pos hp sound.0 e pb in
    let d = c.tighten-2.ensures.tightens n cs pos hc sound.1 e cb in
    let pe = c.tighten.ensures.kept.capacity in
    let de = c.tighten-2.ensures.kept.capacity in
    let f = c.fill.ensures.fills n p.0 d.0 pos p.1 d.1 e
    (subst (λ (k : ℕ). Minimals n k holds φ p.0) (sym pe) p.2.minimals)
    (subst (λ (k : ℕ). Minimals n k holds (dual φ) d.0) (sym de) d.2.minimals) in
    let fills : Fills n a b holds φ p.0 d.0 c.fill.result f.0 f.1 =
    subst (λ (k : ℕ). Fills n k b holds φ p.0 d.0 c.fill.result f.0 f.1) pe
    (subst (λ (k : ℕ). Fills n c.tighten.new.table.capacity k holds φ p.0 d.0 c.fill.result f.0 f.1) de f.4) in
    (f.0, f.1, f.2, f.3, completed_from n a b holds φ ps cs past e pb (borne_cuts φ cs cb) p.0 d.0 p.2 d.2 f.0 f.1 c.fill.result fills)
