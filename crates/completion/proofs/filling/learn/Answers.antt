-- By whether the drawing works in the missed state.
use Rattle.std.proofs.Common.{T, sym, refl, ◌∙◌, rules}
use Rattle.std.proofs.lemmas.Bool.{both_ways}
use Rattle.std.proofs.lemmas.Result.{MatchResult-weaker}
use Rattle.systems.specs.States.{up}
use Rattle.completion.proofs.Learning.{learns_path, learns_cut, flipped_works, flipped_new}
use Rattle.completion.proofs.filling.learn.Goals as goal

pub returns-then-works-clause-learns : goal.returns-then-works-clause-learns
returns-then-works-clause-learns g c n ps cs pos hp hc items missed pm cm =
    let φ = g.D.Drawing.means c.args.from_cuts.now.drawing.now in
    let p = c.add.ensures.adds n ps pos hp missed.0 (c.if-works.ensures.0 refl) missed.1.0 pm in (
      p.0,
      cs,
      p.1,
      hc,
      learns_path n c.args.paths.now.capacity c.args.cuts.now.capacity g.K.SetKind.holds φ ps cs pm cm c.map_err.result
          c.add.result (MatchResult-weaker c.add.result c.map_err.ensures.cases (λ x e. e) (λ y q. search rules)) p.0 p.2,
    )

pub returns-else-works-clause-learns : goal.returns-else-works-clause-learns
returns-else-works-clause-learns g c n ps cs pos hp hc items missed pm cm =
    let φ = g.D.Drawing.means c.args.from_cuts.now.drawing.now in
    let s = c.args.missed.now in
    let f = c.flipped in
    let fails : T (φ.works (up s)) → ⊥ = λ t. both_ways _ refl (c.if-works.ensures.1 (missed.0 ∙ sym items, t)) in
    let p = c.add-else-works.ensures.adds n cs pos hc (f.ensures.count ∙ missed.0)
    (flipped_works φ n s f.result items missed.0 f.ensures.count f.ensures.marks fails)
    (flipped_new φ n s f.result items missed.0 f.ensures.count f.ensures.marks cs cm.sound.items missed.1.1) cm in (
      ps,
      p.0,
      hp,
      p.1,
      learns_cut n c.args.paths.now.capacity c.args.cuts.now.capacity g.K.SetKind.holds φ ps cs pm cm c.map_err-else-works.result
          c.add-else-works.result (MatchResult-weaker c.add-else-works.result c.map_err-else-works.ensures.cases (λ x e. e) (λ y q. search rules)) p.0 p.2,
    )
