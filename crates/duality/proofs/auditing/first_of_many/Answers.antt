use Rattle.std.proofs.Common.{◌≡◌, ◌++◌, Bor, map, sym, ap₂, ◌∙◌, subst, arith}
use Rattle.std.specs.Prelude.{List}
use Rattle.std.proofs.lemmas.List.{take-append-drop}
use Rattle.systems.specs.Systems.{Fails}
use Rattle.tables.specs.Memory.{meant}
use Rattle.duality.proofs.Blocking.{Ahead, ahead_more, ahead_few}
use Rattle.duality.proofs.auditing.first_of_many.Goals as goal

pub returns-in-Some : goal.returns-in-Some
returns-in-Some g c =
    let f = meant g.K.SetKind.mem in
    let P = Fails (map f c.args.cuts.now) in
    let some = c.split_at.result.0.now in
    let others = c.split_at.result.1.now in
    let all : some ++ others ≡ c.turns.rest.now = ap₂ (λ a b. a ++ b) c.split_at.ensures.front c.split_at.ensures.back ∙ take-append-drop c.min.result c.turns.rest.now in
    let found = rw c.in-Some.is at c.first_in_blocks.ensures in
    ahead_few f P (λ (y : Bor _). y.now) c.args.paths.now some others c.in-Some.path found (subst (λ (l : List _). Ahead f c.args.paths.now l P) (sym all) c.turns.invariant.ahead)

pub turns-preserved : goal.turns-preserved
turns-preserved g c =
    let f = meant g.K.SetKind.mem in
    let P = Fails (map f c.args.cuts.now) in
    let some = c.split_at.result.0.now in
    let others = c.split_at.result.1.now in
    let all : some ++ others ≡ c.turns.rest.now = ap₂ (λ a b. a ++ b) c.split_at.ensures.front c.split_at.ensures.back ∙ take-append-drop c.min.result c.turns.rest.now in
    let none = rw c.in_default.is at c.first_in_blocks.ensures in
    record {
      some = omega (arith, c.turns.invariant.some, c.saturating_mul-at_once.ensures);
      ahead = ahead_more f P c.args.paths.now some others none (subst (λ (l : List _). Ahead f c.args.paths.now l P) (sym all) c.turns.invariant.ahead);
    }
