use Rattle.std.proofs.Common.{◌≡◌, ◌++◌, Bor, map, ap₂, ◌∙◌, subst, rules}
use Rattle.std.specs.Prelude.{List, MatchOption}
use Rattle.std.proofs.lemmas.Iterator.{YieldsList-from_slice, first_from_find}
use Rattle.std.proofs.lemmas.List.{take-append-drop}
use borrow.Author.Tests.{tests}
use Rattle.systems.specs.Systems.{Fails, EachRow}
use Rattle.tables.specs.Memory.{meant}
use Rattle.duality.specs.RowsOf.{IsRow}
use Rattle.duality.proofs.RowFacts.{found_row}
use Rattle.duality.proofs.Blocking.{ahead_all, ahead_more, ahead_few, ahead_found}
use Rattle.duality.proofs.auditing.first_apart.Goals as goal

pub returns-in-Some : goal.returns-in-Some
returns-in-Some g c =
    let f = meant g.K.SetKind.mem in
    let P = Fails (map f c.args.cuts.now) in
    let few = c.split_at.result.0.now in
    let others = c.split_at.result.1.now in
    let all : few ++ others ≡ c.args.paths.now = ap₂ (λ a b. a ++ b) c.split_at.ensures.front c.split_at.ensures.back ∙ take-append-drop c.min.result c.args.paths.now in
    let m = found_row f (λ (y : Bor _). y.now) few P c.find.result
    (first_from_find _ _ _ (λ x. P (f x)) (λ x. P (f x) → ⊥) c.find.ensures.ran (YieldsList-from_slice few cc)
    (λ x q k. search (rules, tests)) (λ x q k. search (rules, tests))) in
    let r = rw c.in-Some.is at m in
    subst (λ (l : List _). IsRow f l c.in-Some.path.now × P (f c.in-Some.path.now)) all
    (ahead_few f P (λ (y : Bor _). y.now) (few ++ others) few others c.in-Some.path r (ahead_all f P (few ++ others)))

pub returns : goal.returns
returns g c =
    let f = meant g.K.SetKind.mem in
    let P = Fails (map f c.args.cuts.now) in
    let few = c.split_at.result.0.now in
    let others = c.split_at.result.1.now in
    let all : few ++ others ≡ c.args.paths.now = ap₂ (λ a b. a ++ b) c.split_at.ensures.front c.split_at.ensures.back ∙ take-append-drop c.min.result c.args.paths.now in
    let m = found_row f (λ (y : Bor _). y.now) few P c.find.result
    (first_from_find _ _ _ (λ x. P (f x)) (λ x. P (f x) → ⊥) c.find.ensures.ran (YieldsList-from_slice few cc)
    (λ x q k. search (rules, tests)) (λ x q k. search (rules, tests))) in
    let none = rw c.in_default.is at m in
    subst (λ (l : List _). MatchOption c.first_of_many.result (EachRow (map f l) (λ p. P p → ⊥)) (λ path. IsRow f l path.now × P (f path.now))) all
    (ahead_found f P (λ (y : Bor _). y.now) (few ++ others) others c.first_of_many.result (ahead_more f P (few ++ others) few others none (ahead_all f P (few ++ others))) c.first_of_many.ensures)
