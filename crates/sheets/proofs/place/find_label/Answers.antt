use Rattle.std.proofs.Common.{rules, tests, ◌≡◌}
use Rattle.std.proofs.lemmas.Iterator.{IsFirst-from_position, YieldsList-from_slice}
use Rattle.sheets.specs.Labels.{named}
use Rattle.sheets.proofs.Naming.{first_named}
use Rattle.sheets.proofs.place.find_label.Goals as goal

pub returns : goal.returns
returns c =
    let name = named c.args.text.now in
    let l = c.args.label.now in
    first_named name l c.args.places.now _
    (IsFirst-from_position _ _ _ (λ x. name x ≡ l) (λ x. name x ≡ l → ⊥) c.position.ensures.ran (YieldsList-from_slice c.args.places.now c.iter.ensures.rest) (λ x q k. search (rules, tests)) (λ x q k. search (rules, tests)))
