-- The value of `then_some`, where the test decides a fact.
use Rattle.std.proofs.Common.{Bool, true, false, Option, MatchOption, Decides, refl, ◌≡◌}
use Rattle.std.specs.Bool.{then_some}
use Rattle.std.proofs.lemmas.Bool.Decides.{not_from_Decides}

pub match_then_some : {X P No : Type 0} (Yes : X → Type 0) (b : Bool) (x : X) (r : Option X) → r ≡ then_some b x → Decides b P → (P → Yes x) → ((P → ⊥) → No) → MatchOption r No Yes
match_then_some Yes true x r e d good bad = rw e (good (d.0 refl))
match_then_some Yes false x r e d good bad = rw e (bad (not_from_Decides false d refl))
