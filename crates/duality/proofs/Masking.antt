-- Masks of sets that lie below their room.
use mathlib.Core.Path.{fun_ext}
use Rattle.std.proofs.Common.{◌≡◌, ℕ, ◌<◌, ◌≤◌, sym, ◌∙◌, ⊎_elim, arith}
use Rattle.std.proofs.lemmas.Bool.{cases_lt}
use Rattle.sets.specs.Sets.{Numbers, Below}
use Rattle.sets.specs.Truth.{fails_false}

-- a mask that has what a set has below its room is that set, where the set lies below it
pub mask_is : (most : ℕ) (m s : Numbers) → ((k : ℕ) → k < most → m k ≡ s k) → Below most m → Below most s → m ≡ s
mask_is most m s same low below =
    fun_ext
    (λ k.
    ⊎_elim
    (λ (lt : k < most). same k lt)
    (λ (ge : most ≤ k). fails_false (m k) (λ t. let l = low k t in omega arith) ∙ sym (fails_false (s k) (λ t. let l = below k t in omega arith)))
    (cases_lt k most))
