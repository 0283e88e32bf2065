-- What the test of `within_below` tells.
use Rattle.std.proofs.Common.{◌≡◌, ℕ, Bool, true, false, not, ◌||◌, T, Decides, refl}
use mathlib.Core.Path.{fun_ext}
use Rattle.std.proofs.lemmas.Bool.{false≢true}
use Rattle.std.proofs.lemmas.Bool.Decides.{Decides-below_and, Decides-like, same_from_decides}
use Rattle.sets.specs.Sets.{Numbers, Within, Below, within_below}

decides_then : (a b : Bool) → Decides (not a || b) (T a → T b)
decides_then true true = (λ _ _. tt, λ _. refl)
decides_then true false = (λ e. absurd (false≢true e), λ h. absurd (h tt))
decides_then false true = (λ _ h. absurd h, λ _. refl)
decides_then false false = (λ _ h. absurd h, λ _. refl)

-- with nothing at or above n in the first, the test decides
pub decides_within : (n : ℕ) (s t : Numbers) → Below n s → Decides (within_below n s t) (Within s t)
decides_within n s t low =
    Decides-like (within_below n s t) (λ h k m. h k (low k m) m) (λ h k _ m. h k m)
    (Decides-below_and (λ k. not (s k) || t k) (λ k. T (s k) → T (t k)) (λ m. within_below m s t) (λ k. decides_then (s k) (t k)) refl (λ _. refl) n)

-- so any such bound gives one test
pub within_same : (n m : ℕ) (s : Numbers) → Below n s → Below m s → within_below n s ≡ within_below m s
within_same n m s a b =
    fun_ext (λ t. same_from_decides (within_below n s t) (within_below m s t) (decides_within n s t a) (decides_within m s t b))
