-- Sets of numbers. Assumes nothing.
--
--   Numbers   a set of numbers, as the test of its members
--   Within    each member of the first is a member of the second
--   Apart     no number is a member of both
--   Same      the same members
--   Below n   each member is below n
--   count s n how many members of s are below n
--   listed xs the set of the numbers in a list
--   within_below n s t  whether each member of s below n is a member of t
use Rattle.std.specs.Prelude.{◌≡◌, ℕ, zero, suc, ◌+◌, ◌<◌, ◌≤◌, Bool, true, false, not, ◌&&◌, ◌||◌, T, List, [], ◌∷◌, ◌==◌}

abbrev pub Numbers : Type 0
Numbers = ℕ → Bool

abbrev pub nothing : Numbers
nothing k = false

abbrev pub with : Numbers → ℕ → Numbers
with s k j = j == k || s j

abbrev pub without : Numbers → ℕ → Numbers
without s k j = not (j == k) && s j

abbrev pub Within : Numbers → Numbers → Type 0
Within s t = (k : ℕ) → T (s k) → T (t k)

abbrev pub Apart : Numbers → Numbers → Type 0
Apart s t = (k : ℕ) → T (s k) → T (t k) → ⊥

abbrev pub Same : Numbers → Numbers → Type 0
Same s t = (k : ℕ) → s k ≡ t k

abbrev pub Below : ℕ → Numbers → Type 0
Below n s = (k : ℕ) → T (s k) → k < n

-- 1 for a member, 0 for any other number
abbrev pub one : Bool → ℕ
one true = 1
one false = 0

unfoldable pub count : Numbers → ℕ → ℕ
count s zero = 0
count s (suc n) = one (s n) + count s n

abbrev pub listed : List ℕ → Numbers
listed [] = nothing
listed (x ∷ xs) = with (listed xs) x

abbrev pub within_below : ℕ → Numbers → Numbers → Bool
within_below zero s t = true
within_below (suc k) s t = (not (s k) || t k) && within_below k s t

-- m is the lowest member of s at or above k
pub record Lowest (s : Numbers) (k m : ℕ) : Type 0 where
  pub member : T (s m)
  pub above : k ≤ m
  pub first : (j : ℕ) → k ≤ j → j < m → T (s j) → ⊥

-- s has no member at or above k
abbrev pub NoneFrom : Numbers → ℕ → Type 0
NoneFrom s k = (j : ℕ) → k ≤ j → T (s j) → ⊥
