-- Rising lists of numbers below 256, with one number more or one less, and what the list kind can hold. Assumes nothing.
use Rattle.std.specs.Prelude.{ℕ, suc, ◌≤◌, Bool, true, cond, not, ◌&&◌, List, [], ◌∷◌, filter, ◌==◌, nat_le, nat_lt}
use Rattle.sets.specs.Sets.{Numbers, Below, count}

-- the list rises strictly, from lo on, and stays below 256
abbrev pub rising : ℕ → List ℕ → Bool
rising lo [] = true
rising lo (x ∷ xs) = nat_le lo x && (nat_lt x 256 && rising (suc x) xs)

-- a rising list with k at its place
abbrev pub put : ℕ → List ℕ → List ℕ
put k [] = k ∷ []
put k (x ∷ xs) = cond (nat_lt k x) (k ∷ put x xs) (x ∷ put k xs)

abbrev pub differs : ℕ → ℕ → Bool
differs k x = not (x == k)

-- the list without k
abbrev pub cut : ℕ → List ℕ → List ℕ
cut k xs = filter (differs k) xs

-- what the list kind can hold: at most 16 numbers, all below 256
abbrev pub Sixteen : Numbers → Type 0
Sixteen s = Below 256 s × (count s 256 ≤ 16)
