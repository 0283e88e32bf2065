-- The rows that are left in a half, and the share of them that has an item. Assumes nothing.
--
--   is_within    the first set of items is within the second, as a test
--   is_apart     the two have no common item, as a test
--   left_paths   the paths that have no item down, where the items up in `high` are not down
--   left_cuts    the cuts that have no item up, where the items up in `low` are
--   having       how many of the rows have the item
--   share        the larger of two fractions, of the paths that have the item and of the cuts that have it, over the
--                common denominator: the number of paths times the number of cuts
--   Leads        one of the items in question, and none of them has a larger share
--   counted      the count that stands in planes of bits, bit b in plane b
--   Tallied      the planes of the rows
--   Most         the largest count of some items, and those that have it
use Rattle.std.specs.Prelude.{◌≡◌, ℕ, ◌+◌, ◌*◌, ◌≤◌, max, Bool, not, T, List, [], ◌∷◌, length, filter}
use Rattle.sets.specs.Sets.{Numbers, NoneFrom, one, within_below}

-- sets of items lie below 256
unfoldable pub is_within : Numbers → Numbers → Bool
is_within s t = within_below 256 s t

unfoldable pub is_apart : Numbers → Numbers → Bool
is_apart s t = within_below 256 s (λ k. not (t k))

unfoldable pub left_paths : List Numbers → Numbers → List Numbers
left_paths paths high = filter (λ p. is_within p high) paths

unfoldable pub left_cuts : List Numbers → Numbers → List Numbers
left_cuts cuts low = filter (λ c. is_apart c low) cuts

unfoldable pub having : List Numbers → ℕ → ℕ
having rows k = length (filter (λ r. r k) rows)

abbrev pub share : List Numbers → List Numbers → ℕ → ℕ
share paths cuts k = max (having paths k * length cuts) (having cuts k * length paths)

-- the item k is one of those in question, and none of them has a larger share
pub record Leads (paths cuts : List Numbers) (items : Numbers) (k : ℕ) : Type 0 where
  pub item : T (items k)
  pub largest : (j : ℕ) → T (items j) → share paths cuts j ≤ share paths cuts k

-- the number whose bit b says whether k is in plane b
unfoldable pub counted : {X : Type 0} → (X → Numbers) → List X → ℕ → ℕ
counted bits [] k = 0
counted bits (p ∷ ps) k = one (bits p k) + 2 * counted bits ps k

-- the planes of the rows
pub record Tallied {X : Type 0} (bits : X → Numbers) (rows : List Numbers) (planes : List X) : Type 0 where
  pub each : (k : ℕ) → counted bits planes k ≡ having rows k

-- the largest count of the items, and which of them have it
pub record Most (count : ℕ → ℕ) (items : Numbers) (most : ℕ) (leading : Numbers) : Type 0 where
  pub bound : (k : ℕ) → T (items k) → count k ≤ most
  pub have : (k : ℕ) → T (leading k) → T (items k) × (count k ≡ most)
  pub all : (k : ℕ) → T (items k) → count k ≡ most → T (leading k)
  pub some : NoneFrom leading 0 → NoneFrom items 0
