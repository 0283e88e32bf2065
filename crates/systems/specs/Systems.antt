-- Paths, cuts and structure functions, in the sense of Barlow and Proschan. Assumes nothing.
--
-- A state of n items is the set of the items that are up, all below n. A row is a set of items.
--
--   Works paths s   some path row is up: all its items are
--   Fails cuts s    some cut row is down: all its items are
--   Missed          neither happens
--   Doubled         both happen
--   SameSystem n    every state of n items has a path row up or a cut row down, never both
--   Structure       a structure function: item count, the states in which the system works, and its law
--   MinimalPath φ p with p alone up the system works, and with no proper subset alone up
--   MinimalCut φ c  with c alone down it does not work, and it works with any proper subset alone down
--   Lists rows P    the rows are just the sets with the property, each once
use Rattle.std.specs.Prelude.{◌≡◌, ℕ, ◌<◌, Bool, not, ◌&&◌, T, ◌⊎◌, List, length, nat_lt, slice_index_or}
use Rattle.sets.specs.Sets.{Numbers, nothing, Within, Apart, Same, Below}

pub record Works (paths : List Numbers) (s : Numbers) : Type 0 where
  pub row : ℕ
  pub there : row < length paths
  pub up : Within (slice_index_or paths row nothing) s

pub record Fails (cuts : List Numbers) (s : Numbers) : Type 0 where
  pub row : ℕ
  pub there : row < length cuts
  pub down : Apart (slice_index_or cuts row nothing) s

abbrev pub Missed : List Numbers → List Numbers → Numbers → Type 0
Missed paths cuts s = (Works paths s → ⊥) × (Fails cuts s → ⊥)

abbrev pub Doubled : List Numbers → List Numbers → Numbers → Type 0
Doubled paths cuts s = Works paths s × Fails cuts s

pub record SameSystem (n : ℕ) (paths cuts : List Numbers) : Type 0 where
  pub covered : (s : Numbers) → Below n s → Works paths s ⊎ Fails cuts s
  pub never_both : (s : Numbers) → Below n s → Works paths s → Fails cuts s → ⊥

-- the n items without those of s
abbrev pub others : ℕ → Numbers → Numbers
others n s k = nat_lt k n && not (s k)

-- with the same items and perhaps more up the system still works
abbrev pub Monotone : ℕ → (Numbers → Bool) → Type 0
Monotone n works = (s t : Numbers) → Below n s → Below n t → Within s t → T (works s) → T (works t)

pub record Structure : Type 0 where
  pub items : ℕ
  pub works : Numbers → Bool
  pub monotone : Monotone items works

abbrev pub ProperSubset : Numbers → Numbers → Type 0
ProperSubset q p = Within q p × (Within p q → ⊥)

pub record MinimalPath (φ : Structure) (p : Numbers) : Type 0 where
  pub items : Below φ.items p
  pub works : T (φ.works p)
  pub least : (q : Numbers) → ProperSubset q p → T (φ.works q) → ⊥

pub record MinimalCut (φ : Structure) (c : Numbers) : Type 0 where
  pub items : Below φ.items c
  pub stops : T (φ.works (others φ.items c)) → ⊥
  pub least : (q : Numbers) → ProperSubset q c → T (φ.works (others φ.items q))

-- the set stands among the rows
pub record Among (rows : List Numbers) (s : Numbers) : Type 0 where
  pub row : ℕ
  pub there : row < length rows
  pub same : Same (slice_index_or rows row nothing) s

-- each row has the property
abbrev pub EachRow : List Numbers → (Numbers → Type 0) → Type 0
EachRow rows P = (i : ℕ) → i < length rows → P (slice_index_or rows i nothing)

-- no set stands in the rows twice
abbrev pub Once : List Numbers → Type 0
Once rows = (i j : ℕ) → i < length rows → j < length rows → Same (slice_index_or rows i nothing) (slice_index_or rows j nothing) → i ≡ j

-- no row contains another
abbrev pub Antichain : List Numbers → Type 0
Antichain rows = (i j : ℕ) → i < length rows → j < length rows → Within (slice_index_or rows i nothing) (slice_index_or rows j nothing) → i ≡ j

pub record Lists (rows : List Numbers) (P : Numbers → Type 0) : Type 0 where
  pub each : EachRow rows P
  pub all : (s : Numbers) → P s → Among rows s
  pub once : Once rows
