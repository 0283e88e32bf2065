-- The rows of a table that may be left in the half of each open split. Assumes nothing.
--
--   left_path   whether a path may be up in a state of the half: its items lie in the greatest
--   left_cut    whether a cut may be down in one: it has no item of the least
--   KeptFor     for each open split, those that may be left before it stand in the first places, as many as its count says
--   Aside       so they do, and in the half itself they are the first c
--   AsideOf     the same of the rows that stand in a `Left`
use Rattle.std.specs.Prelude.{ℕ, ◌≤◌, Bool, List, [], ◌∷◌, length, slice_index_or}
use Rattle.sets.specs.Sets.{Numbers}
use Rattle.duality.specs.Halves.{least, greatest}
use Rattle.duality.specs.Shares.{is_within, is_apart}
use Rattle.duality.specs.Remaining.{Alike, standing}
use Rattle.duality.specs.declared.splits.Frame.{Frame}
use Rattle.duality.specs.declared.left.Left.{Left}

abbrev pub left_path : ℕ → List Frame → Numbers → Bool
left_path n fs r = is_within r (greatest n fs)

abbrev pub left_cut : List Frame → Numbers → Bool
left_cut fs r = is_apart r (least fs)

abbrev pub KeptFor : (List Frame → Numbers → Bool) → List Numbers → (ℕ → List Numbers) → List ℕ → ℕ → List Frame → Type 0
KeptFor A all part counts c [] = Unit {0}
KeptFor A all part counts c (f ∷ fs) =
    (c ≤ slice_index_or counts (length fs) 0) × Alike (A fs) all (part (slice_index_or counts (length fs) 0)) × KeptFor A all part counts (slice_index_or counts (length fs) 0) fs

pub record Aside (A : List Frame → Numbers → Bool) (all : List Numbers) (part : ℕ → List Numbers) (counts : List ℕ) (c : ℕ) (fs : List Frame) : Type 0 where
  pub here : Alike (A fs) all (part c)
  pub before : KeptFor A all part counts c fs

abbrev pub AsideOf : {M K : Type 0} → (M → Numbers) → (K → Numbers) → List Numbers → (List Frame → Numbers → Bool) → Left M K → List Frame → Type 0
AsideOf bits mem all A left fs = Aside A all (standing bits mem left) left.counts left.count fs
