-- A search for missed states that can go on. Assumes nothing.
--
--   Stands        the search is at a half of the states of n items
--   Behind        the rows cover all that the search has left behind
--   AllCovered    every state of n items is covered
--   MissedState   a state of n items that is missed
--   Known         the rows that may be left in the half are known, of paths and cuts that lie below 256
--   Undecided     of a half with this least and this greatest state: a path is up in the greatest and none in the least, a cut is down in
--                 the least and none in the greatest
--   Found         what has come out of it
--   Narrowed      of the paths and the cuts that have a mask only those may be left that are left in the half: no item of the path is down
--                 in it, no item of the cut up
--   Leaves        so they are, where the half has to be split
--   Led           each open split from the place d on is by an undecided item of the half that was split, and none has a larger share of
--                 the rows that are left in it
use Rattle.std.specs.Prelude.{◌≡◌, ℕ, ◌≤◌, not, ◌&&◌, ◌⊎◌, List, [], ◌∷◌, length}
use Rattle.sets.specs.Sets.{Numbers, Below}
use Rattle.systems.specs.States.{up}
use Rattle.systems.specs.Systems.{Works, Fails, Missed, EachRow}
use Rattle.systems.specs.declared.state.State.{State}
use Rattle.duality.specs.Halves.{opened, least, greatest, Half, Settled, Covered}
use Rattle.duality.specs.Asides.{left_path, left_cut, AsideOf}
use Rattle.duality.specs.Shares.{Leads, is_within, is_apart, left_paths, left_cuts}
use Rattle.duality.specs.Remaining.{AllPass, left_masks}
use Rattle.duality.specs.declared.left.Left.{Left}
use Rattle.duality.specs.declared.splits.Frame.{Frame}
use Rattle.duality.specs.declared.search.Search.{Search}
use Rattle.duality.specs.declared.search.Finding.{Finding}
use Rattle.duality.specs.declared.search.Finding.TheVariants.{Closed, Open, Missed as Misses}

abbrev pub Stands : ℕ → Search → Type 0
Stands n s = Half n (opened s.splits) s.low s.high

abbrev pub Behind : ℕ → List Numbers → List Numbers → Search → Type 0
Behind n ps cs s = Settled n ps cs (opened s.splits)

abbrev pub AllCovered : ℕ → List Numbers → List Numbers → Type 0
AllCovered n ps cs = (s : Numbers) → Below n s → Covered ps cs s

abbrev pub MissedState : ℕ → List Numbers → List Numbers → State → Type 0
MissedState n ps cs s = (s.count ≡ n) × Missed ps cs (up s)

pub record Known {M K : Type 0} (bits : M → Numbers) (mem : K → Numbers) (n : ℕ) (ps cs : List Numbers) (s : Search) (left_paths left_cuts : Left M K) : Type 0 where
  pub stands : Stands n s
  pub low_paths : EachRow ps (Below 256)
  pub low_cuts : EachRow cs (Below 256)
  pub paths : AsideOf bits mem ps (left_path n) left_paths (opened s.splits)
  pub cuts : AsideOf bits mem cs left_cut left_cuts (opened s.splits)

pub record Undecided (ps cs : List Numbers) (low high : Numbers) : Type 0 where
  pub path : Works ps high
  pub no_path : Works ps low → ⊥
  pub cut : Fails cs low
  pub no_cut : Fails cs high → ⊥

abbrev pub Found : ℕ → List Numbers → List Numbers → Search → Finding → Type 0
Found n ps cs s Closed = Works ps (up s.low) ⊎ Fails cs (up s.high)
Found n ps cs s Open = Undecided ps cs (up s.low) (up s.high)
Found n ps cs s (Misses state) = MissedState n ps cs state

pub record Narrowed {M K : Type 0} (bits : M → Numbers) (s : Search) (left_paths left_cuts : Left M K) : Type 0 where
  pub paths : AllPass (λ p. is_within p (up s.high)) (left_masks bits left_paths)
  pub cuts : AllPass (λ c. is_apart c (up s.low)) (left_masks bits left_cuts)

abbrev pub Leaves : {M K : Type 0} → (M → Numbers) → Search → Left M K → Left M K → Finding → Type 0
Leaves bits s left_paths left_cuts Closed = Unit {0}
Leaves bits s left_paths left_cuts Open = Narrowed bits s left_paths left_cuts
Leaves bits s left_paths left_cuts (Misses state) = Unit {0}

abbrev pub Led : ℕ → List Numbers → List Numbers → ℕ → List Frame → Type 0
Led n ps cs d [] = Unit {0}
Led n ps cs d (f ∷ fs) =
    (d ≤ length fs → Leads (left_paths ps (greatest n fs)) (left_cuts cs (least fs)) (λ k. greatest n fs k && not (least fs k)) f.item) × Led n ps cs d fs
