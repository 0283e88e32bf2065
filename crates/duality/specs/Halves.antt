-- The splits that a search has open, the last first, and the half of the states that they leave. Assumes nothing.
--
--   opened    the open splits of a stack
--   turned    a split in its second half
--   backed    the splits once the half being tried is closed: back to the last that is in its first half, which is turned
--   Agrees    the state is in the half: each split's item is up or down in it as the split says
--   least     the state of the half in which the undecided items are down; greatest: in which they are up
--   Fresh     each split is by an item that those below it leave undecided
--   Covered   a path row is up in the state, or a cut row down
--   Settled   of each split in its second half, the first half is covered
--   Half      `low` and `high` are the least and the greatest state of the half
use Rattle.std.specs.Prelude.{◌≡◌, ℕ, zero, suc, ◌<◌, true, false, cond, ◌⊎◌, List, [], ◌∷◌, ◌==◌, nat_lt, slice_index_or}
use Rattle.sets.specs.Sets.{Numbers, Below}
use Rattle.systems.specs.States.{up}
use Rattle.systems.specs.Systems.{Works, Fails}
use Rattle.systems.specs.declared.state.State.{State}
use Rattle.duality.specs.declared.splits.Frame.{Frame}
use Rattle.duality.specs.declared.splits.Splits.{Splits}

abbrev pub no_frame : Frame
no_frame = record { item = 0; up = false }

-- the first d frames, the last of them first
abbrev pub stacked : ℕ → List Frame → List Frame
stacked zero fs = []
stacked (suc d) fs = slice_index_or fs d no_frame ∷ stacked d fs

abbrev pub opened : Splits → List Frame
opened s = stacked s.depth s.frames

abbrev pub turned : Frame → Frame
turned f = record { item = f.item; up = false }

abbrev pub backed : List Frame → List Frame
backed [] = []
backed (f ∷ fs) = cond f.up (turned f ∷ fs) (backed fs)

abbrev pub Agrees : List Frame → Numbers → Type 0
Agrees [] s = Unit {0}
Agrees (f ∷ fs) s = (s f.item ≡ f.up) × Agrees fs s

abbrev pub least : List Frame → Numbers
least [] k = false
least (f ∷ fs) k = cond (k == f.item) f.up (least fs k)

abbrev pub greatest : ℕ → List Frame → Numbers
greatest n [] k = nat_lt k n
greatest n (f ∷ fs) k = cond (k == f.item) f.up (greatest n fs k)

abbrev pub Fresh : ℕ → List Frame → Type 0
Fresh n [] = Unit {0}
Fresh n (f ∷ fs) = (f.item < n) × (least fs f.item ≡ false) × (greatest n fs f.item ≡ true) × Fresh n fs

abbrev pub Covered : List Numbers → List Numbers → Numbers → Type 0
Covered ps cs s = Works ps s ⊎ Fails cs s

abbrev pub Settled : ℕ → List Numbers → List Numbers → List Frame → Type 0
Settled n ps cs [] = Unit {0}
Settled n ps cs (f ∷ fs) = (f.up ≡ false → (s : Numbers) → Below n s → Agrees fs s → s f.item ≡ true → Covered ps cs s) × Settled n ps cs fs

pub record Half (n : ℕ) (fs : List Frame) (low high : State) : Type 0 where
  pub low_count : low.count ≡ n
  pub high_count : high.count ≡ n
  pub lows : (k : ℕ) → up low k ≡ least fs k
  pub highs : (k : ℕ) → up high k ≡ greatest n fs k
  pub fresh : Fresh n fs
