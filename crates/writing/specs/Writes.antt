-- What the writing calls answer, and what the output memory holds then. Assumes nothing.
--
--   Checks p c text labels      the checks of a path table of p items, a cut table of c items, and labels that lie in the text
--   Outputs bs before r after   the bytes bs are to be written over `before`: r is their number, or refusal 12
--   Writes p c text labels P before r after
--                               both, of a call whose bytes are what P says
use Rattle.std.specs.Prelude.{ℕ, ◌<◌, ◌≤◌, ◌++◌, length, drop, Ok, Err, Result}
use Rattle.sheets.specs.Bytes.{Bytes}
use Rattle.sheets.specs.Counts.{Counts}
use Rattle.duality.specs.declared.fault.PairFault.{PairFault}
use Rattle.writing.specs.Faults.{unfit}
use Rattle.writing.specs.declared.fault.WriteFault.{WriteFault}
use Rattle.writing.specs.declared.fault.WriteFault.TheVariants.{TooLong, NoRoom}

pub data Checks (p c : ℕ) (text : Bytes) (labels : ℕ) : Result (Unit {0}) WriteFault → Type 0 where
  not_fit : (fault : PairFault) → Counts p c labels (Err fault) → Checks p c text labels (Err (unfit fault))
  too_long : Counts p c labels (Ok tt) → 65535 < length text → Checks p c text labels (Err (TooLong (length text)))
  fits : Counts p c labels (Ok tt) → length text ≤ 65535 → Checks p c text labels (Ok tt)

pub data Outputs (bs before : Bytes) : Result ℕ WriteFault → Bytes → Type 0 where
  no_room : length before < length bs → Outputs bs before (Err (NoRoom (length bs))) before
  output : length bs ≤ length before → Outputs bs before (Ok (length bs)) (bs ++ drop (length bs) before)

pub data Writes (p c : ℕ) (text : Bytes) (labels : ℕ) (P : Bytes → Type 0) (before : Bytes) : Result ℕ WriteFault → Bytes → Type 0 where
  not_written : (fault : WriteFault) → Checks p c text labels (Err fault) → Writes p c text labels P before (Err fault) before
  writes : (bs : Bytes) (r : Result ℕ WriteFault) (after : Bytes) → Checks p c text labels (Ok tt) → P bs → Outputs bs before r after → Writes p c text labels P before r after
