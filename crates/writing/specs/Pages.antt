-- Lent memory that is written on from its front. Assumes nothing.
--
--   Written before after at bs   the bytes bs stand at `at`, and all else is as it was
--   Wrote before after bs        the bytes bs are put on the page: counted in any case, and written if all that is counted has a place
use Rattle.std.specs.Prelude.{◌≡◌, ℕ, ◌+◌, ◌≤◌, ◌++◌, length, take, drop}
use Rattle.sheets.specs.Bytes.{Bytes}
use Rattle.writing.specs.declared.page.Page.{Page}

abbrev pub Written : Bytes → Bytes → ℕ → Bytes → Type 0
Written before after at bs = after ≡ take at before ++ (bs ++ drop (at + length bs) before)

pub record Wrote (before after : Page) (bs : Bytes) : Type 0 where
  pub len : after.len ≡ before.len + length bs
  pub room : length after.memory.now ≡ length before.memory.now
  pub written : after.len ≤ length before.memory.now → Written before.memory.now after.memory.now before.len bs
  pub lent : after.memory.ghost_name ≡ before.memory.ghost_name
