-- Numbers in columns. Assumes nothing.
--
--   shown w n   the number n, right-justified in w columns; nines if it is too wide for them
use Rattle.std.specs.Prelude.{ℕ, cond, nat_le, length, replicate}
use Rattle.std.specs.Fmt.{decimal}
use Rattle.sheets.specs.Bytes.{Bytes, right}

unfoldable pub shown : ℕ → ℕ → Bytes
shown w n = cond (nat_le (length (decimal n)) w) (right w n) (replicate w 57)
