-- What the calls on a table reply, and the rows that they leave. Assumes nothing.
--
-- n is the table's item count, 0 where it was opened with a count that is not permitted.
--
--   Judges    of the call that judges an item count
--   Passes    an item of a list is below n, stands there for the first time, and the row with it can be held
--   ItemRefused   of a list with an item that does not pass
--   RowRefused    of a row that is not there
--   Puts      of `put`
--   Strikes   of `strike`
--   Shows     of the call that shows a row
use Rattle.std.specs.Prelude.{◌≡◌, ℕ, ◌+◌, ◌-◌, ◌<◌, ◌≤◌, true, false, ◌⊎◌, List, [], ◌∷◌, length, take, slice_index, slice_index_or}
use Rattle.std.specs.List.{remove}
use Rattle.sets.specs.Sets.{Numbers, nothing, listed}
use Rattle.tables.specs.Refusals.{Reply, answered, refused}
use Rattle.tables.specs.Rows.{ContainsNone, LowestContained, staying, after_put}

pub data Judges (top items : ℕ) : Reply (Unit {0}) → Type 0 where
  judge_permits : 1 ≤ items → items ≤ top → Judges top items (answered tt)
  judge_refuses : (items ≡ 0) ⊎ (top < items) → Judges top items (refused 1 (items ∷ []))

pub record Passes (n : ℕ) (holds : Numbers → Type 0) (items : List ℕ) (i : ℕ) : Type 0 where
  pub below : slice_index items i < n
  pub once : listed (take i items) (slice_index items i) ≡ false
  pub held : holds (listed (take (i + 1) items))

-- each of the first m items passes
abbrev pub Pass : ℕ → (Numbers → Type 0) → List ℕ → ℕ → Type 0
Pass n holds items m = (i : ℕ) → i < m → Passes n holds items i

-- the refusal of a list of items: that of the first which does not pass
pub data ItemRefused (n : ℕ) (holds : Numbers → Type 0) (items : List ℕ) : ℕ → List ℕ → Type 0 where
  no_such_item : (i : ℕ) → i < length items → Pass n holds items i → n ≤ slice_index items i → ItemRefused n holds items 2 (i ∷ [])
  repeated : (i : ℕ) → i < length items → Pass n holds items i → slice_index items i < n → listed (take i items) (slice_index items i) ≡ true → ItemRefused n holds items 3 (i ∷ [])
  cannot_hold : (i : ℕ) → i < length items → Pass n holds items i → slice_index items i < n → listed (take i items) (slice_index items i) ≡ false → (holds (listed (take (i + 1) items)) → ⊥) → ItemRefused n holds items 4 (i ∷ [])

-- the refusal of a call that names a row, of a table with so many
pub data RowRefused (n count row : ℕ) : ℕ → List ℕ → Type 0 where
  row_closed : n ≡ 0 → RowRefused n count row 1 (n ∷ [])
  no_such_row : 1 ≤ n → count ≤ row → RowRefused n count row 7 (count ∷ [])

pub data Puts (n capacity : ℕ) (holds : Numbers → Type 0) (rows : List Numbers) (items : List ℕ) : Reply ℕ → List Numbers → Type 0 where
  put_closed : n ≡ 0 → Puts n capacity holds rows items (refused 1 (n ∷ [])) rows
  put_item : (number : ℕ) (values : List ℕ) → 1 ≤ n → ItemRefused n holds items number values → Puts n capacity holds rows items (refused number values) rows
  put_contains : (i : ℕ) → 1 ≤ n → Pass n holds items (length items) → LowestContained rows (listed items) i → Puts n capacity holds rows items (refused 5 (i ∷ [])) rows
  put_full : 1 ≤ n → Pass n holds items (length items) → ContainsNone rows (listed items) → length rows ≡ capacity → staying n rows (listed items) ≡ rows → Puts n capacity holds rows items (refused 6 (capacity ∷ [])) rows
  put_done : 1 ≤ n → Pass n holds items (length items) → ContainsNone rows (listed items) → length (staying n rows (listed items)) < capacity → Puts n capacity holds rows items (answered (length rows - length (staying n rows (listed items)))) (after_put n rows (listed items))

pub data Strikes (n : ℕ) (rows : List Numbers) (row : ℕ) : Reply (Unit {0}) → List Numbers → Type 0 where
  strike_closed : n ≡ 0 → Strikes n rows row (refused 1 (n ∷ [])) rows
  strike_none : 1 ≤ n → length rows ≤ row → Strikes n rows row (refused 7 (length rows ∷ [])) rows
  strike_done : 1 ≤ n → row < length rows → Strikes n rows row (answered tt) (remove rows row)

pub data Shows (n : ℕ) (rows : List Numbers) (row : ℕ) : Reply Numbers → Type 0 where
  show_closed : n ≡ 0 → Shows n rows row (refused 1 (n ∷ []))
  show_none : 1 ≤ n → length rows ≤ row → Shows n rows row (refused 7 (length rows ∷ []))
  show_done : 1 ≤ n → row < length rows → Shows n rows row (answered (slice_index_or rows row nothing))

-- a call has one reply, and leaves one list of rows
pub record OneReply (holds : Numbers → Type 0) : Type 0 where
  pub judges : (top items : ℕ) (r s : Reply (Unit {0})) → Judges top items r → Judges top items s → r ≡ s
  pub puts : (n capacity : ℕ) (rows : List Numbers) (items : List ℕ) (r s : Reply ℕ) (qs ts : List Numbers) → Puts n capacity holds rows items r qs → Puts n capacity holds rows items s ts → (r ≡ s) × (qs ≡ ts)
  pub strikes : (n : ℕ) (rows : List Numbers) (row : ℕ) (r s : Reply (Unit {0})) (qs ts : List Numbers) → Strikes n rows row r qs → Strikes n rows row s ts → (r ≡ s) × (qs ≡ ts)
  pub shows : (n : ℕ) (rows : List Numbers) (row : ℕ) (r s : Reply Numbers) → Shows n rows row r → Shows n rows row s → r ≡ s
