-- What a drawing of path rows means. Assumes nothing.
--
--   RowUp     some row that names no item out of range is up, of at most 4,096 rows
--   row_up    the row names no item out of range, and all its items are up, as a test
--   rows_work the same as RowUp, as a test
use Rattle.std.specs.Prelude.{ℕ, zero, suc, ◌<◌, ◌≤◌, Bool, false, not, ◌&&◌, ◌||◌, T, List, [], ◌∷◌, length, nat_le, nat_lt, slice_index_or}
use Rattle.std.proofs.Common.{inl, inr}
use Rattle.sets.specs.Sets.{Numbers, nothing, Within, Below, within_below}
use Rattle.sets.specs.Truth.{and_T, T_and, or_T, T_or_left, T_or_right}
use Rattle.systems.specs.Systems.{Structure}

pub record RowUp (items : ℕ) (rows : List Numbers) (s : Numbers) : Type 0 where
  pub few : length rows ≤ 4096
  pub row : ℕ
  pub there : row < length rows
  pub inside : Below items (slice_index_or rows row nothing)
  pub up : Within (slice_index_or rows row nothing) s

-- sets of items lie below 256
unfoldable pub row_up : ℕ → Numbers → Numbers → Bool
row_up items r s = within_below 256 r (λ k. nat_lt k items && s k)

abbrev pub some_row_up : ℕ → List Numbers → Numbers → Bool
some_row_up items [] s = false
some_row_up items (r ∷ rs) s = row_up items r s || some_row_up items rs s

abbrev pub rows_work : ℕ → List Numbers → Numbers → Bool
rows_work items rows s = nat_le (length rows) 4096 && some_row_up items rows s

within_more : (n : ℕ) (r s t : Numbers) → Within s t → T (within_below n r s) → T (within_below n r t)
within_more zero r s t h x = x
within_more (suc n) r s t h x =
    let p = and_T (not (r n) || s n) (within_below n r s) x in
    T_and (not (r n) || t n) (within_below n r t)
    (elim (or_T (not (r n)) (s n) p.0) [ inl a ↦ T_or_left (not (r n)) (t n) a | inr b ↦ T_or_right (not (r n)) (t n) (h n b) ])
    (within_more n r s t h p.1)

row_up_more : (items : ℕ) (r s t : Numbers) → Within s t → T (row_up items r s) → T (row_up items r t)
unfolding row_up
row_up_more items r s t h =
    within_more 256 r (λ k. nat_lt k items && s k) (λ k. nat_lt k items && t k)
    (λ k x. let p = and_T (nat_lt k items) (s k) x in T_and (nat_lt k items) (t k) p.0 (h k p.1))

some_row_up_more : (items : ℕ) (rows : List Numbers) (s t : Numbers) → Within s t → T (some_row_up items rows s) → T (some_row_up items rows t)
some_row_up_more items [] s t h x = x
some_row_up_more items (r ∷ rs) s t h x =
    elim (or_T (row_up items r s) (some_row_up items rs s) x) [
      | inl a ↦ T_or_left (row_up items r t) (some_row_up items rs t) (row_up_more items r s t h a)
      | inr b ↦ T_or_right (row_up items r t) (some_row_up items rs t) (some_row_up_more items rs s t h b)
    ]

pub rows_more : (items : ℕ) (rows : List Numbers) (s t : Numbers) → Within s t → T (rows_work items rows s) → T (rows_work items rows t)
rows_more items rows s t h x =
    let p = and_T (nat_le (length rows) 4096) (some_row_up items rows s) x in
    T_and (nat_le (length rows) 4096) (some_row_up items rows t) p.0 (some_row_up_more items rows s t h p.1)

-- the structure function of a row drawing
abbrev pub row_structure : ℕ → List Numbers → Structure
row_structure items rows = record {
  items = items;
  works = rows_work items rows;
  monotone = λ s t _ _ h. rows_more items rows s t h;
}
