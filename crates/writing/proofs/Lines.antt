-- Lines that are put one after another: the first of those that are left, and the others.
use Rattle.std.proofs.Common.{◌≡◌, ℕ, ◌+◌, ◌<◌, ◌≤◌, ◌^◌, Bool, List, [], ◌∷◌, ◌++◌, map, length, get_or, drop, codes, sym, ap, ◌∙◌, add-one, arith}
use Rattle.std.proofs.lemmas.Fmt.{length-decimal-le}
use Rattle.std.proofs.lemmas.List.{append_assoc, length-append, length-map, get_or-map, at_drop_more, at_drop_all}
use Rattle.sets.specs.Sets.{Numbers}
use Rattle.sheets.specs.Bytes.{Bytes, item_line, items_text}
use Rattle.sheets.proofs.Fronting.{length_item}
use Rattle.writing.specs.Columns.{shown}
use Rattle.writing.specs.Pages.{Wrote}
use Rattle.writing.specs.Reports.{state_line, state_lines}
use Rattle.writing.specs.SheetTexts.{row_line, lines_of}
use Rattle.writing.specs.declared.page.Page.{Page}
use Rattle.writing.proofs.Digits.{shown_fits}
use Rattle.writing.proofs.Going.{Going, going_more, going_room, going_all}

-- a text of what is left of a list that is mapped
module _ {X Y : Type 0} (f : X → Y) (xs : List X) (i : ℕ) (text : List Y → Bytes) where
  at_drop_map_more : (d : X) (y : Y) → i < length xs → y ≡ f (get_or xs i d) → text (drop i (map f xs)) ≡ text (y ∷ drop (i + 1) (map f xs))
  at_drop_map_more d y there e =
      at_drop_more text (map f xs) i y (omega (arith, length-map xs f))
      ∙ ap (λ z. text (z ∷ drop (i + 1) (map f xs))) (get_or-map f xs i d y there ∙ sym e)

  pub at_drop_map_all : length xs ≤ i → text (drop i (map f xs)) ≡ text []
  at_drop_map_all h = at_drop_all text (map f xs) i (omega (arith, length-map xs f))

-- the lines from item i on are its line and the others
module _ {X : Type 0} (name : X → Bytes) (xs : List X) (i : ℕ) (d : X) (l : Bytes) (there : i < length xs) (is : l ≡ name (get_or xs i d)) where
  pub items_next : items_text i (drop i (map name xs)) ≡ (item_line i l ++ (10 ∷ [])) ++ items_text (i + 1) (drop (i + 1) (map name xs))
  items_next =
      let rest = drop (i + 1) (map name xs) in
      at_drop_map_more name xs i (items_text i) d l there is
      ∙ ap (λ k. item_line i l ++ (10 ∷ items_text k rest)) (sym (add-one i))
      ∙ sym (append_assoc (item_line i l) (10 ∷ []) (items_text (i + 1) rest))

  pub state_next : (s : Numbers) (b : Bool) → b ≡ s i → state_lines s i (drop i (map name xs)) ≡ state_line b i l ++ state_lines s (i + 1) (drop (i + 1) (map name xs))
  state_next s b e =
      let rest = drop (i + 1) (map name xs) in
      at_drop_map_more name xs i (state_lines s i) d l there is
      ∙ ap (λ k. state_line (s i) i l ++ state_lines s k rest) (sym (add-one i))
      ∙ ap (λ x. state_line x i l ++ state_lines s (i + 1) rest) (sym e)

-- the lines of the rows from row i on are left
module _ {X : Type 0} (mean : X → Numbers) (head : Bytes) (names : List Bytes) (rows : List X) (i : ℕ) {a b : Page} (left : Going a b (lines_of head names (map mean rows)) (lines_of head names (drop i (map mean rows)))) where
  pub rows_all : length rows ≤ i → Wrote a b (lines_of head names (map mean rows))
  rows_all h = going_all left (at_drop_map_all mean rows i (lines_of head names) h)

  module _ (d : X) {r : Numbers} (there : i < length rows) (is : r ≡ mean (get_or rows i d)) where
    rows_next : lines_of head names (drop i (map mean rows)) ≡ row_line head names r ++ lines_of head names (drop (i + 1) (map mean rows))
    rows_next = at_drop_map_more mean rows i (lines_of head names) d r there is

    pub row_room : a.len + length (lines_of head names (map mean rows)) < 2 ^ 64 → b.len + length (row_line head names r) < 2 ^ 64
    row_room fits = going_room (row_line head names r) (lines_of head names (drop (i + 1) (map mean rows))) left fits rows_next

    pub rows_more : {c : Page} → Wrote b c (row_line head names r) → Going a c (lines_of head names (map mean rows)) (lines_of head names (drop (i + 1) (map mean rows)))
    rows_more w = going_more left rows_next w

-- the ITEM line, as it is put
pub item_line_shown : (i : ℕ) (l : Bytes) → i < 1000 → codes "ITEM " ++ (shown 3 i ++ (32 ∷ (l ++ (10 ∷ [])))) ≡ item_line i l ++ (10 ∷ [])
unfolding item_line
item_line_shown i l small =
    let s = shown 3 i in
    let e = shown_fits 3 i (length-decimal-le 3 i (omega arith) (omega arith) (omega arith)) in
    ap (λ (z : Bytes). codes "ITEM " ++ z) (sym (append_assoc s (32 ∷ l) (10 ∷ [])))
    ∙ ap (λ (z : Bytes). (codes "ITEM " ++ (z ++ (32 ∷ l))) ++ (10 ∷ [])) e

pub length_item_line : (i : ℕ) (l : Bytes) → i < 1000 → length (item_line i l ++ (10 ∷ [])) ≡ 10 + length l
length_item_line i l small = omega (arith, length-append (item_line i l) (10 ∷ []), length_item i l small)
