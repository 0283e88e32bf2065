-- How long what is written is.
use Rattle.std.proofs.Common.{◌≡◌, ℕ, zero, suc, ◌+◌, ◌*◌, ◌<◌, ◌≤◌, ◌^◌, Bool, true, false, cond, List, [], ◌∷◌, ◌++◌, map, length, get_or, take, drop, codes, arith}
use Rattle.std.proofs.lemmas.List.{length-append, length-take, length-drop}
use Rattle.sets.specs.Sets.{Numbers}
use Rattle.sets.specs.Members.{members_from}
use Rattle.sheets.specs.Bytes.{Bytes, spaced, items_text}
use Rattle.sheets.specs.Labels.{named}
use Rattle.sheets.specs.declared.place.LabelPlace.{LabelPlace}
use Rattle.sheets.proofs.Going.{length_items}
use Rattle.writing.specs.Reports.{stop_text}
use Rattle.writing.specs.SheetTexts.{items_of, labels_at, row_line, lines_of, sheet_text}
use Rattle.writing.proofs.Digits.{length_shown}

pub length_stop : (number line : ℕ) → length (stop_text number line) ≡ 15
length_stop number line = simp (length-append, length_shown)

length_cond : (b : Bool) (xs ys : List ℕ) (n : ℕ) → length xs ≤ n → length ys ≤ n → length (cond b xs ys) ≤ n
length_cond true xs ys n h k = h
length_cond false xs ys n h k = k

length_members : (s : Numbers) (k n : ℕ) → length (members_from s k n) ≤ n
length_members s k zero = omega arith
length_members s k (suc n) =
    let rest = members_from s (k + 1) n in
    let l = length_members s (k + 1) n in
    length_cond (s k) (k ∷ rest) rest (suc n) (omega arith) (omega arith)

length_items_of : (s : Numbers) → length (items_of s) ≤ 256
length_items_of s = length_members s 0 256

-- a label is no longer than the text that it lies in
length_named : (text : Bytes) (p : LabelPlace) → length (named text p) ≤ length text
unfolding named
length_named text p =
    let label = take p.len (drop p.start text) in
    let a = length-take p.len (drop p.start text) in
    let b = length-drop p.start text in
    length_cond _ label [] (length text) (omega arith) (omega arith)

abbrev pub Short : List Bytes → Type 0
Short names = (k : ℕ) → length (get_or names k []) ≤ 65535

pub short_names : (text : Bytes) (places : List LabelPlace) → length text ≤ 65535 → Short (map (named text) places)
short_names text [] h k = omega arith
short_names text (p ∷ ps) h zero = omega (arith, length_named text p)
short_names text (p ∷ ps) h (suc k) = short_names text ps h k

module _ (names : List Bytes) (short : Short names) where
  length_labels : (ks : List ℕ) → length (spaced (labels_at names ks)) ≤ length ks * 65536
  length_labels [] = omega arith
  length_labels (k ∷ ks) =
      let l = get_or names k [] in
      omega (arith, length-append l (spaced (labels_at names ks)), short k, length_labels ks)

  length_row_line : (head : Bytes) (r : Numbers) → length head ≤ 4 → length (row_line head names r) ≤ 16777221
  length_row_line head r h =
      let labels = spaced (labels_at names (items_of r)) in
      omega (arith, length-append head (labels ++ (10 ∷ [])), length-append labels (10 ∷ []), length_labels (items_of r), length_items_of r)

  length_lines : (head : Bytes) (rows : List Numbers) → length head ≤ 4 → length (lines_of head names rows) ≤ length rows * 16777221
  length_lines head [] h = omega arith
  length_lines head (r ∷ rs) h = omega (arith, length-append (row_line head names r) (lines_of head names rs), length_row_line head r h, length_lines head rs h)

length_items_text : (names : List Bytes) (k : ℕ) → Short names → k + length names ≤ 256 → length (items_text k names) ≤ length names * 65545
length_items_text [] k short few = omega arith
length_items_text (l ∷ ls) k short few =
    omega (arith, length_items k l ls (omega arith), short 0, length_items_text ls (suc k) (λ j. short (suc j)) (omega arith))

-- a sheet text has its numbers
pub length_sheet : (names : List Bytes) (ps cs : List Numbers) → Short names → length names ≤ 256 → length ps ≤ 4096 → length cs ≤ 4096 → length (sheet_text names ps cs) < 2 ^ 64
length_sheet names ps cs short few some many =
    let is = items_text 0 names in
    let xs = lines_of (codes "PATH") names ps in
    let ys = lines_of (codes "CUTS") names cs in
    omega (arith, length-append is (xs ++ ys), length-append xs ys, length_items_text names 0 short (omega arith), length_lines names short (codes "PATH") ps (omega arith), length_lines names short (codes "CUTS") cs (omega arith))
