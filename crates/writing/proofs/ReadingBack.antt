-- What is written of accepted labels and sound rows reads back as they are.
use Rattle.std.proofs.Common.{◌≡◌, ℕ, zero, suc, ◌+◌, ◌<◌, ◌≤◌, List, [], ◌∷◌, ◌++◌, map, length, get_or, take, drop, codes, Ok, Result, IfOk, inl, inr, append_assoc, sym, refl, ap, ap₂, ◌∙◌, subst, arith}
use Rattle.std.proofs.lemmas.List.{append-nil, length-map, take_all, drop_all, drop_more}
use Rattle.sets.specs.Sets.{Numbers, nothing, Within}
use Rattle.tables.specs.Calls.{Puts}
use Rattle.tables.specs.Refusals.{answered}
use Rattle.tables.specs.Rows.{Sound}
use Rattle.tables.proofs.Returning.{members_below, puts_back}
use Rattle.sheets.specs.Bytes.{Bytes, Labels, spaced, items_text}
use Rattle.sheets.specs.Counts.{counts_fit}
use Rattle.sheets.specs.Items.{places_from, Accepted, Stops, names_of, ItemsCall}
use Rattle.sheets.specs.Looks.{Looked}
use Rattle.sheets.specs.Labels.{named}
use Rattle.sheets.specs.Rows.{RowLine, path_row, cuts_row, line_of, rows_text, Run, run_none, run_path, run_cuts}
use Rattle.sheets.specs.RowsCalls.{RowsCall}
use Rattle.sheets.specs.declared.place.LabelPlace.{LabelPlace}
use Rattle.sheets.specs.declared.items_fault.ItemsFault.{ItemsFault}
use Rattle.sheets.specs.declared.rows_fault.RowsFault.{RowsFault}
use Rattle.sheets.proofs.Going.{length_places}
use Rattle.sheets.proofs.Determined.{items_back}
use Rattle.sheets.proofs.RowsReturning.{rows_come_back}
use Rattle.writing.specs.SheetTexts.{items_of, labels_at, row_line, lines_of, sheet_text}
use Rattle.writing.specs.RoundTrips.{ReadsBack}
use Rattle.writing.proofs.LookedBack.{looked_back, labels_back}

-- ---- the lines of rows

lines_are : (head : Bytes) (names : List Bytes) (line : Numbers → RowLine) → ((r : Numbers) → line_of (line r) ≡ head ++ spaced (labels_at names (items_of r))) → (rows : List Numbers)
    → lines_of head names rows ≡ rows_text (map line rows)
lines_are head names line is [] = refl
lines_are head names line is (r ∷ rs) =
    let labels = spaced (labels_at names (items_of r)) in
    let rest = rows_text (map line rs) in
    ap (λ (z : Bytes). row_line head names r ++ z) (lines_are head names line is rs)
    ∙ ap (λ (z : Bytes). z ++ rest) (sym (append_assoc head labels (10 ∷ [])))
    ∙ append_assoc (head ++ labels) (10 ∷ []) rest
    ∙ ap (λ (z : Bytes). z ++ (10 ∷ rest)) (sym (is r))

rows_text_append : (rs ss : List RowLine) → rows_text (rs ++ ss) ≡ rows_text rs ++ rows_text ss
rows_text_append [] ss = refl
rows_text_append (r ∷ rs) ss = ap (λ (z : Bytes). line_of r ++ (10 ∷ z)) (rows_text_append rs ss) ∙ sym (append_assoc (line_of r) (10 ∷ rows_text rs) (rows_text ss))

-- the lines of a whole text
abbrev path_of : List Bytes → Numbers → RowLine
path_of names r = path_row (labels_at names (items_of r))

abbrev cuts_of : List Bytes → Numbers → RowLine
cuts_of names r = cuts_row (labels_at names (items_of r))

abbrev all_rows : List Bytes → List Numbers → List Numbers → List RowLine
all_rows names ps cs = map (path_of names) ps ++ map (cuts_of names) cs

all_lines : (names : List Bytes) (ps cs : List Numbers) → lines_of (codes "PATH") names ps ++ lines_of (codes "CUTS") names cs ≡ rows_text (all_rows names ps cs)
all_lines names ps cs =
    ap₂ (λ (x y : Bytes). x ++ y) (lines_are (codes "PATH") names (path_of names) (λ r. refl) ps) (lines_are (codes "CUTS") names (cuts_of names) (λ r. refl) cs)
    ∙ sym (rows_text_append (map (path_of names) ps) (map (cuts_of names) cs))

lines_stop : (names : List Bytes) (ps cs : List Numbers) → Stops (lines_of (codes "PATH") names ps ++ lines_of (codes "CUTS") names cs)
lines_stop names [] [] = inl refl
lines_stop names [] (c ∷ cs) = inr (inr (_, refl))
lines_stop names (p ∷ ps) cs = inr (inl (_, refl))

-- ---- the rows are put one after the other

-- from row i on, where k rows are left: `R z lines` says that the lines put the other rows behind the rows z
lines_run : (line : Numbers → RowLine) (rows : List Numbers) (rest : List RowLine) (R : List Numbers → List RowLine → Type 0)
    → ((i : ℕ) (lines : List RowLine) → i < length rows → R (take (i + 1) rows) lines → R (take i rows) (line (get_or rows i nothing) ∷ lines))
    → (i k : ℕ) → i + k ≡ length rows → R rows rest → R (take i rows) (map line (drop i rows) ++ rest)
lines_run line rows rest R step i zero e run =
    subst (λ (z : List Numbers). R z (map line (drop i rows) ++ rest)) (sym (take_all i rows (omega arith)))
    (subst (λ (z : List Numbers). R rows (map line z ++ rest)) (sym (drop_all i rows (omega arith))) run)
lines_run line rows rest R step i (suc k) e run =
    let lt : i < length rows = omega arith in
    subst (λ (z : List Numbers). R (take i rows) (map line z ++ rest)) (sym (drop_more rows i nothing lt))
    (step i (map line (drop (i + 1) rows) ++ rest) lt (lines_run line rows rest R step (i + 1) k (omega arith) run))

module _ (holds : Numbers → Type 0) (less : (s t : Numbers) → holds s → Within t s → holds t) (n a b : ℕ) (names : List Bytes) (pos : 1 ≤ n) (small : n ≤ 256) (counted : length names ≡ n) (ok : Accepted names) where
  -- a row of a table is put by its labels
  module _ (capacity : ℕ) (rows : List Numbers) (sound : Sound n capacity holds rows) (i : ℕ) (lt : i < length rows) where
    items_labelled : (k : ℕ) → k < length (items_of (get_or rows i nothing)) → get_or (items_of (get_or rows i nothing)) k 0 < length names
    items_labelled k h = let l = members_below n (get_or rows i nothing) small (sound.items i lt) k h in omega arith

    row_labels : Labels (labels_at names (items_of (get_or rows i nothing)))
    row_labels = labels_back names ok (items_of (get_or rows i nothing)) items_labelled

    row_looked : Looked names (labels_at names (items_of (get_or rows i nothing))) (items_of (get_or rows i nothing))
    row_looked = looked_back names ok (items_of (get_or rows i nothing)) items_labelled

    row_put : Puts n capacity holds (take i rows) (items_of (get_or rows i nothing)) (answered 0) (take (i + 1) rows)
    row_put = puts_back n capacity holds less rows pos small sound i lt

  module _ (ps cs : List Numbers) (paths : Sound n a holds ps) (cuts : Sound n b holds cs) where
    cuts_run : Run n a b holds names ps [] (map (cuts_of names) cs ++ []) ps cs
    cuts_run =
        lines_run (cuts_of names) cs [] (λ z lines. Run n a b holds names ps z lines ps cs)
        (λ i lines lt run. run_cuts ps (take i cs) (take (i + 1) cs) ps cs (labels_at names (items_of (get_or cs i nothing))) (items_of (get_or cs i nothing)) 0 lines (row_labels b cs cuts i lt) (row_looked b cs cuts i lt) (row_put b cs cuts i lt) run)
        0 (length cs) (omega arith) (run_none ps cs)

    all_run : Run n a b holds names [] [] (all_rows names ps cs) ps cs
    all_run =
        lines_run (path_of names) ps (map (cuts_of names) cs) (λ z lines. Run n a b holds names z [] lines ps cs)
        (λ i lines lt run. run_path (take i ps) [] (take (i + 1) ps) ps cs (labels_at names (items_of (get_or ps i nothing))) (items_of (get_or ps i nothing)) 0 lines (row_labels a ps paths i lt) (row_looked a ps paths i lt) (row_put a ps paths i lt) run)
        0 (length ps) (omega arith) (subst (λ (z : List RowLine). Run n a b holds names ps [] z ps cs) (append-nil (map (cuts_of names) cs)) cuts_run)

    module _ (short : length (sheet_text names ps cs) ≤ 65535) where
      sheet_is : sheet_text names ps cs ≡ items_text 0 names ++ rows_text (all_rows names ps cs)
      sheet_is = ap (λ (z : Bytes). items_text 0 names ++ z) (all_lines names ps cs)

      rows_back : (places : List LabelPlace) (r : Result (Unit {0}) RowsFault) (qs ds : List Numbers) → map (named (sheet_text names ps cs)) places ≡ names
          → RowsCall n n a b holds (sheet_text names ps cs) places [] [] r qs ds → (r ≡ Ok tt) × (qs ≡ ps) × (ds ≡ cs)
      rows_back places r qs ds are call =
          let long : length places ≡ n = sym (length-map places (named (sheet_text names ps cs))) ∙ ap length are ∙ counted in
          rows_come_back holds n a b names (all_rows names ps cs) places [] [] ps cs qs ds r ok (counts_fit pos refl (sym long))
          (subst (λ (z : Bytes). map (named z) places ≡ names) sheet_is are)
          (subst (λ (z : Bytes). length z ≤ 65535) sheet_is short)
          all_run
          (subst (λ (z : Bytes). RowsCall n n a b holds z places [] [] r qs ds) sheet_is call)

      labels_kept : (before after : List LabelPlace) (r : Result ℕ ItemsFault) → length before ≡ n → ItemsCall (sheet_text names ps cs) before after r
          → (r ≡ Ok n) × (map (named (sheet_text names ps cs)) after ≡ names)
      labels_kept before after r room call =
          let rest = lines_of (codes "PATH") names ps ++ lines_of (codes "CUTS") names cs in
          let back = items_back names rest (length before) r call.labels ok (omega arith) (omega arith) (lines_stop names ps cs) short call.reads in
          let whole : after ≡ places_from 0 names =
          call.filled ∙ ap (λ (z : List Bytes). places_from 0 z ++ drop (length z) before) back.1
          ∙ ap (λ (z : List LabelPlace). places_from 0 names ++ z) (drop_all (length names) before (omega arith)) ∙ append-nil (places_from 0 names) in
          let long : length after ≡ length names = ap length whole ∙ length_places 0 names in
          let are : names_of (sheet_text names ps cs) (length names) after ≡ call.labels =
          subst (λ (z : Result ℕ ItemsFault). IfOk z (λ k. names_of (sheet_text names ps cs) k after ≡ call.labels)) back.0 call.names in (
            back.0 ∙ ap (λ (k : ℕ). Ok k) counted,
            ap (map (named (sheet_text names ps cs))) (sym (take_all (length names) after (omega arith))) ∙ are ∙ back.1,
          )

pub reads_back : (holds : Numbers → Type 0) (less : (s t : Numbers) → holds s → Within t s → holds t) (n a b : ℕ) (names : List Bytes) (ps cs : List Numbers) → 1 ≤ n → n ≤ 256 → length names ≡ n → Accepted names
    → Sound n a holds ps → Sound n b holds cs → length (sheet_text names ps cs) ≤ 65535 → ReadsBack n a b holds names ps cs (sheet_text names ps cs)
reads_back holds less n a b names ps cs pos small counted ok paths cuts short = record {
  labels = labels_kept holds less n a b names pos small counted ok ps cs paths cuts short;
  rows = rows_back holds less n a b names pos small counted ok ps cs paths cuts short;
}
