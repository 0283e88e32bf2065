-- The loop that puts the rows of a text.
use Rattle.std.proofs.Common.{◌≡◌, ℕ, ◌+◌, ◌<◌, List, [], ◌∷◌, ◌++◌, length, codes, Ok, Err, Result, append_assoc, sym, refl, ap, ◌∙◌, subst, arith, add-zero, length-append}
use Rattle.std.proofs.lemmas.List.{length_push}
use Rattle.sets.specs.Sets.{Numbers}
use Rattle.tables.specs.Refusals.{answered}
use Rattle.tables.specs.Calls.{Puts}
use Rattle.sheets.specs.Bytes.{Bytes, Feedless, Labels}
use Rattle.sheets.specs.Looks.{Looked}
use Rattle.sheets.specs.RowPuts.{RowPut, row_put, row_lost, row_refused}
use Rattle.sheets.specs.Rows.{RowLine, path_row, cuts_row, labels_of, line_of, rows_text, RowFronts, Run, run_none, run_path, run_cuts, RowsEnd, end_unformed, end_lost, end_path, end_cuts, RowsRead, LinePut, line_unformed, line_path, line_cuts, passed}
use Rattle.sheets.specs.declared.putting.RowFault.{RowFault}
use Rattle.sheets.specs.declared.rows_fault.RowsFault.{RowsFault}
use Rattle.sheets.specs.declared.rows_fault.RowsFault.TheVariants.{Unformed}
use Rattle.sheets.proofs.RowFronting.{no_rows, no_feed_rows}

rows_push : (rs : List RowLine) (r : RowLine) → rows_text (rs ++ r ∷ []) ≡ rows_text rs ++ (line_of r ++ (10 ∷ []))
rows_push [] r = refl
rows_push (q ∷ rs) r = ap (λ (z : Bytes). line_of q ++ (10 ∷ z)) (rows_push rs r) ∙ sym (append_assoc (line_of q) (10 ∷ rows_text rs) (line_of r ++ (10 ∷ [])))

module _ (n a b : ℕ) (holds : Numbers → Type 0) (names : List Bytes) where
  push_path : (ps cs qs ds us : List Numbers) (rs : List RowLine) (ls : List Bytes) (ks : List ℕ) (many : ℕ) → Run n a b holds names ps cs rs qs ds → Labels ls → Looked names ls ks
      → Puts n a holds qs ks (answered many) us → Run n a b holds names ps cs (rs ++ path_row ls ∷ []) us ds
  push_path ps cs qs ds us rs ls ks many (run_none x y) f l p = run_path x y us us y ls ks many [] f l p (run_none us y)
  push_path ps cs qs ds us rs ls ks many (run_path x y w z e ms js m ts g i q more) f l p = run_path x y w us e ms js m (ts ++ path_row ls ∷ []) g i q (push_path w y z e us ts ls ks many more f l p)
  push_path ps cs qs ds us rs ls ks many (run_cuts x y w z e ms js m ts g i q more) f l p = run_cuts x y w us e ms js m (ts ++ path_row ls ∷ []) g i q (push_path x w z e us ts ls ks many more f l p)

  push_cuts : (ps cs qs ds us : List Numbers) (rs : List RowLine) (ls : List Bytes) (ks : List ℕ) (many : ℕ) → Run n a b holds names ps cs rs qs ds → Labels ls → Looked names ls ks
      → Puts n b holds ds ks (answered many) us → Run n a b holds names ps cs (rs ++ cuts_row ls ∷ []) qs us
  push_cuts ps cs qs ds us rs ls ks many (run_none x y) f l p = run_cuts x y us x us ls ks many [] f l p (run_none x us)
  push_cuts ps cs qs ds us rs ls ks many (run_path x y w z e ms js m ts g i q more) f l p = run_path x y w z us ms js m (ts ++ cuts_row ls ∷ []) g i q (push_cuts w y z e us ts ls ks many more f l p)
  push_cuts ps cs qs ds us rs ls ks many (run_cuts x y w z e ms js m ts g i q more) f l p = run_cuts x y w z us ms js m (ts ++ cuts_row ls ∷ []) g i q (push_cuts x w z e us ts ls ks many more f l p)

  module _ (text : Bytes) (first : ℕ) (ps cs : List Numbers) where
    -- the rows before `rest` are put
    pub record RowsGoing (rest : Bytes) (nth : ℕ) (qs ds : List Numbers) : Type 0 where
      pub rows : List RowLine
      pub run : Run n a b holds names ps cs rows qs ds
      pub parts : text ≡ rows_text rows ++ rest
      pub number : nth ≡ first + length rows

    pub rows_start : RowsGoing text first ps cs
    rows_start = record { rows = []; run = run_none ps cs; parts = refl; number = sym (add-zero first) }

    pub rows_end : (rest : Bytes) (nth : ℕ) (qs ds us vs : List Numbers) (r : Result (Unit {0}) RowsFault) → RowsGoing rest nth qs ds → RowsEnd n a b holds names qs ds rest nth r us vs
        → RowsRead n a b holds names text first ps cs r us vs
    rows_end rest nth qs ds us vs r g e = record {
      rows = g.rows;
      rest = rest;
      parts = g.parts;
      us = qs;
      vs = ds;
      run = g.run;
      end = subst (λ (k : ℕ). RowsEnd n a b holds names qs ds rest k r us vs) g.number e;
    }

    module _ (rest line after : Bytes) (nth : ℕ) (qs ds : List Numbers) (g : RowsGoing rest nth qs ds) (e : rest ≡ line ++ (10 ∷ after)) where
      row_step : (us vs : List Numbers) (r : RowLine) → line ≡ line_of r → Run n a b holds names ps cs (g.rows ++ r ∷ []) us vs → RowsGoing after (nth + 1) us vs
      row_step us vs r is run =
          let long = length_push g.rows r in
          let number = g.number in
          record {
            rows = g.rows ++ r ∷ [];
            run = run;
            parts = g.parts ∙ ap (λ (z : Bytes). rows_text g.rows ++ z) (e ∙ ap (λ (z : Bytes). z ++ (10 ∷ after)) is ∙ sym (append_assoc (line_of r) (10 ∷ []) after))
                ∙ sym (append_assoc (rows_text g.rows) (line_of r ++ (10 ∷ [])) after) ∙ ap (λ (z : Bytes). z ++ after) (sym (rows_push g.rows r));
            number = omega arith;
          }

      row_front : (r : RowLine) → Labels (labels_of r) → line ≡ line_of r → RowFronts rest r
      row_front r formed is = (formed, (after, e ∙ ap (λ (z : Bytes). z ++ (10 ∷ after)) is ∙ sym (append_assoc (line_of r) (10 ∷ []) after)))

      path_step : (row : Bytes) (s : Result (Unit {0}) RowFault) (us : List Numbers) → Ok tt ≡ passed nth s → line ≡ codes "PATH" ++ row → RowPut n a holds names row qs s us → RowsGoing after (nth + 1) us ds
      path_step row s us ok is (row_put ls ks many ts f r l p) = row_step us ds (path_row ls) (is ∙ ap (λ (z : Bytes). codes "PATH" ++ z) r) (push_path ps cs qs ds us g.rows ls ks many g.run f l p)
      path_step row s us ok is (row_lost l) = absurd (cc)
      path_step row s us ok is (row_refused ls ks t ts f r l p) = absurd (cc)

      cuts_step : (row : Bytes) (s : Result (Unit {0}) RowFault) (us : List Numbers) → Ok tt ≡ passed nth s → line ≡ codes "CUTS" ++ row → RowPut n b holds names row ds s us → RowsGoing after (nth + 1) qs us
      cuts_step row s us ok is (row_put ls ks many ts f r l p) = row_step qs us (cuts_row ls) (is ∙ ap (λ (z : Bytes). codes "CUTS" ++ z) r) (push_cuts ps cs qs ds us g.rows ls ks many g.run f l p)
      cuts_step row s us ok is (row_lost l) = absurd (cc)
      cuts_step row s us ok is (row_refused ls ks t ts f r l p) = absurd (cc)

      pub line_step : (us vs : List Numbers) → LinePut n a b holds names line nth qs ds (Ok tt) us vs → RowsGoing after (nth + 1) us vs
      line_step us vs (line_unformed bad other) = absurd (cc)
      line_step us vs (line_path row s ts ok is p) = path_step row s us ok is p
      line_step us vs (line_cuts row s ts ok is p) = cuts_step row s vs ok is p

      path_refused : (row : Bytes) (s : Result (Unit {0}) RowFault) (fault : RowsFault) (us : List Numbers) → Err fault ≡ passed nth s → line ≡ codes "PATH" ++ row → RowPut n a holds names row qs s us
          → RowsEnd n a b holds names qs ds rest nth (Err fault) us ds
      path_refused row s fault us bad is (row_put ls ks many ts f r l p) = absurd (cc)
      path_refused row s fault us bad is (row_lost l) = rw bad (end_lost (path_row l.labels) (row_front (path_row l.labels) l.formed (is ∙ ap (λ (z : Bytes). codes "PATH" ++ z) l.parts)) l.place l.there l.absent)
      path_refused row s fault us bad is (row_refused ls ks t ts f r l p) = rw bad (end_path ls ks t us (row_front (path_row ls) f (is ∙ ap (λ (z : Bytes). codes "PATH" ++ z) r)) l p)

      cuts_refused : (row : Bytes) (s : Result (Unit {0}) RowFault) (fault : RowsFault) (us : List Numbers) → Err fault ≡ passed nth s → line ≡ codes "CUTS" ++ row → RowPut n b holds names row ds s us
          → RowsEnd n a b holds names qs ds rest nth (Err fault) qs us
      cuts_refused row s fault us bad is (row_put ls ks many ts f r l p) = absurd (cc)
      cuts_refused row s fault us bad is (row_lost l) = rw bad (end_lost (cuts_row l.labels) (row_front (cuts_row l.labels) l.formed (is ∙ ap (λ (z : Bytes). codes "CUTS" ++ z) l.parts)) l.place l.there l.absent)
      cuts_refused row s fault us bad is (row_refused ls ks t ts f r l p) = rw bad (end_cuts ls ks t us (row_front (cuts_row ls) f (is ∙ ap (λ (z : Bytes). codes "CUTS" ++ z) r)) l p)

      pub line_refused : Feedless line → (fault : RowsFault) (us vs : List Numbers) → LinePut n a b holds names line nth qs ds (Err fault) us vs → RowsEnd n a b holds names qs ds rest nth (Err fault) us vs
      line_refused plain fault us vs (line_unformed bad other) = rw bad (end_unformed (λ z. let l = ap length (sym z ∙ e) in let a = length-append line (10 ∷ after) in omega arith) (no_rows rest line after plain e other))
      line_refused plain fault us vs (line_path row s ts bad is p) = path_refused row s fault us bad is p
      line_refused plain fault us vs (line_cuts row s ts bad is p) = cuts_refused row s fault vs bad is p

    pub feed_refused : (rest : Bytes) (nth : ℕ) (qs ds : List Numbers) → 0 < length rest → Feedless rest → RowsEnd n a b holds names qs ds rest nth (Err (Unformed nth)) qs ds
    feed_refused rest nth qs ds some plain = end_unformed (λ z. let l = ap length z in omega arith) (no_feed_rows rest plain)
