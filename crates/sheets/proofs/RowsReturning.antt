-- Rows come back from the text that is written of them.
use Rattle.std.proofs.Common.{◌≡◌, ℕ, suc, ◌+◌, ◌<◌, ◌≤◌, List, [], ◌∷◌, ◌++◌, length, get_or, codes, Ok, append_assoc, sym, refl, ap, ◌∙◌, subst, arith}
use Rattle.std.proofs.lemmas.List.{append-nil}
use Rattle.sets.specs.Sets.{Numbers}
use Rattle.sheets.specs.Bytes.{Bytes, Label, item_line, items_text}
use Rattle.sheets.specs.Lines.{Begins}
use Rattle.sheets.specs.Rows.{RowLine, path_row, cuts_row, rows_text, RowsRead, end_all}
use Rattle.sheets.specs.RowsCalls.{RowsComeBack, rows_read}
use Rattle.sheets.specs.Skips.{Skips, skip_stop, skip_line}
use Rattle.sheets.proofs.Fronting.{item_plain}
use Rattle.sheets.proofs.OneReading.{one_reading}
use Rattle.sheets.proofs.Parses.{item_bytes}

skips_items : (k : ℕ) (ls : List Bytes) (rest : Bytes) → k + length ls ≤ 1000 → ((i : ℕ) → i < length ls → Label (get_or ls i [])) → (Begins rest (codes "ITEM") → ⊥) → Skips (items_text k ls ++ rest) (length ls) rest
skips_items k [] rest h a st = skip_stop st refl refl
skips_items k (l ∷ ls) rest h a st =
    let small : k < 1000 = omega arith in
    let e = append_assoc (item_line k l) (10 ∷ items_text (suc k) ls) rest in
    let b = e ∙ ap (λ (z : Bytes). z ++ (10 ∷ (items_text (suc k) ls ++ rest))) (item_bytes k l small) in
    skip_line (item_line k l) (items_text (suc k) ls ++ rest) (length ls) (_, b) (item_plain k l small (a 0 (omega arith))) e (omega arith)
    (skips_items (suc k) ls rest (omega arith) (λ i h. a (suc i) (omega arith)) st)

rows_no_item : (rs : List RowLine) → Begins (rows_text rs) (codes "ITEM") → ⊥
rows_no_item [] (t, e) = absurd (cc)
rows_no_item (path_row ls ∷ rs) (t, e) = let z : ◌≡◌ {A = ℕ} 80 73 = cc in omega arith
rows_no_item (cuts_row ls ∷ rs) (t, e) = let z : ◌≡◌ {A = ℕ} 67 73 = cc in omega arith

pub rows_come_back : (holds : Numbers → Type 0) → RowsComeBack holds
rows_come_back holds n a b ls rs places ps cs us vs qs ds r ok counts named_ls short run call =
    let text = items_text 0 ls ++ rows_text rs in
    let few = ok.few in
    let skips = skips_items 0 ls (rows_text rs) (omega arith) ok.labels (rows_no_item rs) in
    let reads : RowsRead n a b holds ls (rows_text rs) (length ls + 1) ps cs (Ok tt) us vs =
    record { rows = rs; rest = []; parts = sym (append-nil (rows_text rs)); us = us; vs = vs; run = run; end = end_all refl } in
    let all = rows_read (length ls) (rows_text rs) (Ok tt) us vs counts short skips (subst (λ (z : List Bytes). RowsRead n a b holds z (rows_text rs) (length ls + 1) ps cs (Ok tt) us vs) (sym named_ls) reads) in
    one_reading holds n n a b text places ps cs r (Ok tt) qs ds us vs call all
