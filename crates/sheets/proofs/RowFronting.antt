-- The row that a line holds, and the row that stands in front of a text.
use Rattle.std.proofs.Common.{◌≡◌, ◌≢◌, ℕ, List, [], ◌∷◌, ◌++◌, codes, sym, refl, ◌∙◌, MatchResult, Ok, Err, Result, append_assoc, arith}
use Rattle.sheets.specs.Bytes.{Bytes, Feedless, Labels, spaced, item_line}
use Rattle.sheets.specs.Lines.{Unformed}
use Rattle.sheets.specs.Rows.{RowLine, path_row, cuts_row, labels_of, line_of, RowFronts, passed}
use Rattle.sheets.proofs.Fronting.{NoFeed, Whole, whole_each, each_whole, label_plain, feed_apart, line_same}
use Rattle.sheets.specs.RowsFaults.{at_line}
use Rattle.sheets.specs.declared.putting.RowFault.{RowFault}
use Rattle.sheets.specs.declared.rows_fault.RowsFault.{RowsFault}

pub unformed_rows : (line : Bytes) → Unformed line → (r : RowLine) → Labels (labels_of r) → line ≢ line_of r
unformed_rows line u (path_row ls) a e = u.no_path (spaced ls) (ls, a, refl) e
unformed_rows line u (cuts_row ls) a e = u.no_cuts (spaced ls) (ls, a, refl) e

pub item_rows : (line : Bytes) (n : ℕ) (l : Bytes) → line ≡ item_line n l → (r : RowLine) → Labels (labels_of r) → line ≢ line_of r
unfolding item_line
item_rows line n l f (path_row ls) a e = let z : ◌≡◌ {A = ℕ} 73 80 = cc (sym f ∙ e) in omega arith
item_rows line n l f (cuts_row ls) a e = let z : ◌≡◌ {A = ℕ} 73 67 = cc (sym f ∙ e) in omega arith

pub passed_on : (nth : ℕ) (s : Result (Unit {0}) RowFault) (r : Result (Unit {0}) RowsFault) → MatchResult s (λ x. r ≡ Ok tt) (λ f. r ≡ Err (at_line nth f)) → r ≡ passed nth s
passed_on nth (Ok x) r e = e
passed_on nth (Err f) r e = e

-- ---- the row in front of a text

whole_append : (P : ℕ → Type 0) (l m : Bytes) → Whole P l → Whole P m → Whole P (l ++ m)
whole_append P [] m a b = b
whole_append P (x ∷ l) m a b = (a.0, whole_append P l m a.1 b)

spaced_whole : (ls : List Bytes) → Labels ls → Whole NoFeed (spaced ls)
spaced_whole [] a = tt
spaced_whole (l ∷ ls) a = ((λ e. omega arith), whole_append NoFeed l (spaced ls) (each_whole NoFeed l (label_plain l a.0)) (spaced_whole ls a.1))

pub row_plain : (r : RowLine) → Labels (labels_of r) → Feedless (line_of r)
row_plain (path_row ls) a = whole_each NoFeed (codes "PATH" ++ spaced ls) ((λ e. omega arith), ((λ e. omega arith), ((λ e. omega arith), ((λ e. omega arith), spaced_whole ls a))))
row_plain (cuts_row ls) a = whole_each NoFeed (codes "CUTS" ++ spaced ls) ((λ e. omega arith), ((λ e. omega arith), ((λ e. omega arith), ((λ e. omega arith), spaced_whole ls a))))

pub row_parts : (rest : Bytes) (r : RowLine) (f : RowFronts rest r) → rest ≡ line_of r ++ (10 ∷ f.1.0)
row_parts rest r (a, (after, e)) = e ∙ append_assoc (line_of r) (10 ∷ []) after

-- where the line in front holds no row
pub no_rows : (rest line after : Bytes) → Feedless line → rest ≡ line ++ (10 ∷ after) → ((r : RowLine) → Labels (labels_of r) → line ≢ line_of r) → (r : RowLine) → RowFronts rest r → ⊥
no_rows rest line after plain parts bad r f = bad r f.0 (line_same line (line_of r) _ _ plain (row_plain r f.0) (sym parts ∙ row_parts rest r f)).0

-- where no line feed ends it
pub no_feed_rows : (rest : Bytes) → Feedless rest → (r : RowLine) → RowFronts rest r → ⊥
no_feed_rows rest plain r f = feed_apart rest (line_of r) f.1.0 plain (row_parts rest r f)
