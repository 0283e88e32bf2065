-- The rows of a text, and the putting of them into a path table and a cut table. Assumes nothing.
--
-- The tables have n items and the capacities a and b, and the items have the names `names`.
--
--   RowLine          a row as a text has it: by its labels
--   line_of r        its line, without the line feed
--   rows_text rs     the lines of the rows rs
--   RowFronts rest r the line of r stands in front of `rest`
--   Run ps cs rs qs ds   the rows rs are put one after the other, and the tables have then the rows qs and ds in place of ps and cs
--   RowsEnd          how it ends where `rest` is left, whose first line has the number nth: at the end of the text, or with the
--                    refusal of that line
--   RowsRead         both: what the reading of a text replies whose first line has the number nth
--   LinePut          what the line of the number nth replies
use Rattle.std.specs.Prelude.{◌≡◌, ◌≢◌, ℕ, ◌+◌, ◌<◌, List, [], ◌∷◌, ◌++◌, length, slice_index_or, codes, Ok, Err, Result}
use Rattle.sets.specs.Sets.{Numbers}
use Rattle.tables.specs.Refusals.{answered, refused, table_refusal}
use Rattle.tables.specs.Calls.{Puts}
use Rattle.tables.specs.declared.fault.TableFault.{TableFault}
use Rattle.sheets.specs.Bytes.{Bytes, Labels, spaced}
use Rattle.sheets.specs.Labels.{Absent}
use Rattle.sheets.specs.Lines.{Begins}
use Rattle.sheets.specs.Looks.{Looked}
use Rattle.sheets.specs.RowPuts.{RowPut}
use Rattle.sheets.specs.RowsFaults.{at_line}
use Rattle.sheets.specs.declared.putting.RowFault.{RowFault}
use Rattle.sheets.specs.declared.rows_fault.RowsFault.{RowsFault}
use Rattle.sheets.specs.declared.rows_fault.RowsFault.TheVariants.{Unformed, NoItem, Put}

pub data RowLine : Type 0 where
  path_row : List Bytes → RowLine
  cuts_row : List Bytes → RowLine

abbrev pub labels_of : RowLine → List Bytes
labels_of (path_row ls) = ls
labels_of (cuts_row ls) = ls

abbrev pub head_of : RowLine → Bytes
head_of (path_row ls) = codes "PATH"
head_of (cuts_row ls) = codes "CUTS"

abbrev pub line_of : RowLine → Bytes
line_of r = head_of r ++ spaced (labels_of r)

abbrev pub rows_text : List RowLine → Bytes
rows_text [] = []
rows_text (r ∷ rs) = line_of r ++ (10 ∷ rows_text rs)

abbrev pub RowFronts : Bytes → RowLine → Type 0
RowFronts rest r = Labels (labels_of r) × Begins rest (line_of r ++ (10 ∷ []))

module _ (n a b : ℕ) (holds : Numbers → Type 0) (names : List Bytes) where
  pub data Run : List Numbers → List Numbers → List RowLine → List Numbers → List Numbers → Type 0 where
    run_none : (ps cs : List Numbers) → Run ps cs [] ps cs
    run_path : (ps cs us qs ds : List Numbers) (ls : List Bytes) (ks : List ℕ) (many : ℕ) (rs : List RowLine) → Labels ls → Looked names ls ks
        → Puts n a holds ps ks (answered many) us → Run us cs rs qs ds → Run ps cs (path_row ls ∷ rs) qs ds
    run_cuts : (ps cs us qs ds : List Numbers) (ls : List Bytes) (ks : List ℕ) (many : ℕ) (rs : List RowLine) → Labels ls → Looked names ls ks
        → Puts n b holds cs ks (answered many) us → Run ps us rs qs ds → Run ps cs (cuts_row ls ∷ rs) qs ds

  pub data RowsEnd (ps cs : List Numbers) (rest : Bytes) (nth : ℕ) : Result (Unit {0}) RowsFault → List Numbers → List Numbers → Type 0 where
    end_all : rest ≡ [] → RowsEnd ps cs rest nth (Ok tt) ps cs
    end_unformed : rest ≢ [] → ((r : RowLine) → RowFronts rest r → ⊥) → RowsEnd ps cs rest nth (Err (Unformed nth)) ps cs
    end_lost : (r : RowLine) → RowFronts rest r → (i : ℕ) → i < length (labels_of r) → Absent names (slice_index_or (labels_of r) i [])
        → RowsEnd ps cs rest nth (Err (NoItem nth)) ps cs
    end_path : (ls : List Bytes) (ks : List ℕ) (fault : TableFault) (qs : List Numbers) → RowFronts rest (path_row ls) → Looked names ls ks
        → Puts n a holds ps ks (refused (table_refusal fault).number (table_refusal fault).values) qs → RowsEnd ps cs rest nth (Err (Put fault nth)) qs cs
    end_cuts : (ls : List Bytes) (ks : List ℕ) (fault : TableFault) (ds : List Numbers) → RowFronts rest (cuts_row ls) → Looked names ls ks
        → Puts n b holds cs ks (refused (table_refusal fault).number (table_refusal fault).values) ds → RowsEnd ps cs rest nth (Err (Put fault nth)) ps ds

  pub record RowsRead (text : Bytes) (nth : ℕ) (ps cs : List Numbers) (r : Result (Unit {0}) RowsFault) (qs ds : List Numbers) : Type 0 where
    pub rows : List RowLine
    pub rest : Bytes
    pub parts : text ≡ rows_text rows ++ rest
    pub us : List Numbers
    pub vs : List Numbers
    pub run : Run ps cs rows us vs
    pub end : RowsEnd us vs rest (nth + length rows) r qs ds

-- the result for a row, and for its line
abbrev pub passed : ℕ → Result (Unit {0}) RowFault → Result (Unit {0}) RowsFault
passed nth (Ok x) = Ok tt
passed nth (Err fault) = Err (at_line nth fault)

pub data LinePut (n a b : ℕ) (holds : Numbers → Type 0) (names : List Bytes) (line : Bytes) (nth : ℕ) (ps cs : List Numbers) (r : Result (Unit {0}) RowsFault) : List Numbers → List Numbers → Type 0 where
  line_unformed : r ≡ Err (Unformed nth) → ((q : RowLine) → Labels (labels_of q) → line ≢ line_of q) → LinePut n a b holds names line nth ps cs r ps cs
  line_path : (row : Bytes) (s : Result (Unit {0}) RowFault) (qs : List Numbers) → r ≡ passed nth s → line ≡ codes "PATH" ++ row → RowPut n a holds names row ps s qs → LinePut n a b holds names line nth ps cs r qs cs
  line_cuts : (row : Bytes) (s : Result (Unit {0}) RowFault) (ds : List Numbers) → r ≡ passed nth s → line ≡ codes "CUTS" ++ row → RowPut n b holds names row cs s ds → LinePut n a b holds names line nth ps cs r ps ds
