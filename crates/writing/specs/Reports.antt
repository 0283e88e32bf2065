-- The report of an audit, and the STOP line. Assumes nothing.
--
--   rows_line cuts paths   the line ROWS with the numbers of cuts and of paths
--   mark b                 how an item is marked that is up or down
--   state_line b k l       the line of item k and its label l
--   state_lines s k ls     a line for each item, of which the labels are ls and which are numbered from k on, with its mark in the state s
--   shown_lines names v    the lines of the state that the verdict shows; none if it shows none
--   verdict_lines names v  the line of the verdict, and those
--   report_text            the whole report
--   IsReport n names ps cs bs   bs is the report of an audit of the rows ps and cs
--   stop_text number line  the STOP line of a refusal and its line, which is 0 if there is none
use Rattle.std.specs.Prelude.{◌≡◌, ℕ, suc, Bool, if◌then◌else◌, List, [], ◌∷◌, ◌++◌, length, codes}
use Rattle.sets.specs.Sets.{Numbers}
use Rattle.systems.specs.States.{up}
use Rattle.duality.specs.Verdicts.{Audited, verdict_word}
use Rattle.duality.specs.declared.verdict.Verdict.{Verdict}
use Rattle.duality.specs.declared.verdict.Verdict.TheVariants.{Same, Miss, Both}
use Rattle.sheets.specs.Bytes.{Bytes}
use Rattle.writing.specs.Columns.{shown}

abbrev pub rows_line : ℕ → ℕ → Bytes
rows_line cuts paths = codes "ROWS " ++ (shown 5 cuts ++ (32 ∷ (shown 5 paths ++ (10 ∷ []))))

abbrev pub mark : Bool → Bytes
mark b = if b then codes "  UP" else codes "DOWN"

abbrev pub state_line : Bool → ℕ → Bytes → Bytes
state_line b k l = mark b ++ (32 ∷ (shown 3 k ++ (32 ∷ (l ++ (10 ∷ [])))))

abbrev pub state_lines : Numbers → ℕ → List Bytes → Bytes
state_lines s k [] = []
state_lines s k (l ∷ ls) = state_line (s k) k l ++ state_lines s (suc k) ls

abbrev pub shown_lines : List Bytes → Verdict → Bytes
shown_lines names Same = []
shown_lines names (Miss s) = state_lines (up s) 0 names
shown_lines names (Both s) = state_lines (up s) 0 names

abbrev pub verdict_lines : List Bytes → Verdict → Bytes
verdict_lines names v = verdict_word v ++ (10 ∷ shown_lines names v)

abbrev pub report_text : List Bytes → ℕ → ℕ → Verdict → Bytes
report_text names paths cuts v = rows_line cuts paths ++ verdict_lines names v

pub record IsReport (n : ℕ) (names : List Bytes) (ps cs : List Numbers) (bs : Bytes) : Type 0 where
  pub verdict : Verdict
  pub audited : Audited n ps cs verdict
  pub text : bs ≡ report_text names (length ps) (length cs) verdict

abbrev pub stop_text : ℕ → ℕ → Bytes
stop_text number line = codes "STOP " ++ (shown 3 number ++ (32 ∷ (shown 5 line ++ (10 ∷ []))))
