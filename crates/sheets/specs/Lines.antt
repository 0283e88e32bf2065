-- A line of a sheet text taken apart. Assumes nothing.
--
--   Ended text at line   a line feed ends the line that begins at `at`
--   Begins s head        s begins with the bytes of the head
--   IsItem n l line      it is the ITEM line of the number n and the label l
--   Says v line          what the value v of a line says of its bytes
--   NoItem line          no number and label have these bytes
--   NoRow head line      no row behind that head has these bytes
--   Unformed line        no value of a line has these bytes
use Rattle.std.specs.Prelude.{◌≡◌, ◌≢◌, ℕ, ◌+◌, ◌<◌, ◌∷◌, ◌++◌, length, drop, codes}
use Rattle.sheets.specs.Bytes.{Bytes, Feedless, Label, Row, item_line}
use Rattle.sheets.specs.declared.split.SplitFault.{SplitFault}
use Rattle.sheets.specs.declared.split.SplitFault.TheVariants.{Unended}
use Rattle.sheets.specs.declared.line.LineFault.{LineFault}
use Rattle.sheets.specs.declared.line.LineFault.TheVariants.{Bad}
use Rattle.sheets.specs.declared.line.Line.{Line}
use Rattle.sheets.specs.declared.line.Line.TheVariants.{Item, Path, Cuts}

pub record Ended (text : Bytes) (at : ℕ) (line : Bytes) : Type 0 where
  pub parts : drop at text ≡ line ++ (10 ∷ drop (at + length line + 1) text)
  pub fits : at + length line < length text
  pub plain : Feedless line

abbrev pub Begins : Bytes → Bytes → Type 0
Begins s head = (rest : Bytes) × (s ≡ head ++ rest)

abbrev pub IsItem : ℕ → Bytes → Bytes → Type 0
IsItem n l line = (n < 1000) × Label l × (line ≡ item_line n l)

abbrev pub Says : Line → Bytes → Type 0
Says (Item n l) line = IsItem n l.now line
Says (Path s) line = Row s.now × (line ≡ codes "PATH" ++ s.now)
Says (Cuts s) line = Row s.now × (line ≡ codes "CUTS" ++ s.now)

abbrev pub NoItem : Bytes → Type 0
NoItem line = (n : ℕ) (l : Bytes) → n < 1000 → Label l → line ≢ item_line n l

abbrev pub NoRow : Bytes → Bytes → Type 0
NoRow head line = (s : Bytes) → Row s → line ≢ head ++ s

pub record Unformed (line : Bytes) : Type 0 where
  pub no_item : NoItem line
  pub no_path : NoRow (codes "PATH") line
  pub no_cuts : NoRow (codes "CUTS") line

-- how the fault of the splitter is passed on
abbrev pub line_fault : SplitFault → LineFault
line_fault (Unended nth) = Bad nth
