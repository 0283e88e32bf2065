-- The call that answers the report of a text. Assumes nothing.
--
--   Lent m          the memory has 256 places for labels, and 1,000 for the rows of each table
--   report_code r   the length of what is printed; -1 where it has no room
--   ReportCall      what is printed for the text, over `before`: the answer is `code`
use Rattle.std.specs.Prelude.{◌≡◌, ℤ, pos, negsuc, length, Ok, Err, Result}
use Rattle.sheets.specs.Bytes.{Bytes}
use Rattle.writing.specs.Answers.{Memory, AnswerCall}
use Rattle.writing.specs.declared.answer.Answer.{Answer}
use Rattle.writing.specs.declared.fault.WriteFault.{WriteFault}

pub record Lent (m : Memory) : Type 0 where
  pub labels : length m.labels ≡ 256
  pub word_paths : length m.word_paths ≡ 1000
  pub word_cuts : length m.word_cuts ≡ 1000
  pub list_paths : length m.list_paths ≡ 1000
  pub list_cuts : length m.list_cuts ≡ 1000

abbrev pub report_code : Result Answer WriteFault → ℤ
report_code (Ok answer) = pos answer.len
report_code (Err fault) = negsuc 0

pub record ReportCall (text before : Bytes) (code : ℤ) (after : Bytes) : Type 0 where
  pub memory : Memory
  pub left : Memory
  pub lent : Lent memory
  pub answer : Result Answer WriteFault
  pub call : AnswerCall text (length before) memory left before answer after
  pub code_is : code ≡ report_code answer
