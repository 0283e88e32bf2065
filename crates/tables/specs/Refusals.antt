-- Refusals: each has its number and the values that come with it. Assumes nothing.
use Rattle.std.specs.Prelude.{ℕ, List, [], ◌∷◌, ◌++◌, codes, Ok, Err, Result}
use Rattle.std.specs.Fmt.{decimal}
use Rattle.std.specs.Borrow.{Bor}
use Rattle.sets.specs.Sets.{Numbers}
use Rattle.tables.specs.declared.fault.TableFault.{TableFault}
use Rattle.tables.specs.declared.fault.TableFault.TheVariants.{ItemCount, NoSuchItem, Repeated, CannotHold, Contains, Full, NoSuchRow}

pub record Refusal : Type 0 where
  pub number : ℕ
  pub values : List ℕ

-- what a call replies: an answer, or a refusal's number and values
pub data Reply (Answer : Type 0) : Type 0 where
  answered : Answer → Reply Answer
  refused : ℕ → List ℕ → Reply Answer

abbrev pub reply : {Answer Fault : Type 0} → (Fault → Refusal) → Result Answer Fault → Reply Answer
reply refusal (Ok a) = answered a
reply refusal (Err f) = refused (refusal f).number (refusal f).values

-- the refusals of a table
abbrev pub table_refusal : TableFault → Refusal
table_refusal (ItemCount count) = record { number = 1; values = count ∷ [] }
table_refusal (NoSuchItem place) = record { number = 2; values = place ∷ [] }
table_refusal (Repeated place) = record { number = 3; values = place ∷ [] }
table_refusal (CannotHold place) = record { number = 4; values = place ∷ [] }
table_refusal (Contains row) = record { number = 5; values = row ∷ [] }
table_refusal (Full capacity) = record { number = 6; values = capacity ∷ [] }
table_refusal (NoSuchRow count) = record { number = 7; values = count ∷ [] }

-- what a refusal of a table says, with its value
abbrev pub table_text : TableFault → List ℕ
table_text (ItemCount count) = codes "item count " ++ decimal count
table_text (NoSuchItem place) = codes "no such item, at place " ++ decimal place
table_text (Repeated place) = codes "an item a second time, at place " ++ decimal place
table_text (CannotHold place) = codes "more than the kind can hold, at place " ++ decimal place
table_text (Contains row) = codes "it contains row " ++ decimal row
table_text (Full capacity) = codes "no free place, capacity " ++ decimal capacity
table_text (NoSuchRow count) = codes "no such row, row count " ++ decimal count

abbrev pub table_reply : {Answer : Type 0} → Result Answer TableFault → Reply Answer
table_reply = reply table_refusal

-- what a call that shows a row replies: the set that the row means
abbrev pub shown : {X : Type 0} → (X → Numbers) → Result (Bor X) TableFault → Reply Numbers
shown mem (Ok x) = answered (mem x.now)
shown mem (Err f) = table_reply {Answer = Numbers} (Err f)
