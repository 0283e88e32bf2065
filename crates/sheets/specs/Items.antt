-- What the first reading call answers, and what it leaves in the label places. Assumes nothing.
--
--   places_from at ls          where the labels ls stand, if their ITEM lines begin at `at`
--   Accepted ls                the labels of items that may stand in one text
--   Stops rest                 the items end where `rest` is left
--   Fronts n rest l            the ITEM line of number n and label l stands in front
--   Answers places ls rest r   the answer r, where the lines of the items ls are read and `rest` is left
--   Filled before after ls     the places hold where the labels ls stand, and behind them what was there
--   ItemsCall                  the whole call
--   ItemAt text at n l         at `at` stands the ITEM line of number n and label l
--   Taken, Refused             a further item is to be read, or its line is refused
use Rattle.std.specs.Prelude.{◌≡◌, ◌≢◌, ℕ, ◌+◌, ◌<◌, ◌≤◌, ◌⊎◌, List, [], ◌∷◌, ◌++◌, map, length, take, drop, slice_index_or, codes, Ok, Err, Result, IfOk}
use Rattle.sheets.specs.Bytes.{Bytes, Label, item_line, items_text}
use Rattle.sheets.specs.Lines.{Begins}
use Rattle.sheets.specs.Labels.{named, Absent, First}
use Rattle.sheets.specs.declared.place.LabelPlace.{LabelPlace}
use Rattle.sheets.specs.declared.items_fault.ItemsFault.{ItemsFault}
use Rattle.sheets.specs.declared.items_fault.ItemsFault.TheVariants.{ItemCount, NoPlace, TooLong, Unformed, Repeated}

abbrev pub places_from : ℕ → List Bytes → List LabelPlace
places_from at [] = []
places_from at (l ∷ ls) = record { start = at + 9; len = length l } ∷ places_from (at + 10 + length l) ls

pub record Accepted (ls : List Bytes) : Type 0 where
  pub labels : (i : ℕ) → i < length ls → Label (slice_index_or ls i [])
  pub apart : (i j : ℕ) → i < j → j < length ls → slice_index_or ls i [] ≢ slice_index_or ls j []
  pub few : length ls ≤ 256

abbrev pub Stops : Bytes → Type 0
Stops rest = (rest ≡ []) ⊎ (Begins rest (codes "PATH") ⊎ Begins rest (codes "CUTS"))

abbrev pub Fronts : ℕ → Bytes → Bytes → Type 0
Fronts n rest l = Label l × Begins rest (item_line n l ++ (10 ∷ []))

pub data Answers (places : ℕ) (ls : List Bytes) (rest : Bytes) : Result ℕ ItemsFault → Type 0 where
  stop : Stops rest → 0 < length ls → Answers places ls rest (Ok (length ls))
  none : Stops rest → length ls ≡ 0 → Answers places ls rest (Err (ItemCount 0 0))
  unformed : (Stops rest → ⊥) → ((l : Bytes) → Fronts (length ls) rest l → ⊥) → Answers places ls rest (Err (Unformed (length ls + 1)))
  many : (l : Bytes) → Fronts (length ls) rest l → length ls ≡ 256 → Answers places ls rest (Err (ItemCount 257 257))
  full : (l : Bytes) → Fronts (length ls) rest l → length ls < 256 → length ls ≡ places → Answers places ls rest (Err (NoPlace places (length ls + 1)))
  again : (l : Bytes) (i : ℕ) → Fronts (length ls) rest l → length ls < 256 → length ls < places → First ls l i → Answers places ls rest (Err (Repeated (length ls + 1) i))

-- the items ls of a text are read, with this answer
pub record ItemsRead (text : Bytes) (places : ℕ) (r : Result ℕ ItemsFault) (ls : List Bytes) : Type 0 where
  pub rest : Bytes
  pub parts : text ≡ items_text 0 ls ++ rest
  pub accepted : Accepted ls
  pub room : length ls ≤ places
  pub answer : Answers places ls rest r

-- the same, of a text that may be too long
pub data Reads (text : Bytes) (places : ℕ) : Result ℕ ItemsFault → List Bytes → Type 0 where
  too_long : 65535 < length text → Reads text places (Err (TooLong (length text))) []
  read : (r : Result ℕ ItemsFault) (ls : List Bytes) → length text ≤ 65535 → ItemsRead text places r ls → Reads text places r ls

abbrev pub Filled : List LabelPlace → List LabelPlace → List Bytes → Type 0
Filled before after ls = after ≡ places_from 0 ls ++ drop (length ls) before

-- the labels that the first places stand for
abbrev pub names_of : Bytes → ℕ → List LabelPlace → List Bytes
names_of text count places = map (named text) (take count places)

pub record ItemsCall (text : Bytes) (before after : List LabelPlace) (r : Result ℕ ItemsFault) : Type 0 where
  pub labels : List Bytes
  pub reads : Reads text (length before) r labels
  pub filled : Filled before after labels
  pub names : IfOk r (λ n. names_of text n after ≡ labels)

-- the bytes decide the answer and the labels
abbrev pub Determined : Type 0
Determined = (text : Bytes) (places : ℕ) (r s : Result ℕ ItemsFault) (ls ms : List Bytes) → Reads text places r ls → Reads text places s ms → (r ≡ s) × (ls ≡ ms)

-- what is written of items that were accepted reads back as they are
abbrev pub ItemsComeBack : Type 0
ItemsComeBack = (ls : List Bytes) (rest : Bytes) (places : ℕ) (r : Result ℕ ItemsFault) (ms : List Bytes) → Accepted ls → 1 ≤ length ls → length ls ≤ places → Stops rest → length (items_text 0 ls ++ rest) ≤ 65535 → Reads (items_text 0 ls ++ rest) places r ms → (r ≡ Ok (length ls)) × (ms ≡ ls)

pub record ItemAt (text : Bytes) (at n : ℕ) (l : Bytes) : Type 0 where
  pub label : Label l
  pub fits : at + 10 + length l ≤ length text
  pub parts : drop at text ≡ item_line n l ++ (10 ∷ drop (at + 10 + length l) text)

pub record Taken (text : Bytes) (at count : ℕ) (places : List LabelPlace) (n : ℕ) : Type 0 where
  pub label : Bytes
  pub long : n ≡ length label
  pub item : ItemAt text at count label
  pub few : count < 256
  pub room : count < length places
  pub fresh : Absent (names_of text count places) label

abbrev pub Refused : Bytes → ℕ → ℕ → List LabelPlace → ItemsFault → Type 0
Refused text at count places f = (ls : List Bytes) → length ls ≡ count → names_of text count places ≡ ls → (Stops (drop at text) → ⊥) → Answers (length places) ls (drop at text) (Err f)
