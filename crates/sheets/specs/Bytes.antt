-- What the bytes of a sheet text are, written from values. Assumes nothing.
--
--   Feedless l        no line feed in l
--   Label l           l is a label: 1 to 12 bytes from 33 to 126
--   right w n         the number n, right-justified in w columns, blanks in front
--   item_line n l     the ITEM line of item n and its label l, without its line feed
--   spaced ls         a space and a label, for each of the labels ls
--   items_text k ls   the lines of the items that have the labels ls and are numbered from k on
--   Row s             s is what stands behind the head of a PATH or CUTS line
use Rattle.std.specs.Prelude.{◌≡◌, ◌≢◌, ℕ, suc, ◌-◌, ◌<◌, ◌≤◌, List, [], ◌∷◌, ◌++◌, length, replicate, slice_index, codes}
use Rattle.std.specs.Fmt.{decimal}

abbrev pub Bytes : Type 0
Bytes = List ℕ

abbrev pub Feedless : Bytes → Type 0
Feedless l = (k : ℕ) → k < length l → slice_index l k ≢ 10

pub record Label (l : Bytes) : Type 0 where
  pub some : 1 ≤ length l
  pub short : length l ≤ 12
  pub bytes : (k : ℕ) → k < length l → (33 ≤ slice_index l k) × (slice_index l k ≤ 126)

unfoldable pub right : ℕ → ℕ → Bytes
right w n = replicate (w - length (decimal n)) 32 ++ decimal n

unfoldable pub item_line : ℕ → Bytes → Bytes
item_line n l = codes "ITEM " ++ (right 3 n ++ (32 ∷ l))

abbrev pub spaced : List Bytes → Bytes
spaced [] = []
spaced (l ∷ ls) = 32 ∷ (l ++ spaced ls)

abbrev pub Labels : List Bytes → Type 0
Labels [] = Unit {0}
Labels (l ∷ ls) = Label l × Labels ls

abbrev pub items_text : ℕ → List Bytes → Bytes
items_text k [] = []
items_text k (l ∷ ls) = item_line k l ++ (10 ∷ items_text (suc k) ls)

abbrev pub Row : Bytes → Type 0
Row s = (ls : List Bytes) × Labels ls × (s ≡ spaced ls)
