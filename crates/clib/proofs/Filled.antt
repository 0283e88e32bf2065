-- Rows put one after the other, and what both tables underwent then.
use Rattle.std.proofs.Common.{◌≡◌, ℕ, ◌+◌, ◌<◌, ◌≤◌, min, List, [], ◌∷◌, length, take, drop, get_or, Ok, Err, Result, refl, sym, ap, ap₂, ◌∙◌, subst, add-one, drop-cons}
use Rattle.std.proofs.lemmas.List.{take_min, drop_min, drop_all}
use Rattle.sets.specs.Sets.{Numbers, nothing}
use Rattle.sets.specs.declared.kind.SetKind.{Ghosts}
use Rattle.tables.specs.Calls.{Puts}
use Rattle.tables.specs.Pasts.{Past}
use Rattle.tables.specs.Refusals.{answered, refused, table_refusal, table_reply}
use Rattle.tables.specs.Tables.{Holds}
use Rattle.tables.specs.declared.fault.TableFault.{TableFault}
use Rattle.tables.specs.declared.table.Table.{Table}
use Rattle.tables.proofs.Histories.{calls_go_on}
use Rattle.clib.specs.Fills.{cut, Fills, fills_none, fills_next, fills_refused}

-- ---- the rows

cut_next : (left lens : List ℕ) (i : ℕ) → i < length lens
    → cut left (drop i lens) ≡ take (get_or lens i 0) left ∷ cut (drop (get_or lens i 0) left) (drop (i + 1) lens)
cut_next left lens i h = rw (add-one, drop-cons lens i 0) refl

-- the next row is taken off
row_taken : (left lens : List ℕ) (i : ℕ) {k : ℕ} {row rest : List ℕ} → i < length lens → k ≡ min (get_or lens i 0) (length left) → row ≡ take k left → rest ≡ drop k left
    → cut left (drop i lens) ≡ row ∷ cut rest (drop (i + 1) lens)
row_taken left lens i inside least front back =
    let row_is = front ∙ ap (λ n. take n left) least ∙ take_min (get_or lens i 0) left in
    let rest_is = back ∙ ap (λ n. drop n left) least ∙ drop_min (get_or lens i 0) left in
    cut_next left lens i inside ∙ ap₂ (λ a b. a ∷ cut b (drop (i + 1) lens)) (sym row_is) (sym rest_is)

-- ---- the loop

-- what `put` and `fill` say of tables
abbrev Put : {X : Type 0} {G : Ghosts X} → (X → Numbers) → (Numbers → Type 0) → List ℕ → Table X G → Result ℕ TableFault → Table X G → Type 0
Put mem holds row T r U = (n : ℕ) (ps : List Numbers) → Holds mem T n ps → (qs : List Numbers) × Puts n T.capacity holds ps row (table_reply r) qs × Holds mem U n qs

abbrev pub Filled : {X : Type 0} {G : Ghosts X} → (X → Numbers) → (Numbers → Type 0) → List (List ℕ) → Table X G → Result (Unit {0}) TableFault → Table X G → Type 0
Filled mem holds rows T r U = (n : ℕ) (ps : List Numbers) → Holds mem T n ps → (qs : List Numbers) × Fills n T.capacity holds ps rows r qs × Holds mem U n qs

-- where T is filled with the rows that are left, T₀ is filled with all
abbrev pub Going : {X : Type 0} {G : Ghosts X} → (X → Numbers) → (Numbers → Type 0) → List (List ℕ) → Table X G → List (List ℕ) → Table X G → Type 0
Going {X} {G} mem holds all T₀ left T = (r : Result (Unit {0}) TableFault) (U : Table X G) → Filled mem holds left T r U → Filled mem holds all T₀ r U

module _ {X : Type 0} {G : Ghosts X} (mem : X → Numbers) (holds : Numbers → Type 0) where
  filled_none : (T : Table X G) → Filled mem holds [] T (Ok tt) T
  filled_none T n ps h = (ps, fills_none ps, h)

  filled_next : (T U V : Table X G) (row : List ℕ) (rows : List (List ℕ)) (many : ℕ) (r : Result (Unit {0}) TableFault) → U.capacity ≡ T.capacity
      → Put mem holds row T (Ok many) U → Filled mem holds rows U r V → Filled mem holds (row ∷ rows) T r V
  filled_next T U V row rows many r same put rest n ps h =
      let p = put n ps h in
      let f = rest n p.0 p.2 in
      (f.0, fills_next ps p.0 f.0 row rows many r p.1 (subst (λ c. Fills n c holds p.0 rows r f.0) same f.1), f.2)

  filled_refused : (T U : Table X G) (row : List ℕ) (rows : List (List ℕ)) (fault : TableFault) → Put mem holds row T (Err fault) U
      → Filled mem holds (row ∷ rows) T (Err fault) U
  filled_refused T U row rows fault put n ps h = let p = put n ps h in (p.0, fills_refused ps p.0 row rows fault p.1, p.2)

  -- the table T has the rows of the lengths before the i-th; these have taken all items but `left`
  module _ {all : List (List ℕ)} {T₀ T : Table X G} (left lens : List ℕ) (i : ℕ) (going : Going mem holds all T₀ (cut left (drop i lens)) T) where
    pub going_all : length lens ≤ i → Filled mem holds all T₀ (Ok tt) T
    going_all end = going (Ok tt) T (subst (λ (l : List ℕ). Filled mem holds (cut left l) T (Ok tt) T) (sym (drop_all i lens end)) (filled_none T))

    module _ {U : Table X G} {k : ℕ} {row rest : List ℕ} (inside : i < length lens) (least : k ≡ min (get_or lens i 0) (length left)) (front : row ≡ take k left) (back : rest ≡ drop k left) where
      pub going_refused : (fault : TableFault) → Put mem holds row T (Err fault) U → Filled mem holds all T₀ (Err fault) U
      going_refused fault put =
          going (Err fault) U (subst (λ (rows : List (List ℕ)). Filled mem holds rows T (Err fault) U) (sym (row_taken left lens i inside least front back)) (filled_refused T U row (cut rest (drop (i + 1) lens)) fault put))

      pub going_next : (many : ℕ) → U.capacity ≡ T.capacity → Put mem holds row T (Ok many) U → Going mem holds all T₀ (cut rest (drop (i + 1) lens)) U
      going_next many same put r V more =
          going r V (subst (λ (rows : List (List ℕ)). Filled mem holds rows T r V) (sym (row_taken left lens i inside least front back)) (filled_next T U V row (cut rest (drop (i + 1) lens)) many r same put more))

-- ---- the past

module _ {n a b : ℕ} {holds : Numbers → Type 0} (none : holds nothing) where
  pub paths_past : {ps qs cs : List Numbers} {rows : List (List ℕ)} {r : Result (Unit {0}) TableFault} → Fills n a holds ps rows r qs → Past n a b holds ps cs → Past n a b holds qs cs
  paths_past (fills_none ps) past = past
  paths_past {cs = cs} (fills_next ps us qs row rows many r put rest) past = paths_past rest ((calls_go_on holds none).path_puts n a b ps cs us row (answered many) past put)
  paths_past {cs = cs} (fills_refused ps qs row rows fault put) past =
      (calls_go_on holds none).path_puts n a b ps cs qs row (refused (table_refusal fault).number (table_refusal fault).values) past put

  pub cuts_past : {ps cs ds : List Numbers} {rows : List (List ℕ)} {r : Result (Unit {0}) TableFault} → Fills n b holds cs rows r ds → Past n a b holds ps cs → Past n a b holds ps ds
  cuts_past (fills_none cs) past = past
  cuts_past {ps = ps} (fills_next cs us ds row rows many r put rest) past = cuts_past rest ((calls_go_on holds none).cut_puts n a b ps cs us row (answered many) past put)
  cuts_past {ps = ps} (fills_refused cs ds row rows fault put) past =
      (calls_go_on holds none).cut_puts n a b ps cs ds row (refused (table_refusal fault).number (table_refusal fault).values) past put
