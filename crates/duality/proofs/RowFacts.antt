-- The rows of a list by their places, and tests of what they mean.
use Rattle.std.proofs.Common.{◌≡◌, ℕ, zero, suc, ◌<◌, ◌≤◌, Bool, true, false, ◌||◌, List, [], ◌∷◌, map, length, get_or, sym, refl, ap, ◌∙◌, subst, arith}
use Rattle.std.specs.Prelude.{Option, Some, None, Decides, MatchOption}
use Rattle.std.specs.List.{list_any, AllWithin, HoldsAt}
use Rattle.std.proofs.lemmas.Bool.{false≢true}
use Rattle.std.proofs.lemmas.List.{get_or-map, length-map}
use Rattle.std.proofs.lemmas.Bool.Decides.{same_from_decides}
use Rattle.sets.specs.Sets.{Numbers, nothing, Within, Apart, Below, within_below}
use Rattle.sets.proofs.Deciding.{decides_within}
use Rattle.systems.proofs.Tables.{apart_below, decides_apart}
use Rattle.duality.specs.Shares.{is_within, is_apart}
use Rattle.duality.specs.RowsOf.{IsRow}
use Rattle.systems.specs.Systems.{Works, Fails, EachRow}
use Rattle.tables.specs.Memory.{meant}
use Rattle.tables.specs.declared.row.Row.{Row}

-- the row x is read at place i, and y is its set
module _ {X : Type 0} (mem : X → Numbers) (xs : List (Row X)) (i : ℕ) (x : Row X) (y : X) (lt : i < length xs) (is : x ≡ get_or xs i x) (its : y ≡ x.set) where
  pub row_is : get_or (map (meant mem) xs) i nothing ≡ mem y
  row_is = get_or-map (meant mem) xs i x nothing lt ∙ ap (meant mem) (sym is) ∙ ap mem (sym its)

-- ---- the tests of sets that lie below 256
pub below_most : (top : ℕ) (s : Numbers) → top ≤ 256 → Below top s → Below 256 s
below_most top s small low k t = omega (arith, low k t)

pub tested_within : (r s : Numbers) → Below 256 r → (b : Bool) → Decides b (Within r s) → is_within r s ≡ b
unfolding is_within
tested_within r s low b d = same_from_decides (within_below 256 r s) b (decides_within 256 r s low) d

pub tested_apart : (r s : Numbers) → Below 256 r → (b : Bool) → Decides b (Apart r s) → is_apart r s ≡ b
unfolding is_apart
tested_apart r s low b d = same_from_decides (apart_below 256 r s) b (decides_apart 256 r s low) d

-- ---- what `any` finds among the rows
pub any_map : {X Y : Type 0} (p : Y → Bool) (f : X → Y) (xs : List X) → list_any p (map f xs) ≡ list_any (λ x. p (f x)) xs
any_map p f [] = refl
any_map p f (x ∷ xs) = ap (λ b. p (f x) || b) (any_map p f xs)

-- one of the rows passes the test
record Passing (rows : List Numbers) (test : Numbers → Bool) : Type 0 where
  row : ℕ
  there : row < length rows
  passes : test (get_or rows row nothing) ≡ true

passing_more : {r : Numbers} {rows : List Numbers} {test : Numbers → Bool} → Passing rows test → Passing (r ∷ rows) test
passing_more p = record { row = suc p.row; there = omega (arith, p.there); passes = p.passes }

passing_rest : (r : Numbers) (rows : List Numbers) (test : Numbers → Bool) → test r ≡ false → Passing (r ∷ rows) test → Passing rows test
passing_rest r rows test e p = go p.row p.there p.passes where
  go : (i : ℕ) → i < suc (length rows) → test (get_or (r ∷ rows) i nothing) ≡ true → Passing rows test
  go zero lt h = absurd (false≢true (sym e ∙ h))
  go (suc i) lt h = record { row = i; there = omega arith; passes = h }

decides_any : (rows : List Numbers) (test : Numbers → Bool) → Decides (list_any test rows) (Passing rows test)
decides_any [] test = ((λ e. absurd (false≢true e)), λ p. absurd (omega (arith, p.there)))
decides_any (r ∷ rows) test = go (decides_any rows test) (test r) refl where
  go : Decides (list_any test rows) (Passing rows test) → (b : Bool) → test r ≡ b → Decides (b || list_any test rows) (Passing (r ∷ rows) test)
  go d true e = ((λ _. record { row = 0; there = omega arith; passes = e }), λ _. refl)
  go d false e = ((λ h. passing_more (d.0 h)), λ p. d.1 (passing_rest r rows test e p))

-- rows of a kind lie below 256
pub rows_below : {X : Type 0} (mem : X → Numbers) → ((x : X) → Below 256 (mem x)) → (xs : List X) → EachRow (map mem xs) (Below 256)
rows_below mem low [] i h = absurd (omega arith)
rows_below mem low (x ∷ xs) zero h = low x
rows_below mem low (x ∷ xs) (suc i) h = rows_below mem low xs i (omega arith)

module _ (rows : List Numbers) (low : EachRow rows (Below 256)) (s : Numbers) where
  pub decides_works : (r : Bool) → r ≡ list_any (λ p. is_within p s) rows → Decides r (Works rows s)
  unfolding is_within
  decides_works r e =
      let d = subst (λ (b : Bool). Decides b (Passing rows (λ p. is_within p s))) (sym e) (decides_any rows (λ p. is_within p s)) in (
        (λ e. let p = d.0 e in record { row = p.row; there = p.there; up = (decides_within 256 _ s (low p.row p.there)).0 p.passes }),
        λ w. d.1 (record { row = w.row; there = w.there; passes = (decides_within 256 _ s (low w.row w.there)).1 w.up }),
      )

  pub decides_fails : (r : Bool) → r ≡ list_any (λ c. is_apart c s) rows → Decides r (Fails rows s)
  unfolding is_apart
  decides_fails r e =
      let d = subst (λ (b : Bool). Decides b (Passing rows (λ c. is_apart c s))) (sym e) (decides_any rows (λ c. is_apart c s)) in (
        (λ e. let p = d.0 e in record { row = p.row; there = p.there; down = (decides_apart 256 _ s (low p.row p.there)).0 p.passes }),
        λ w. d.1 (record { row = w.row; there = w.there; passes = (decides_apart 256 _ s (low w.row w.there)).1 w.down }),
      )

-- ---- what `find` finds among the rows
pub at_map : {X : Type 0} (f : X → Numbers) (xs : List X) (P : Numbers → Type 0) (k : ℕ) → k < length xs → HoldsAt (λ x. P (f x)) xs k → P (get_or (map f xs) k nothing)
at_map f [] P k lt h = absurd (omega arith)
at_map f (x ∷ xs) P k lt h = subst P (sym (get_or-map f (x ∷ xs) k x nothing lt)) (h x)

pub found_row : {X A : Type 0} (f : X → Numbers) (v : A → X) (xs : List X) (P : Numbers → Type 0) (o : Option A) → MatchOption o (AllWithin (λ x. P (f x) → ⊥) xs 0 (length xs)) (λ a. P (f (v a)) × (i : ℕ) × (i < length xs) × HoldsAt (λ y. y ≡ v a) xs i × AllWithin (λ x. P (f x) → ⊥) xs 0 i) → MatchOption o (EachRow (map f xs) (λ p. P p → ⊥)) (λ a. IsRow f xs (v a) × P (f (v a)))
found_row f v xs P None all = λ i lt. let l : i < length xs = simp length-map at lt in at_map f xs (λ p. P p → ⊥) i l (λ d. all i d (omega arith) l)
found_row f v xs P (Some a) h = (
  record {
    row = h.1;
    there = simp length-map h.2;
    means = at_map f xs (λ p. p ≡ f (v a)) h.1 h.2 (λ d. ap f (h.3 d));
  },
  h.0,
)
