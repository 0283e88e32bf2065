-- The rows of a table, put in their order into an empty table, give those rows.
use Rattle.std.proofs.Common.{◌≡◌, ◌≢◌, ℕ, zero, suc, ◌+◌, ◌-◌, ◌<◌, ◌≤◌, Bool, true, false, cond, ◌&&◌, ◌||◌, ◌==◌, T, List, [], ◌∷◌, ◌++◌, length, get_or, take, sym, refl, ap, ap₂, ◌∙◌, subst, inl, inr, ⊎_elim, arith}
use mathlib.Core.Path.{fun_ext}
use Rattle.std.proofs.lemmas.Bool.{cases_eq, cases_lt, eq-eqb, ne_eqb}
use Rattle.std.proofs.lemmas.List.{take_more, length-take-le, get_or-take}
use Rattle.sets.specs.Sets.{Numbers, nothing, Within, Below, listed}
use Rattle.sets.specs.Members.{members_from}
use Rattle.sets.specs.Rising.{rising}
use Rattle.sets.specs.Truth.{fails_false}
use Rattle.sets.specs.Listing.{rising_cons, rising_parts, rising_from, listed_bounds, listed_at}
use Rattle.sets.specs.ListLaws.{within_yes}
use Rattle.tables.specs.Rows.{ContainsNone, stays, staying, after_put, Sound}
use Rattle.tables.specs.Refusals.{answered}
use Rattle.tables.specs.Calls.{Pass, Puts, put_done}
use Rattle.tables.proofs.Sifting.{stays_yes, kept_all}

-- ---- the members of a set, listed

rising_cond : (b : Bool) (k : ℕ) (rest : List ℕ) → k < 256 → T (rising (k + 1) rest) → T (rising k (cond b (k ∷ rest) rest))
rising_cond true k rest h r = rising_cons k k rest (omega arith) h (rising_from (k + 1) (suc k) rest (omega arith) r)
rising_cond false k rest h r = rising_from (k + 1) k rest (omega arith) r

members_rising : (s : Numbers) (k n : ℕ) → k + n ≤ 256 → T (rising k (members_from s k n))
members_rising s k zero h = tt
members_rising s k (suc n) h = rising_cond (s k) k (members_from s (k + 1) n) (omega arith) (members_rising s (k + 1) n (omega arith))

listed_cond : (b : Bool) (k : ℕ) (rest : List ℕ) (j : ℕ) → listed (cond b (k ∷ rest) rest) j ≡ ((b && (j == k)) || listed rest j)
listed_cond true k rest j = refl
listed_cond false k rest j = refl

and_true : (b : Bool) → ((b && true) || false) ≡ b
and_true true = refl
and_true false = refl

and_false : (b c : Bool) → ((b && false) || c) ≡ c
and_false true c = refl
and_false false c = refl

-- a number that is not gone over
listed_out : (s : Numbers) (k n j : ℕ) → ((i : ℕ) → k ≤ i → i < k + n → j ≢ i) → listed (members_from s k n) j ≡ false
listed_out s k zero j out = refl
listed_out s k (suc n) j out =
    listed_cond (s k) k (members_from s (k + 1) n) j
    ∙ ap₂ (λ (x y : Bool). (s k && x) || y) (ne_eqb j k (out k (omega arith) (omega arith))) (listed_out s (k + 1) n j (λ i a b. out i (omega arith) (omega arith)))
    ∙ and_false (s k) false

listed_here : (s : Numbers) (k n j : ℕ) → k ≤ j → j < k + n → listed (members_from s k n) j ≡ s j
listed_here s k zero j a b = absurd (omega arith)
listed_here s k (suc n) j a b =
    elim (cases_eq j k) [
      | inl e ↦
          listed_cond (s k) k (members_from s (k + 1) n) j
          ∙ ap₂ (λ (x y : Bool). (s k && x) || y) (eq-eqb j k e) (listed_out s (k + 1) n j (λ i a b q. omega arith))
          ∙ and_true (s k) ∙ ap s (sym e)
      | inr d ↦
          listed_cond (s k) k (members_from s (k + 1) n) j
          ∙ ap₂ (λ (x y : Bool). (s k && x) || y) (ne_eqb j k d) (listed_here s (k + 1) n j (omega arith) (omega arith))
          ∙ and_false (s k) (s j)
    ]

listed_members : (s : Numbers) (top : ℕ) → Below top s → listed (members_from s 0 top) ≡ s
listed_members s top low = fun_ext (λ j. ⊎_elim
    (λ (l : j < top). listed_here s 0 top j (omega arith) (omega arith))
    (λ (g : top ≤ j). listed_out s 0 top j (λ i a b e. omega arith) ∙ sym (fails_false (s j) (λ m. let b = low j m in omega arith)))
    (cases_lt j top))

-- what is listed of a row of n items is below n
pub members_below : (n : ℕ) (s : Numbers) → n ≤ 256 → Below n s → (i : ℕ) → i < length (members_from s 0 256) → get_or (members_from s 0 256) i 0 < n
members_below n s small low i lt =
    let items = members_from s 0 256 in
    let below : Below 256 s = λ k m. let l = low k m in omega arith in
    low (get_or items i 0) (subst (λ t. T (t (get_or items i 0))) (listed_members s 256 below) (listed_at items i 0 lt))

-- no element of a rising list stands before itself
rising_once : (lo : ℕ) (xs : List ℕ) → T (rising lo xs) → (i : ℕ) → i < length xs → listed (take i xs) (get_or xs i 0) ≡ false
rising_once lo [] t i h = absurd (omega arith)
rising_once lo (x ∷ xs) t zero h = refl
rising_once lo (x ∷ xs) t (suc i) h =
    let p = rising_parts lo x xs t in
    let b = listed_bounds (suc x) xs (get_or xs i 0) p.2 (listed_at xs i 0 (omega arith)) in
    ap₂ (λ (y z : Bool). y || z) (ne_eqb (get_or xs i 0) x (λ e. omega arith)) (rising_once (suc x) xs p.2 i (omega arith))

-- ---- a row among those that none contains

module _ (n capacity : ℕ) (holds : Numbers → Type 0) (less : (s t : Numbers) → holds s → Within t s → holds t) (rows : List Numbers) (pos : 1 ≤ n) (sound : Sound n capacity holds rows)
    (i : ℕ) (lt : i < length rows) where
  abbrev row : Numbers
  row = get_or rows i nothing

  abbrev earlier : List Numbers
  earlier = take i rows

  many : length earlier ≡ i
  many = length-take-le i rows (omega arith)

  new : ContainsNone earlier row
  new j h w =
      let l : j < i = omega (arith, many) in
      let e = sound.antichain j i (omega arith) lt (subst (λ s. Within s row) (get_or-take i rows j nothing l) w) in
      omega arith

  whole : staying n earlier row ≡ earlier
  whole = kept_all (stays n row) earlier (λ j h.
      let l : j < i = omega (arith, many) in
      stays_yes n row (get_or earlier j nothing) (sound.items i lt) (λ w.
      let e = sound.antichain i j lt (omega arith) (subst (λ s. Within row s) (get_or-take i rows j nothing l) w) in
      omega arith))

  -- the items of the row, in whatever order they are named
  module _ (items : List ℕ) (is : listed items ≡ row) (once : (k : ℕ) → k < length items → listed (take k items) (get_or items k 0) ≡ false) where
    inside : (k : ℕ) → k < length items → T (row (get_or items k 0))
    inside k h = subst (λ s. T (s (get_or items k 0))) is (listed_at items k 0 h)

    passes : Pass n holds items (length items)
    passes k h = record {
      below = sound.items i lt _ (inside k h);
      once = once k h;
      held = less row _ (sound.held i lt) (within_yes (k + 1) items (omega arith) row (λ j l. inside j (omega arith)));
    }

    put_again : Puts n capacity holds earlier items (answered 0) (take (i + 1) rows)
    put_again =
        let few = sound.few in
        let stay : staying n earlier (listed items) ≡ earlier = ap (staying n earlier) is ∙ whole in
        let room : length (staying n earlier (listed items)) < capacity = omega (arith, many, ap length stay) in
        let gone : length earlier - length (staying n earlier (listed items)) ≡ 0 = omega (arith, ap length stay) in
        let after : after_put n earlier (listed items) ≡ take (i + 1) rows =
        ap₂ (λ (x : List Numbers) (s : Numbers). x ++ s ∷ []) stay is ∙ sym (take_more rows i nothing lt) in
        subst (λ k. Puts n capacity holds earlier items (answered k) (take (i + 1) rows)) gone
        (subst (Puts n capacity holds earlier items (answered (length earlier - length (staying n earlier (listed items))))) after
        (put_done pos passes (subst (ContainsNone earlier) (sym is) new) room))

pub puts_back : (n capacity : ℕ) (holds : Numbers → Type 0) (less : (s t : Numbers) → holds s → Within t s → holds t) (rows : List Numbers) → 1 ≤ n → n ≤ 256 → Sound n capacity holds rows
    → (i : ℕ) → i < length rows → Puts n capacity holds (take i rows) (members_from (get_or rows i nothing) 0 256) (answered 0) (take (i + 1) rows)
puts_back n capacity holds less rows pos small sound i lt =
    let row = get_or rows i nothing in
    let low : Below 256 row = λ k m. let l = sound.items i lt k m in omega arith in
    let items = members_from row 0 256 in
    put_again n capacity holds less rows pos sound i lt items (listed_members row 256 low) (rising_once 0 items (members_rising row 0 256 (omega arith)))
