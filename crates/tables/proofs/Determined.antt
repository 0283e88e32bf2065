-- A call has one reply, and leaves one list of rows: each definition of a call is a chain of tests.
use Rattle.std.proofs.Common.{◌≡◌, ℕ, ◌-◌, ◌<◌, ◌≤◌, false, List, [], ◌∷◌, length, get_or, take, sym, refl, ap, ◌∙◌, subst, ⊎_elim, arith}
use Rattle.std.specs.List.{remove}
use Rattle.std.proofs.lemmas.Bool.{cases_order, both_ways}
use Rattle.sets.specs.Sets.{Numbers, nothing, Within, listed}
use Rattle.tables.specs.Rows.{staying, after_put}
use Rattle.tables.specs.Refusals.{Reply, answered, refused}
use Rattle.tables.specs.Calls.{Judges, judge_permits, judge_refuses, Passes, ItemRefused, no_such_item, repeated, cannot_hold, Puts, put_closed, put_item, put_contains, put_full, put_done, Strikes, strike_closed, strike_none, strike_done, Shows, show_closed, show_none, show_done, OneReply}

-- ---- what has one value

abbrev One : {X : Type 0} → (X → Type 0) → Type 0
One {X = X} R = (x y : X) → R x → R y → x ≡ y

abbrev Is : {X : Type 0} → X → X → Type 0
Is c x = x ≡ c

is_one : {X : Type 0} (c : X) → One (Is c)
is_one c x y p q = p ∙ sym q

-- F where A fails, and else R
data Tested {X : Type 0} (A : Type 0) (F R : X → Type 0) (x : X) : Type 0 where
  failed : (A → ⊥) → F x → Tested A F R x
  met : A → R x → Tested A F R x

tested_one : {X : Type 0} (A : Type 0) (F R : X → Type 0) → One F → One R → One (Tested A F R)
tested_one A F R f r x y (failed a p) (failed b q) = f x y p q
tested_one A F R f r x y (failed a p) (met b q) = absurd (a b)
tested_one A F R f r x y (met a p) (failed b q) = absurd (b a)
tested_one A F R f r x y (met a p) (met b q) = r x y p q

-- of the places below m, i is the first at which A fails
record First (A : ℕ → Type 0) (m i : ℕ) : Type 0 where
  there : i < m
  before : (k : ℕ) → k < i → A k
  fails : A i → ⊥

first_one : (A : ℕ → Type 0) (m i j : ℕ) → First A m i → First A m j → i ≡ j
first_one A m i j a b = ⊎_elim
    (λ (e : i ≡ j). e)
    (⊎_elim (λ (l : i < j). absurd (a.fails (b.before i l))) (λ (l : j < i). absurd (b.fails (a.before j l))))
    (cases_order i j)

-- F of the first place below m at which A fails, and R where it fails at none
data Sought {X : Type 0} (A : ℕ → Type 0) (m : ℕ) (F : ℕ → X → Type 0) (R : X → Type 0) (x : X) : Type 0 where
  stops : (i : ℕ) → First A m i → F i x → Sought A m F R x
  passes : ((k : ℕ) → k < m → A k) → R x → Sought A m F R x

sought_one : {X : Type 0} (A : ℕ → Type 0) (m : ℕ) (F : ℕ → X → Type 0) (R : X → Type 0) → ((i : ℕ) → One (F i)) → One R → One (Sought A m F R)
sought_one A m F R f r x y (stops i a p) (stops j b q) = f j x y (subst (λ k. F k x) (first_one A m i j a b) p) q
sought_one A m F R f r x y (stops i a p) (passes all q) = absurd (a.fails (all i a.there))
sought_one A m F R f r x y (passes all p) (stops j b q) = absurd (b.fails (all j b.there))
sought_one A m F R f r x y (passes all p) (passes each q) = r x y p q

-- ---- judging an item count

module _ (top items : ℕ) where
  abbrev Judged : Reply (Unit {0}) → Type 0
  Judged = Tested ((1 ≤ items) × (items ≤ top)) (Is (refused 1 (items ∷ []))) (Is (answered tt))

  judged : (r : Reply (Unit {0})) → Judges top items r → Judged r
  judged r (judge_permits a b) = met (a, b) refl
  judged r (judge_refuses h) = failed (λ k. ⊎_elim (λ (e : items ≡ 0). omega (arith, k)) (λ (l : top < items). omega (arith, k)) h) refl

  judged_one : One Judged
  judged_one = tested_one _ _ _ (is_one _) (is_one _)

-- ---- strikes, and a row that is shown

module _ {X : Type 0} (n row long : ℕ) (closed missing done : X) where
  abbrev Found : X → Type 0
  Found = Tested (1 ≤ n) (Is closed) (Tested (row < long) (Is missing) (Is done))

  found_one : One Found
  found_one = tested_one _ _ _ (is_one _) (tested_one _ _ _ (is_one _) (is_one _))

module _ (n : ℕ) (rows : List Numbers) (row : ℕ) where
  abbrev Struck : (Reply (Unit {0})) × List Numbers → Type 0
  Struck = Found n row (length rows) (refused 1 (n ∷ []), rows) (refused 7 (length rows ∷ []), rows) (answered tt, remove rows row)

  struck : (r : Reply (Unit {0})) (qs : List Numbers) → Strikes n rows row r qs → Struck (r, qs)
  struck r qs (strike_closed e) = failed (λ pos. omega arith) refl
  struck r qs (strike_none pos le) = met pos (failed (λ lt. omega arith) refl)
  struck r qs (strike_done pos lt) = met pos (met lt refl)

  abbrev Shown : Reply Numbers → Type 0
  Shown = Found n row (length rows) (refused 1 (n ∷ [])) (refused 7 (length rows ∷ [])) (answered (get_or rows row nothing))

  shown : (r : Reply Numbers) → Shows n rows row r → Shown r
  shown r (show_closed e) = failed (λ pos. omega arith) refl
  shown r (show_none pos le) = met pos (failed (λ lt. omega arith) refl)
  shown r (show_done pos lt) = met pos (met lt refl)

-- ---- puts

module _ (n capacity : ℕ) (holds : Numbers → Type 0) (rows : List Numbers) (items : List ℕ) where
  -- the item at place i is the first that does not pass
  abbrev Stopped : ℕ → Reply ℕ × List Numbers → Type 0
  Stopped i = Tested (get_or items i 0 < n) (Is (refused 2 (i ∷ []), rows))
      (Tested (listed (take i items) (get_or items i 0) ≡ false) (Is (refused 3 (i ∷ []), rows)) (Is (refused 4 (i ∷ []), rows)))

  -- all items pass, and their row contains no other
  abbrev Ended : Reply ℕ × List Numbers → Type 0
  Ended = Tested (length (staying n rows (listed items)) < capacity) (Is (refused 6 (capacity ∷ []), rows))
      (Is (answered (length rows - length (staying n rows (listed items))), after_put n rows (listed items)))

  abbrev Passed : Reply ℕ × List Numbers → Type 0
  Passed = Sought (λ k. Within (get_or rows k nothing) (listed items) → ⊥) (length rows) (λ i. Is (refused 5 (i ∷ []), rows)) Ended

  abbrev Opened : Reply ℕ × List Numbers → Type 0
  Opened = Sought (Passes n holds items) (length items) Stopped Passed

  abbrev Put : Reply ℕ × List Numbers → Type 0
  Put = Tested (1 ≤ n) (Is (refused 1 (n ∷ []), rows)) Opened

  item_stops : (number : ℕ) (values : List ℕ) → ItemRefused n holds items number values → Opened (refused number values, rows)
  item_stops number values (no_such_item i lt pass high) =
      stops i (record { there = lt; before = pass; fails = λ p. omega (arith, p.below) }) (failed (λ low. omega arith) refl)
  item_stops number values (repeated i lt pass low twice) =
      stops i (record { there = lt; before = pass; fails = λ p. both_ways _ p.once twice }) (met low (failed (λ once. both_ways _ once twice) refl))
  item_stops number values (cannot_hold i lt pass low once unheld) =
      stops i (record { there = lt; before = pass; fails = λ p. unheld p.held }) (met low (met once refl))

  put : (r : Reply ℕ) (qs : List Numbers) → Puts n capacity holds rows items r qs → Put (r, qs)
  put r qs (put_closed e) = failed (λ pos. omega arith) refl
  put r qs (put_item number values pos h) = met pos (item_stops number values h)
  put r qs (put_contains i pos pass h) = met pos (passes pass (stops i (record { there = h.there; before = h.lowest; fails = λ out. out h.contained }) refl))
  put r qs (put_full pos pass new e whole) = met pos (passes pass (passes new (failed (λ room. omega (arith, ap length whole)) refl)))
  put r qs (put_done pos pass new room) = met pos (passes pass (passes new (met room refl)))

  put_one : One Put
  put_one = tested_one _ _ _ (is_one _)
      (sought_one _ _ _ _ (λ i. tested_one _ _ _ (is_one _) (tested_one _ _ _ (is_one _) (is_one _)))
      (sought_one _ _ _ _ (λ i. is_one _) (tested_one _ _ _ (is_one _) (is_one _))))

-- ---- all calls

parts : {X Y : Type 0} (x y : X × Y) → x ≡ y → (x.0 ≡ y.0) × (x.1 ≡ y.1)
parts x y e = (ap (λ z. z.0) e, ap (λ z. z.1) e)

pub one_reply : (holds : Numbers → Type 0) → OneReply holds
one_reply holds = record {
  judges = λ top items r s a b. judged_one top items r s (judged top items r a) (judged top items s b);
  puts = λ n capacity rows items r s qs ts a b. parts (r, qs) (s, ts) (put_one n capacity holds rows items _ _ (put n capacity holds rows items r qs a) (put n capacity holds rows items s ts b));
  strikes = λ n rows row r s qs ts a b. parts (r, qs) (s, ts) (found_one n row (length rows) _ _ _ _ _ (struck n rows row r qs a) (struck n rows row s ts b));
  shows = λ n rows row r s a b. found_one n row (length rows) _ _ _ r s (shown n rows row r a) (shown n rows row s b);
}
