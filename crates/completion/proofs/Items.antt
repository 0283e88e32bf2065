-- Items that a loop collects, ascending, and the put of them.
use Rattle.std.proofs.Common.{◌≡◌, ℕ, zero, suc, ◌+◌, ◌<◌, ◌≤◌, true, false, ◌&&◌, ◌||◌, T, eqb, ltb, List, [], ◌∷◌, ◌++◌, length, get_or, take, sym, ap, ◌∙◌, subst, ap₂, inl, inr, ⊎_elim, arith}
use mathlib.Core.Path.{fun_ext}
use Rattle.std.proofs.lemmas.List.{take-append-le, take_at, get_or_append_left, get_or_at, length_push}
use Rattle.std.proofs.lemmas.Bool.{cases_lt, both_ways, and_left, le-ltb}
use Rattle.std.proofs.lemmas.Bool.Decides.{nat_tests}
use Rattle.sets.specs.Sets.{Numbers, nothing, Within, Below, listed}
use Rattle.sets.specs.Listing.{listed_at}
use Rattle.sets.specs.Truth.{or_T, T_or_left, T_or_right}
use Rattle.tables.specs.Refusals.{Reply, refused}
use Rattle.tables.specs.Calls.{ItemRefused, no_such_item, repeated, cannot_hold, Puts, put_closed, put_item, put_contains, put_full, put_done}
use Rattle.tables.proofs.Gathering.{listed_push, pass_held}
use Rattle.completion.specs.Offers.{Offers, offer_closed, offer_unheld, offer_contains, offer_full, offer_done}

-- each item stands in the list for the first time
abbrev Distinct : List ℕ → Type 0
Distinct xs = (i : ℕ) → i < length xs → listed (take i xs) (get_or xs i 0) ≡ false

-- the items are those of s below k
pub record Collected (s : Numbers) (items : List ℕ) (k : ℕ) : Type 0 where
  pub few : length items ≤ k
  pub is : (j : ℕ) → listed items j ≡ (ltb j k && s j)
  pub distinct : Distinct items

-- ---- one item more

distinct_push : (xs : List ℕ) (y : ℕ) → Distinct xs → listed xs y ≡ false → Distinct (xs ++ y ∷ [])
distinct_push xs y d new i lt =
    elim (cases_lt i (length xs)) [
      | inl h ↦ subst (λ b. b ≡ false) (sym (ap₂ listed (take-append-le i xs (y ∷ []) (omega arith)) (get_or_append_left xs (y ∷ []) 0 i h))) (d i h)
      | inr h ↦ let e : length xs ≡ i = omega (arith, length_push xs y) in ap₂ listed (take_at xs (y ∷ []) i e) (get_or_at xs y [] 0 i e) ∙ new
    ]

-- ---- the loop

step_skip : (s : Numbers) (k j : ℕ) → s k ≡ false → (ltb j k && s j) ≡ (ltb j (k + 1) && s j)
step_skip s k j out = grind (arith, nat_tests)

step_more : (s : Numbers) (k j : ℕ) → s k ≡ true → (eqb j k || (ltb j k && s j)) ≡ (ltb j (k + 1) && s j)
step_more s k j up = grind (arith, nat_tests)

step_all : (s : Numbers) (n k j : ℕ) → n ≤ k → ((i : ℕ) → n ≤ i → s i ≡ false) → (ltb j k && s j) ≡ s j
step_all s n k j le down = grind (arith, nat_tests)

module _ (s : Numbers) (items : List ℕ) (k : ℕ) (h : Collected s items k) where
  pub collected_skip : false ≡ s k → Collected s items (k + 1)
  collected_skip out = record { few = omega (arith, h.few); is = λ j. h.is j ∙ step_skip s k j (sym out); distinct = h.distinct }

  pub collected_more : true ≡ s k → Collected s (items ++ k ∷ []) (k + 1)
  collected_more up =
      let new : listed items k ≡ false = h.is k ∙ and_left (ltb k k) (s k) (le-ltb k k (omega arith)) in
      record {
        few = omega (arith, h.few, length_push items k);
        is = λ j. ap (λ t. t j) (listed_push items k) ∙ ap (λ b. eqb j k || b) (h.is j) ∙ step_more s k j (sym up);
        distinct = distinct_push items k h.distinct new;
      }

  -- from n on nothing is in s
  collected_all : (n : ℕ) → n ≤ k → ((j : ℕ) → n ≤ j → s j ≡ false) → listed items ≡ s
  collected_all n le down = fun_ext (λ j. h.is j ∙ step_all s n k j le down)

-- ---- the put

below_from : (s : Numbers) (n : ℕ) → ((j : ℕ) → n ≤ j → s j ≡ false) → Below n s
below_from s n down k t = ⊎_elim (λ (lt : k < n). lt) (λ (ge : n ≤ k). absurd (subst T (down k ge) t)) (cases_lt k n)

listed_take : (i : ℕ) (xs : List ℕ) → Within (listed (take i xs)) (listed xs)
listed_take zero xs k t = absurd t
listed_take (suc i) [] k t = absurd t
listed_take (suc i) (x ∷ xs) k t =
    elim (or_T (eqb k x) (listed (take i xs) k) t) [
      | inl e ↦ T_or_left (eqb k x) (listed xs k) e
      | inr r ↦ T_or_right (eqb k x) (listed xs k) (listed_take i xs k r)
    ]

module _ (n capacity : ℕ) (holds : Numbers → Type 0) (none : holds nothing) (less : (s t : Numbers) → holds s → Within t s → holds t) (rows : List Numbers) where
  offers_refused : (items : List ℕ) → Below n (listed items) → Distinct items → (number : ℕ) (values : List ℕ)
      → ItemRefused n holds items number values → Offers n capacity holds rows (listed items) (refused number values) rows
  offers_refused items low distinct number values (no_such_item i lt pass high) = absurd (omega (arith, low (get_or items i 0) (listed_at items i 0 lt)))
  offers_refused items low distinct number values (repeated i lt pass below twice) = absurd (both_ways (listed (take i items) (get_or items i 0)) (distinct i lt) twice)
  offers_refused items low distinct number values (cannot_hold i lt pass below once unheld) =
      offer_unheld i (λ h. unheld (less (listed items) (listed (take (i + 1) items)) h (listed_take (i + 1) items)))

  offers_listed : (items : List ℕ) → Below n (listed items) → Distinct items → (r : Reply ℕ) (qs : List Numbers)
      → Puts n capacity holds rows items r qs → Offers n capacity holds rows (listed items) r qs
  offers_listed items low distinct r qs (put_closed e) = offer_closed e
  offers_listed items low distinct r qs (put_item number values pos h) = offers_refused items low distinct number values h
  offers_listed items low distinct r qs (put_contains i pos pass h) = offer_contains i h
  offers_listed items low distinct r qs (put_full pos pass new e whole) = offer_full new e whole
  offers_listed items low distinct r qs (put_done pos pass new room) =
      offer_done (record { items = low; held = pass_held n holds none items pass; new = new; room = room })

  pub offers_collected : (s : Numbers) (items : List ℕ) (k : ℕ) → Collected s items k → n ≤ k → ((j : ℕ) → n ≤ j → s j ≡ false)
      → (r : Reply ℕ) (qs : List Numbers) → Puts n capacity holds rows items r qs → Offers n capacity holds rows s r qs
  offers_collected s items k h le down r qs puts =
      let is = collected_all s items k h n le down in
      subst (λ t. Offers n capacity holds rows t r qs) is (offers_listed items (subst (Below n) (sym is) (below_from s n down)) h.distinct r qs puts)
