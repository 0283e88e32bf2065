-- What the replies of a table tell.
use Rattle.std.proofs.Common.{◌≡◌, ℕ, ◌-◌, ◌<◌, ◌≤◌, max, true, List, length, get_or, sym, refl, subst, arith}
use Rattle.std.specs.List.{remove}
use Rattle.std.proofs.lemmas.Bool.{both_ways}
use Rattle.sets.specs.Sets.{Numbers, nothing, Within, Below}
use Rattle.systems.specs.Systems.{Works}
use Rattle.tables.specs.Refusals.{Reply, answered, refused}
use Rattle.tables.specs.Rows.{stays, staying, after_put}
use Rattle.tables.specs.Calls.{Shows, show_closed, show_none, show_done, Strikes, strike_closed, strike_none, strike_done}
use Rattle.tables.proofs.Sifting.{stays_no, kept_fewer, kept_whole}
use Rattle.tables.proofs.Histories.{kept_passes}
use Rattle.completion.specs.Offers.{Offers, offer_closed, offer_unheld, offer_contains, offer_full, offer_done, Replaced, replace_put, replace_struck}

-- a row that is shown
pub row_shown : (n : ℕ) (rows : List Numbers) (row : ℕ) (v : Numbers) → Shows n rows row (answered v) → (row < length rows) × (v ≡ get_or rows row nothing)
row_shown n rows row v (show_done pos lt) = (lt, refl)

pub row_refused : (n : ℕ) (rows : List Numbers) (row number : ℕ) (values : List ℕ) → 1 ≤ n → Shows n rows row (refused number values) → length rows ≤ row
row_refused n rows row number values pos (show_closed e) = absurd (omega arith)
row_refused n rows row number values pos (show_none a le) = le

-- a strike of a row that is there
row_struck : (n : ℕ) (rows : List Numbers) (row : ℕ) (r : Reply (Unit {0})) (after : List Numbers) → 1 ≤ n → row < length rows → Strikes n rows row r after → after ≡ remove rows row
row_struck n rows row r after pos lt (strike_closed e) = absurd (omega arith)
row_struck n rows row r after pos lt (strike_none a le) = absurd (omega arith)
row_struck n rows row r after pos lt (strike_done a b) = refl

module _ (n capacity : ℕ) (holds : Numbers → Type 0) (rows : List Numbers) (row : ℕ) (p : Numbers) where
  -- a set within a row
  module _ (lt : row < length rows) (inside : Within p (get_or rows row nothing)) where
    -- that row does not stay
    row_goes : Below n p → staying n rows p ≡ rows → ⊥
    row_goes low whole =
        let stay : stays n p (get_or rows row nothing) ≡ true =
        subst (λ (l : List Numbers). stays n p (get_or l row nothing) ≡ true) whole (kept_passes (stays n p) rows row (subst (λ (l : List Numbers). row < length l) (sym whole) lt)) in
        both_ways (stays n p (get_or rows row nothing)) (stays_no n p (get_or rows row nothing) low inside) stay

    fewer_stay : Below n p → length (staying n rows p) < length rows
    fewer_stay low =
        let ne : length (staying n rows p) ≡ length rows → ⊥ = λ e. row_goes low (kept_whole (stays n p) rows e) in
        omega (arith, ne, kept_fewer (stays n p) rows)

    pub put_replaced : (k gone : ℕ) → gone ≡ max k 1 → (after : List Numbers) → Offers n capacity holds rows p (answered k) after → Replaced n capacity holds rows row p gone after
    put_replaced k gone e after (offer_done ok) =
        let is : gone ≡ length rows - length (staying n rows p) = omega (arith, e, fewer_stay ok.items) in
        subst (λ (g : ℕ). Replaced n capacity holds rows row p g (after_put n rows p)) (sym is) (replace_put ok)

    -- it is refused only because a row lies within it
    module _ (pos : 1 ≤ n) (held : holds p) (low : Below n p) where
      put_refused : (number : ℕ) (values : List ℕ) (after : List Numbers) → Offers n capacity holds rows p (refused number values) after → Works rows p × (after ≡ rows)
      put_refused number values after (offer_closed e) = absurd (omega arith)
      put_refused number values after (offer_unheld place out) = absurd (out held)
      put_refused number values after (offer_contains i h) = (record { row = i; there = h.there; up = h.contained }, refl)
      put_refused number values after (offer_full new e whole) = absurd (row_goes low whole)

      pub strike_replaced : (number : ℕ) (values : List ℕ) (after : List Numbers) → Offers n capacity holds rows p (refused number values) after
          → (s : Reply (Unit {0})) (qs : List Numbers) → Strikes n after row s qs → Replaced n capacity holds rows row p 1 qs
      strike_replaced number values after h s qs gone =
          let w = put_refused number values after h in
          subst (Replaced n capacity holds rows row p 1) (sym (row_struck n rows row s qs pos lt (subst (λ l. Strikes n l row s qs) w.1 gone))) (replace_struck w.0)
