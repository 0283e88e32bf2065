-- Rows that are up, and what the test of them tells.
use Rattle.std.proofs.Common.{◌≡◌, ℕ, zero, suc, ◌<◌, ◌≤◌, Bool, true, false, ◌&&◌, ◌||◌, T, ltb, leb, List, [], ◌∷◌, map, length, get_or, Decides, MatchBool, sym, refl, ap, subst, ⊎_elim, le_of_suc-le-suc, not-suc-le-zero, arith, ltb→lt}
use Rattle.std.specs.List.{AllWithin, HoldsAt}
use Rattle.std.proofs.lemmas.List.{get_or-map, length-map}
use Rattle.std.proofs.lemmas.Bool.{cases_lt, lt-ltb, false≢true}
use Rattle.std.proofs.lemmas.Bool.Decides.{Decides-at, Decides-like, Decides-and}
use Rattle.sets.specs.Sets.{Numbers, nothing, Within, Below}
use Rattle.sets.proofs.Deciding.{decides_within}
use Rattle.sets.specs.Truth.{holds_true, true_holds, and_T, T_and}
use Rattle.systems.specs.Drawings.{WorksIn}
use Rattle.systems.specs.PathRows.{RowUp, row_up, some_row_up, rows_work, row_structure}
use Rattle.systems.specs.States.{up}
use Rattle.systems.specs.Systems.{EachRow}
use Rattle.systems.specs.declared.state.State.{State}
use Rattle.systems.proofs.Chains.{decides_leb}
use Rattle.systems.proofs.Tables.{some_row, decides_some_row}

-- ---- the test of the rows

module _ (items : ℕ) (s : Numbers) where
  abbrev InsideUp : Numbers → Type 0
  InsideUp r = Below items r × Within r s

  decides_row : (r : Numbers) → Below 256 r → Decides (row_up items r s) (InsideUp r)
  unfolding row_up
  decides_row r low =
      Decides-like (row_up items r s)
      (λ h. (λ k m. ltb→lt k items (and_T (ltb k items) (s k) (h k m)).0, λ k m. (and_T (ltb k items) (s k) (h k m)).1))
      (λ h k m. T_and (ltb k items) (s k) (true_holds (ltb k items) (lt-ltb k items (h.0 k m))) (h.1 k m))
      (decides_within 256 r (λ k. ltb k items && s k) low)

  some_row_same : (rows : List Numbers) → some_row_up items rows s ≡ some_row (λ r. row_up items r s) rows
  some_row_same [] = refl
  some_row_same (r ∷ rs) = ap (λ b. row_up items r s || b) (some_row_same rs)

  pub decides_rows : (rows : List Numbers) → EachRow rows (Below 256) → Decides (rows_work items rows s) (RowUp items rows s)
  decides_rows rows low =
      Decides-like (rows_work items rows s)
      (λ h. record { few = h.0; row = h.1.0; there = h.1.1; inside = h.1.2.0; up = h.1.2.1 })
      (λ u. (u.few, (u.row, u.there, (u.inside, u.up))))
      (Decides-and (leb (length rows) 4096) (some_row_up items rows s) (decides_leb (length rows) 4096)
      (Decides-at (some_row_up items rows s) (some_row (λ r. row_up items r s) rows) (some_row_same rows)
      (decides_some_row (λ r. row_up items r s) InsideUp rows (λ i l. decides_row (get_or rows i nothing) (low i l)))))

-- ---- rows that values of a set kind mean

-- an element of a list that has one
first_of : {X : Type 0} (xs : List X) (i : ℕ) → i < length xs → X
first_of [] i h = absurd (not-suc-le-zero h)
first_of (x ∷ xs) i h = x

-- an item that is up is one that the state has
pub up_below : (state : State) → Below state.count (up state)
up_below state k t = ⊎_elim (λ l. l) (λ ge. absurd (subst T (state.down k ge) t)) (cases_lt k state.count)

module _ {X : Type 0} (f : X → Numbers) (xs : List X) (state : State) where
  abbrev Up : X → Type 0
  Up x = Within (f x) (up state)

  up_at : (i : ℕ) (d : X) → i < length xs → Up (get_or xs i d) → Within (get_or (map f xs) i nothing) (up state)
  up_at i d l w = subst (λ (r : Numbers). Within r (up state)) (sym (get_or-map f xs i d nothing l)) w

  at_up : (i : ℕ) (d : X) → i < length xs → Within (get_or (map f xs) i nothing) (up state) → Up (get_or xs i d)
  at_up i d l w = subst (λ (r : Numbers). Within r (up state)) (get_or-map f xs i d nothing l) w

  -- what `any` answered of the rows
  pub row_found : (b : Bool) → length xs ≤ 4096 → MatchBool b ((k : ℕ) × (k < length xs) × HoldsAt Up xs k) (AllWithin (λ x. Up x → ⊥) xs 0 (length xs)) → Decides b (RowUp state.count (map f xs) (up state))
  row_found true few m =
      let v = up_at m.0 (first_of xs m.0 m.1) m.1 (m.2 (first_of xs m.0 m.1)) in
      (λ _. record { few = simp length-map few; row = m.0; there = simp length-map m.1; inside = λ k t. up_below state k (v k t); up = v }, λ _. refl)
  row_found false few none = (
    λ e. absurd (false≢true e),
    λ u.
        let l = simp length-map at u.there in
        let d = first_of xs u.row l in absurd (none u.row d (omega arith) l (at_up u.row d l u.up)),
  )

-- ---- the drawing

pub each_low : {X : Type 0} (f : X → Numbers) (xs : List X) → ((x : X) → Below 256 (f x)) → EachRow (map f xs) (Below 256)
each_low f [] low i l = absurd (not-suc-le-zero l)
each_low f (x ∷ xs) low zero l = low x
each_low f (x ∷ xs) low (suc i) l = each_low f xs low i (le_of_suc-le-suc l)

module _ (items : ℕ) (rows : List Numbers) (state : State) where
  abbrev Drawn : Type 0
  Drawn = WorksIn (row_structure items rows) state

  pub decides_drawn : (r : Bool) → state.count ≡ items → EachRow rows (Below 256) → Decides r (RowUp state.count rows (up state)) → Decides r Drawn
  decides_drawn r e low d =
      let at : ℕ → Type 0 = λ n. RowUp n rows (up state) in
      let rule = decides_rows items (up state) rows low in (
        λ t. (e, true_holds (rows_work items rows (up state)) (rule.1 (subst at e (d.0 t)))),
        λ w. d.1 (subst at (sym e) (rule.0 (holds_true (rows_work items rows (up state)) w.1))),
      )
