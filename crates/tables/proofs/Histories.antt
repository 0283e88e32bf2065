-- The rows of every past are sound, and puts and strikes go on with a past.
use Rattle.std.proofs.Common.{◌≡◌, ℕ, zero, suc, ◌+◌, ◌<◌, ◌≤◌, Bool, true, false, cond, ltb, ◌⊎◌, List, [], ◌∷◌, ◌++◌, length, get_or, filter, sym, refl, ap, ◌∙◌, subst, inl, inr, ⊎_elim, arith}
use Rattle.std.specs.List.{remove}
use Rattle.std.proofs.lemmas.List.Edits.{length-remove, get_or-remove_below, get_or-remove_above}
use Rattle.std.proofs.lemmas.List.{length_push, get_or_append_left, get_or_push}
use Rattle.std.proofs.lemmas.Bool.{cases_lt, both_ways, cond_both, cond-true, cond-false, lt-ltb, le-ltb}
use Rattle.std.proofs.lemmas.Bool.Decides.{nat_tests}
use Rattle.sets.specs.Sets.{Numbers, nothing, Within, Below, listed}
use Rattle.systems.specs.Systems.{Structure, MinimalPath, MinimalCut, EachRow, Once, Antichain}
use Rattle.systems.proofs.Minimal.{minimal_path_back, minimal_cut_back, minimal_antichain}
use Rattle.tables.specs.Rows.{ContainsNone, stays, staying, after_put, Sound}
use Rattle.tables.specs.Refusals.{Reply}
use Rattle.tables.specs.Calls.{Puts, put_closed, put_item, put_contains, put_full, put_done, Strikes, strike_closed, strike_none, strike_done}
use Rattle.tables.specs.Pasts.{Accepted, Fit, Past, opened, path_put, cut_put, path_struck, cut_struck, completed, stopped, PastsAreSound, CallsGoOn}
use Rattle.tables.proofs.Sifting.{stays_no}
use Rattle.tables.proofs.Gathering.{pass_below, pass_held}

-- ---- some of the rows, in their order or not

-- each of ys stands in xs at a place of its own
record Part (xs ys : List Numbers) : Type 0 where
  place : ℕ → ℕ
  there : (i : ℕ) → i < length ys → place i < length xs
  same : (i : ℕ) → i < length ys → get_or ys i nothing ≡ get_or xs (place i) nothing
  own : (i j : ℕ) → i < length ys → j < length ys → place i ≡ place j → i ≡ j

part_each : (P : Numbers → Type 0) (xs ys : List Numbers) → Part xs ys → EachRow xs P → EachRow ys P
part_each P xs ys p each i h = subst P (sym (p.same i h)) (each (p.place i) (p.there i h))

part_antichain : (xs ys : List Numbers) → Part xs ys → Antichain xs → Antichain ys
part_antichain xs ys p anti i j hi hj w =
    p.own i j hi hj (anti (p.place i) (p.place j) (p.there i hi) (p.there j hj)
    (subst (λ s. Within s (get_or xs (p.place j) nothing)) (p.same i hi) (subst (Within (get_or ys i nothing)) (p.same j hj) w)))

part_none : (xs : List Numbers) → Part xs []
part_none xs = record { place = λ i. i; there = λ i h. absurd (omega arith); same = λ i h. absurd (omega arith); own = λ i j hi hj e. e }

part_skip : (x : Numbers) (xs ys : List Numbers) → Part xs ys → Part (x ∷ xs) ys
part_skip x xs ys p = record {
  place = λ i. suc (p.place i);
  there = λ i h. omega (arith, p.there i h);
  same = p.same;
  own = λ i j hi hj e. p.own i j hi hj (omega arith);
}

abbrev also_first : (ℕ → ℕ) → ℕ → ℕ
also_first f zero = 0
also_first f (suc i) = suc (f i)

module _ (x : Numbers) (xs ys : List Numbers) (p : Part xs ys) where
  first_there : (i : ℕ) → i < suc (length ys) → also_first p.place i < suc (length xs)
  first_there zero h = omega arith
  first_there (suc i) h = omega (arith, p.there i (omega arith))

  first_same : (i : ℕ) → i < suc (length ys) → get_or (x ∷ ys) i nothing ≡ get_or (x ∷ xs) (also_first p.place i) nothing
  first_same zero h = refl
  first_same (suc i) h = p.same i (omega arith)

  first_own : (i j : ℕ) → i < suc (length ys) → j < suc (length ys) → also_first p.place i ≡ also_first p.place j → i ≡ j
  first_own zero zero hi hj e = refl
  first_own zero (suc j) hi hj e = absurd (omega arith)
  first_own (suc i) zero hi hj e = absurd (omega arith)
  first_own (suc i) (suc j) hi hj e = ap suc (p.own i j (omega arith) (omega arith) (omega arith))

  part_first : Part (x ∷ xs) (x ∷ ys)
  part_first = record { place = also_first p.place; there = first_there; same = first_same; own = first_own }

kept_part : (q : Numbers → Bool) (xs : List Numbers) → Part xs (filter q xs)
kept_part q [] = part_none []
kept_part q (x ∷ xs) =
    elim (q x) as (λ b. Part (x ∷ xs) (cond b (x ∷ filter q xs) (filter q xs))) [
      | true ↦ part_first x xs (filter q xs) (kept_part q xs)
      | false ↦ part_skip x xs (filter q xs) (kept_part q xs)
    ]

pub kept_passes : (q : Numbers → Bool) (xs : List Numbers) → EachRow (filter q xs) (λ r. q r ≡ true)
kept_passes q [] i h = absurd (omega arith)
kept_passes q (x ∷ xs) i h = go (q x) refl (kept_passes q xs) i h where
  go : (b : Bool) → q x ≡ b → EachRow (filter q xs) (λ r. q r ≡ true) → EachRow (cond b (x ∷ filter q xs) (filter q xs)) (λ r. q r ≡ true)
  go true e rest zero h = e
  go true e rest (suc i) h = rest i (omega arith)
  go false e rest i h = rest i h

removed_part : (xs : List Numbers) (row : ℕ) → row < length xs → Part xs (remove xs row)
removed_part xs row lt =
    let n = length-remove xs row lt in
    record {
      place = λ i. cond (ltb i row) i (i + 1);
      there = λ i h. cond_both (ltb i row) i (i + 1) (λ k. k < length xs) (λ e. omega arith) (λ e. omega arith);
      same = λ i h. ⊎_elim
          (λ (l : i < row). get_or-remove_below xs row nothing i l lt ∙ ap (λ k. get_or xs k nothing) (sym (cond-true (ltb i row) i (i + 1) (lt-ltb i row l))))
          (λ (l : row ≤ i). get_or-remove_above xs row nothing i l lt ∙ ap (λ k. get_or xs k nothing) (sym (cond-false (ltb i row) i (i + 1) (le-ltb i row l))))
          (cases_lt i row);
      own = λ i j hi hj e. grind (arith, nat_tests);
    }

-- ---- a row more

push_cases : (xs : List Numbers) (r : Numbers) (i : ℕ) → i < length (xs ++ r ∷ []) → (i < length xs) ⊎ (length xs ≡ i)
push_cases xs r i h = let n = length_push xs r in ⊎_elim (λ (l : i < length xs). inl l) (λ (l : length xs ≤ i). inr (omega arith)) (cases_lt i (length xs))

push_each : (P : Numbers → Type 0) (xs : List Numbers) (r : Numbers) → EachRow xs P → P r → EachRow (xs ++ r ∷ []) P
push_each P xs r each p i h = ⊎_elim
    (λ (l : i < length xs). subst P (sym (get_or_append_left xs (r ∷ []) nothing i l)) (each i l))
    (λ (e : length xs ≡ i). subst P (sym (get_or_push xs r nothing i e)) p)
    (push_cases xs r i h)

push_antichain : (xs : List Numbers) (r : Numbers) → Antichain xs → ContainsNone xs r → EachRow xs (λ s. Within r s → ⊥) → Antichain (xs ++ r ∷ [])
push_antichain xs r anti new out i j hi hj w = ⊎_elim
    (λ (a : i < length xs). ⊎_elim
    (λ (b : j < length xs). anti i j a b (subst (λ s. Within s (get_or xs j nothing)) (left i a) (subst (Within (get_or (xs ++ r ∷ []) i nothing)) (left j b) w)))
    (λ (b : length xs ≡ j). absurd (new i a (subst (λ s. Within s r) (left i a) (subst (Within (get_or (xs ++ r ∷ []) i nothing)) (right j b) w))))
    (push_cases xs r j hj))
    (λ (a : length xs ≡ i). ⊎_elim
    (λ (b : j < length xs). absurd (out j b (subst (λ s. Within s (get_or xs j nothing)) (right i a) (subst (Within (get_or (xs ++ r ∷ []) i nothing)) (left j b) w))))
    (λ (b : length xs ≡ j). sym a ∙ b)
    (push_cases xs r j hj))
    (push_cases xs r i hi) where
      left : (k : ℕ) → k < length xs → get_or (xs ++ r ∷ []) k nothing ≡ get_or xs k nothing
      left k l = get_or_append_left xs (r ∷ []) nothing k l

      right : (k : ℕ) → length xs ≡ k → get_or (xs ++ r ∷ []) k nothing ≡ r
      right k e = get_or_push xs r nothing k e

-- ---- sound rows

module _ (n capacity : ℕ) (holds : Numbers → Type 0) (rows : List Numbers) where
  pub sound_put : (r : Numbers) → Accepted n capacity holds rows r → Sound n capacity holds rows → Sound n capacity holds (after_put n rows r)
  sound_put r a s =
      let p = kept_part (stays n r) rows in
      let left = staying n rows r in
      record {
        items = push_each (Below n) left r (part_each (Below n) rows left p s.items) a.items;
        held = push_each holds left r (part_each holds rows left p s.held) a.held;
        antichain = push_antichain left r (part_antichain rows left p s.antichain)
            (part_each (λ t. Within t r → ⊥) rows left p a.new)
            (λ i h w. both_ways (stays n r (get_or left i nothing)) (stays_no n r (get_or left i nothing) a.items w) (kept_passes (stays n r) rows i h));
        few = let l = length_push left r in omega (arith, a.room);
      }

  pub sound_struck : (row : ℕ) → row < length rows → Sound n capacity holds rows → Sound n capacity holds (remove rows row)
  sound_struck row lt s =
      let p = removed_part rows row lt in
      record {
        items = part_each (Below n) rows (remove rows row) p s.items;
        held = part_each holds rows (remove rows row) p s.held;
        antichain = part_antichain rows (remove rows row) p s.antichain;
        few = let l = length-remove rows row lt in omega (arith, s.few);
      }

  sound_minimal : (P : Numbers → Type 0) → ((s : Numbers) → P s → Below n s) → ((s t : Numbers) → P s → P t → Within s t → Within t s) → EachRow rows P → Once rows → Fit capacity holds rows → Sound n capacity holds rows
  sound_minimal P low back each once fit = record {
    items = λ i h. low (get_or rows i nothing) (each i h);
    held = fit.held;
    antichain = minimal_antichain P back rows each once;
    few = fit.few;
  }

  sound_paths : (φ : Structure) → φ.items ≡ n → EachRow rows (MinimalPath φ) → Once rows → Fit capacity holds rows → Sound n capacity holds rows
  sound_paths φ e = sound_minimal (MinimalPath φ) (λ s m. subst (λ k. Below k s) e m.items) (minimal_path_back φ)

  sound_cuts : (φ : Structure) → φ.items ≡ n → EachRow rows (MinimalCut φ) → Once rows → Fit capacity holds rows → Sound n capacity holds rows
  sound_cuts φ e = sound_minimal (MinimalCut φ) (λ s m. subst (λ k. Below k s) e m.items) (minimal_cut_back φ)

sound_none : (n capacity : ℕ) (holds : Numbers → Type 0) → Sound n capacity holds []
sound_none n capacity holds = record { items = λ i h. absurd (omega arith); held = λ i h. absurd (omega arith); antichain = λ i j hi hj w. absurd (omega arith); few = omega arith }

pub past_sound : (holds : Numbers → Type 0) → PastsAreSound holds
past_sound holds n a b ps cs opened = (sound_none n a holds, sound_none n b holds)
past_sound holds n a b ps cs (path_put {ps = qs} r ok past) = let s = past_sound holds n a b qs cs past in (sound_put n a holds qs r ok s.0, s.1)
past_sound holds n a b ps cs (cut_put {cs = ds} r ok past) = let s = past_sound holds n a b ps ds past in (s.0, sound_put n b holds ds r ok s.1)
past_sound holds n a b ps cs (path_struck {ps = qs} row lt past) = let s = past_sound holds n a b qs cs past in (sound_struck n a holds qs row lt s.0, s.1)
past_sound holds n a b ps cs (cut_struck {cs = ds} row lt past) = let s = past_sound holds n a b ps ds past in (s.0, sound_struck n b holds ds row lt s.1)
past_sound holds n a b ps cs (completed φ e p pf c cf past) = (sound_paths n a holds ps φ e p.each p.once pf, sound_cuts n b holds cs φ e c.each c.once cf)
past_sound holds n a b ps cs (stopped φ e p pf c cf past) = (sound_paths n a holds ps φ e p.minimal p.once pf, sound_cuts n b holds cs φ e c.minimal c.once cf)

-- ---- calls go on

module _ (holds : Numbers → Type 0) (none : holds nothing) (n : ℕ) where
  -- what holds of the rows before a put and of the rows after an accepted one holds after any put
  any_put : (capacity : ℕ) (P : List Numbers → Type 0) (rows after : List Numbers) (items : List ℕ) (r : Reply ℕ)
      → Puts n capacity holds rows items r after → P rows → ((s : Numbers) → Accepted n capacity holds rows s → P (after_put n rows s)) → P after
  any_put capacity P rows after items r (put_closed e) p q = p
  any_put capacity P rows after items r (put_item number values pos h) p q = p
  any_put capacity P rows after items r (put_contains i pos pass h) p q = p
  any_put capacity P rows after items r (put_full pos pass new e whole) p q = p
  any_put capacity P rows after items r (put_done pos pass new room) p q =
      q (listed items) (record { items = pass_below n holds items pass; held = pass_held n holds none items pass; new = new; room = room })

  any_strike : (P : List Numbers → Type 0) (rows after : List Numbers) (row : ℕ) (r : Reply (Unit {0}))
      → Strikes n rows row r after → P rows → (row < length rows → P (remove rows row)) → P after
  any_strike P rows after row r (strike_closed e) p q = p
  any_strike P rows after row r (strike_none pos h) p q = p
  any_strike P rows after row r (strike_done pos lt) p q = q lt

pub calls_go_on : (holds : Numbers → Type 0) → holds nothing → CallsGoOn holds
calls_go_on holds none = record {
  path_puts = λ n a b ps cs qs items r past h. any_put holds none n a (λ q. Past n a b holds q cs) ps qs items r h past (λ s ok. path_put s ok past);
  cut_puts = λ n a b ps cs ds items r past h. any_put holds none n b (λ d. Past n a b holds ps d) cs ds items r h past (λ s ok. cut_put s ok past);
  path_strikes = λ n a b ps cs qs row r past h. any_strike holds none n (λ q. Past n a b holds q cs) ps qs row r h past (λ lt. path_struck row lt past);
  cut_strikes = λ n a b ps cs ds row r past h. any_strike holds none n (λ d. Past n a b holds ps d) cs ds row r h past (λ lt. cut_struck row lt past);
}
