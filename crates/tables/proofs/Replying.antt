-- What `put`, `strike` and `row` reply, from what their parts found in the memory.
use Rattle.std.proofs.Common.{◌≡◌, ℕ, ◌+◌, ◌-◌, ◌<◌, ◌≤◌, List, [], ◌∷◌, ◌++◌, map, length, get_or, take, drop, set, sym, ap, ◌∙◌, subst, arith}
use Rattle.std.proofs.lemmas.List.{length-map, length-take-le, get_or-map}
use Rattle.sets.specs.Sets.{Numbers, nothing, Below, listed}
use Rattle.tables.specs.Memory.{Standing}
use Rattle.tables.specs.Rows.{ContainsNone, LowestContained, stays, staying, after_put}
use Rattle.tables.specs.Refusals.{answered, refused}
use Rattle.tables.specs.Calls.{RowRefused, row_closed, no_such_row, Pass, Puts, put_contains, put_full, put_done, Strikes, strike_closed, strike_none, Shows, show_closed, show_none, show_done}
use Rattle.tables.proofs.Changing.{standing_front, standing_push, length_front}
use Rattle.tables.proofs.Reading.{standing_many}
use Rattle.tables.proofs.Sifting.{kept_whole}
use Rattle.tables.proofs.Gathering.{pass_below}

module _ (n : ℕ) (ps : List Numbers) (row count : ℕ) (many : length ps ≡ count) where
  pub strikes_refused : (number : ℕ) (values : List ℕ) → RowRefused n count row number values → Strikes n ps row (refused number values) ps
  strikes_refused number values (row_closed e) = strike_closed e
  strikes_refused number values (no_such_row pos le) = subst (λ k. Strikes n ps row (refused 7 (k ∷ [])) ps) many (strike_none pos (omega arith))

  pub shows_refused : (number : ℕ) (values : List ℕ) → RowRefused n count row number values → Shows n ps row (refused number values)
  shows_refused number values (row_closed e) = show_closed e
  shows_refused number values (no_such_row pos le) = subst (λ k. Shows n ps row (refused 7 (k ∷ []))) many (show_none pos (omega arith))

pub shows_done : {X : Type 0} (mem : X → Numbers) (n : ℕ) (ps : List Numbers) (xs : List X) (row : ℕ) (x : X) → 1 ≤ n → row < length xs → map mem xs ≡ ps → Shows n ps row (answered (mem (get_or xs row x)))
shows_done mem n ps xs row x pos lt e =
    let at : get_or ps row nothing ≡ mem (get_or xs row x) = ap (λ l. get_or l row nothing) (sym e) ∙ get_or-map mem xs row x nothing lt in
    subst (λ v. Shows n ps row (answered v)) at (show_done pos (omega (arith, length-map xs mem, ap length e)))

-- the items pass, and the place x means their set; xs is the memory, and ps its rows
module _ {X : Type 0} (mem : X → Numbers) (n : ℕ) (holds : Numbers → Type 0) (items : List ℕ) (x : X) (pos : 1 ≤ n) (pass : Pass n holds items (length items)) (is : mem x ≡ listed items)
    (xs : List X) (capacity count : ℕ) (ps : List Numbers) (le : count ≤ capacity) (inside : capacity ≤ length xs) (st : Standing mem xs capacity count ps) where
  pub puts_contains : (i : ℕ) → LowestContained ps (mem x) i → Puts n capacity holds ps items (refused 5 (i ∷ [])) ps
  puts_contains i h = put_contains i pos pass (rw is at h)

  -- x contains no row; the first places become ys once the rows that contain x are gone
  module _ (new : ContainsNone ps (mem x)) (ys : List X) (stay : ℕ) (long : length ys ≡ length (take count xs)) (fewer : stay ≤ length (take count xs))
      (others : (m : ℕ) → Below m (mem x) → Standing mem ys (length (take count xs)) stay (staying m (map mem (take count xs)) (mem x))) where
    front : length (take count xs) ≡ count
    front = length-take-le count xs (omega arith)

    many : length ps ≡ count
    many = standing_many {mem = mem} {xs = xs} (omega arith) st

    stayed : Standing mem ys count stay (staying n ps (mem x))
    stayed = rw (front, st.stand) at others n (rw is (pass_below n holds items pass))

    many_stay : length (staying n ps (mem x)) ≡ stay
    many_stay = standing_many {mem = mem} {xs = ys} (omega arith) stayed

    after : Standing mem (ys ++ drop count xs) capacity stay (staying n ps (mem x))
    after = standing_front xs ys count (long ∙ front) capacity stay _ (omega (arith, front)) stayed st.behind

    pub puts_full : stay ≡ capacity → Puts n capacity holds ps items (refused 6 (stay ∷ [])) ps × Standing mem (ys ++ drop count xs) capacity count ps
    puts_full full =
        let same : stay ≡ count = omega (arith, front) in
        let whole : staying n ps (mem x) ≡ ps = kept_whole (stays n (mem x)) ps (omega (arith, many_stay, many)) in
        (subst (λ k. Puts n capacity holds ps items (refused 6 (k ∷ [])) ps) (sym full) (put_full pos pass (rw is at new) (omega (arith, many)) (rw is at whole)), rw (same, whole) at after)

    pub puts_done : stay < capacity → Puts n capacity holds ps items (answered (count - stay)) (after_put n ps (listed items)) × Standing mem (set (ys ++ drop count xs) stay x) capacity (stay + 1) (after_put n ps (listed items))
    puts_done room =
        let gone : length ps - length (staying n ps (listed items)) ≡ count - stay = rw (← is, many, many_stay) in (
          subst (λ k. Puts n capacity holds ps items (answered k) (after_put n ps (listed items))) gone (put_done pos pass (rw is at new) (rw (← is) (omega (arith, many_stay)))),
          rw (← is) (standing_push x (omega (arith, length_front xs ys count (long ∙ front) (omega arith))) after),
        )
