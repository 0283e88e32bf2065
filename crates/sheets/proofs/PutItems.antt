-- The first numbers of a long list decide what a put replies: among more numbers than items one is out of range or stands twice.
use Rattle.std.proofs.Common.{◌≡◌, ℕ, zero, suc, ◌+◌, ◌<◌, ◌≤◌, true, false, List, [], ◌∷◌, ◌++◌, length, get_or, take, sym, ap, ◌∙◌, subst, ⊎_elim, arith}
use Rattle.std.proofs.lemmas.Bool.{cases_lt}
use Rattle.std.proofs.lemmas.List.{take_more, take_all, take-take, length-take, length-take-le, get_or-take}
use Rattle.sets.specs.Sets.{Numbers, with, count, listed}
use Rattle.sets.specs.Counts.{count_same, count_with, count_none}
use Rattle.systems.proofs.Chains.{count_most}
use Rattle.tables.proofs.Gathering.{listed_push}
use Rattle.tables.specs.Refusals.{Reply}
use Rattle.tables.specs.Calls.{Passes, Pass, ItemRefused, no_such_item, repeated, cannot_hold, Puts, put_closed, put_item, put_contains, put_full, put_done}

module _ (n : ℕ) (holds : Numbers → Type 0) (ks : List ℕ) where
  -- as many members as items that pass
  counted : (m : ℕ) → m ≤ length ks → Pass n holds ks m → count (listed (take m ks)) n ≡ m
  counted zero h pass = count_none n
  counted (suc m) h pass =
      let here = pass m (omega arith) in
      let more : count (listed (take (m + 1) ks)) n ≡ count (with (listed (take m ks)) (get_or ks m 0)) n =
      ap (λ (z : List ℕ). count (listed z) n) (take_more ks m 0 (omega arith)) ∙ count_same (listed (take m ks ++ get_or ks m 0 ∷ [])) (with (listed (take m ks)) (get_or ks m 0)) n (λ k l. ap (λ (s : Numbers). s k) (listed_push (take m ks) (get_or ks m 0))) in
      let step = count_with (listed (take m ks)) n (get_or ks m 0) here.below here.once in
      let rest = counted m (omega arith) (λ i l. pass i (omega arith)) in
      let s : suc m ≡ m + 1 = omega arith in
      rw s (omega arith)

  at_most : (m : ℕ) → m ≤ length ks → Pass n holds ks m → m ≤ n
  at_most m h pass = let c = counted m h pass in let d = count_most (listed (take m ks)) n in omega arith

-- what is said of the first m numbers is said of the list
module _ (n m : ℕ) (holds : Numbers → Type 0) (ks : List ℕ) where
  passes_whole : (i : ℕ) → i < m → Passes n holds (take m ks) i → Passes n holds ks i
  passes_whole i lt p =
      let here : get_or (take m ks) i 0 ≡ get_or ks i 0 = get_or-take m ks i 0 lt in
      let front : take i (take m ks) ≡ take i ks = take-take i m ks (omega arith) in
      let next : take (i + 1) (take m ks) ≡ take (i + 1) ks = take-take (i + 1) m ks (omega arith) in
      record {
        below = subst (λ (x : ℕ). x < n) here p.below;
        once = subst (λ (x : ℕ). listed (take i ks) x ≡ false) here (subst (λ (l : List ℕ). listed l (get_or (take m ks) i 0) ≡ false) front p.once);
        held = subst (λ (l : List ℕ). holds (listed l)) next p.held;
      }

  pass_whole : (i : ℕ) → i ≤ m → Pass n holds (take m ks) i → Pass n holds ks i
  pass_whole i le pass k lt = passes_whole k (omega arith) (pass k lt)

  refused_whole : (number : ℕ) (values : List ℕ) → ItemRefused n holds (take m ks) number values → ItemRefused n holds ks number values
  refused_whole number values (no_such_item i lt pass high) =
      let long = length-take m ks in
      let l : i < m = omega arith in
      let here = get_or-take m ks i 0 l in
      no_such_item i (omega arith) (pass_whole i (omega arith) pass) (omega arith)
  refused_whole number values (repeated i lt pass low twice) =
      let long = length-take m ks in
      let l : i < m = omega arith in
      let here = get_or-take m ks i 0 l in
      repeated i (omega arith) (pass_whole i (omega arith) pass) (omega arith)
      (subst (λ (x : ℕ). listed (take i ks) x ≡ true) here (subst (λ (z : List ℕ). listed z (get_or (take m ks) i 0) ≡ true) (take-take i m ks (omega arith)) twice))
  refused_whole number values (cannot_hold i lt pass low once unheld) =
      let long = length-take m ks in
      let l : i < m = omega arith in
      let here = get_or-take m ks i 0 l in
      cannot_hold i (omega arith) (pass_whole i (omega arith) pass) (omega arith)
      (subst (λ (x : ℕ). listed (take i ks) x ≡ false) here (subst (λ (z : List ℕ). listed z (get_or (take m ks) i 0) ≡ false) (take-take i m ks (omega arith)) once))
      (λ k. unheld (subst (λ (z : List ℕ). holds (listed z)) (sym (take-take (i + 1) m ks (omega arith))) k))

  module _ (capacity : ℕ) (rows : List Numbers) (more : n < m) where
    too_many : m < length ks → Pass n holds (take m ks) (length (take m ks)) → ⊥
    too_many long pass =
        let l = length-take-le m ks (omega arith) in
        let le = at_most n holds (take m ks) (length (take m ks)) (omega arith) pass in
        omega arith

    long_puts : m < length ks → (r : Reply ℕ) (qs : List Numbers) → Puts n capacity holds rows (take m ks) r qs → Puts n capacity holds rows ks r qs
    long_puts long r qs (put_closed e) = put_closed e
    long_puts long r qs (put_item number values pos h) = put_item number values pos (refused_whole number values h)
    long_puts long r qs (put_contains i pos pass h) = absurd (too_many long pass)
    long_puts long r qs (put_full pos pass new e whole) = absurd (too_many long pass)
    long_puts long r qs (put_done pos pass new room) = absurd (too_many long pass)

    -- a put of the first m numbers is a put of the list
    pub puts_whole : (r : Reply ℕ) (qs : List Numbers) → Puts n capacity holds rows (take m ks) r qs → Puts n capacity holds rows ks r qs
    puts_whole r qs h = ⊎_elim
        (λ (long : m < length ks). long_puts long r qs h)
        (λ (short : length ks ≤ m). subst (λ (z : List ℕ). Puts n capacity holds rows z r qs) (take_all m ks short) h)
        (cases_lt m (length ks))
