-- What comes out of a half, and what the halves that were split tell of it.
use mathlib.Core.Path.{fun_ext}
use Rattle.std.proofs.Common.{◌≡◌, ℕ, ◌+◌, ◌<◌, ◌≤◌, Bool, true, false, cond, ◌⊎◌, List, [], ◌∷◌, length, eqb, sym, ap, ◌∙◌, subst, inl, inr, ⊎_elim, arith}
use Rattle.std.proofs.lemmas.Bool.{cases_lt, cond_both, both_ways}
use Rattle.sets.specs.Sets.{Numbers, Within, Below}
use Rattle.systems.specs.Systems.{Works, Fails}
use Rattle.systems.specs.States.{up}
use Rattle.duality.specs.Halves.{backed, turned, least, greatest, Agrees, Covered, Half, Fresh}
use Rattle.duality.specs.Searches.{Undecided}
use Rattle.duality.specs.declared.splits.Frame.{Frame}
use Rattle.systems.specs.declared.state.State.{State}
use Rattle.duality.proofs.Halving.{closed_by_path, closed_by_cut, fresh_short, kept_mark}

pub closed : (n : ℕ) (ps cs : List Numbers) (fs : List Frame) (low high : State) → Half n fs low high → Works ps (up low) ⊎ Fails cs (up high) → (s : Numbers) → Below n s → Agrees fs s → Covered ps cs s
closed n ps cs fs low high h w s b a =
    ⊎_elim (λ p. inl (closed_by_path n ps fs low high h p s b a)) (λ d. inr (closed_by_cut n cs fs low high h d s b a)) w

-- a half that has to be split has an item that is undecided
pub some_undecided : (ps cs : List Numbers) (low high : Numbers) → Undecided ps cs low high → Within high low → ⊥
some_undecided ps cs low high u h = u.no_path (record { row = u.path.row; there = u.path.there; up = λ k m. h k (u.path.up k m) })

pub room : (n k : ℕ) (fs : List Frame) (low high : State) → Half n fs low high → k < high.count → up low k ≡ false → up high k ≡ true → length fs < n
room n k fs low high h lt l u =
    let fresh : Fresh n (record { item = k; up = true } ∷ fs) = ((omega (arith, h.high_count)), sym (h.lows k) ∙ l, sym (h.highs k) ∙ u, h.fresh) in
    let short = fresh_short n (record { item = k; up = true } ∷ fs) fresh in
    omega arith

-- an item that is up is one that the state has
pub below_count : (s : State) (k : ℕ) → up s k ≡ true → k < s.count
below_count s k e = ⊎_elim (λ lt. lt) (λ ge. absurd (both_ways (up s k) (s.down k ge) e)) (cases_lt k s.count)

-- ---- the halves that were split
module _ (n : ℕ) (ps cs : List Numbers) where
  -- each split from the place d on was of a half that had to be split
  abbrev pub OpenSince : ℕ → List Frame → Type 0
  OpenSince d [] = Unit {0}
  OpenSince d (f ∷ fs) = (d ≤ length fs → Undecided ps cs (least fs) (greatest n fs)) × OpenSince d fs

  pub since_later : (d : ℕ) (fs : List Frame) → length fs ≤ d → OpenSince d fs
  since_later d [] few = tt
  since_later d (f ∷ fs) few = ((λ le. absurd (omega arith)), since_later d fs (omega arith))

  pub since_push : (d : ℕ) (f : Frame) (fs : List Frame) (low high : State) → Half n fs low high → Undecided ps cs (up low) (up high) → OpenSince d fs → OpenSince d (f ∷ fs)
  since_push d f fs low high h u k =
      ((λ _. subst (λ t. Undecided ps cs t (greatest n fs)) (fun_ext h.lows) (subst (λ t. Undecided ps cs (up low) t) (fun_ext h.highs) u)), k)

  since_back : (d : ℕ) (fs : List Frame) → OpenSince d fs → OpenSince d (backed fs)
  since_back d [] k = tt
  since_back d (f ∷ fs) k = cond_both f.up (turned f ∷ fs) (backed fs) (OpenSince d) (λ _. k) (λ _. since_back d fs k.1)

  pub since_backed : (d : ℕ) (fs gs : List Frame) → gs ≡ backed fs → OpenSince d fs → OpenSince d gs
  since_backed d fs gs e k = subst (OpenSince d) (sym e) (since_back d fs k)

first_up : List Frame → Bool
first_up [] = false
first_up (f ∷ fs) = f.up

turned_down : (fs : List Frame) (g : Frame) (rest : List Frame) → backed fs ≡ g ∷ rest → g.up ≡ false
unfolding first_up
turned_down [] g rest = λ e. absurd (omega (arith, ap length e))
turned_down (f ∷ fs) g rest =
    cond_both f.up (turned f ∷ fs) (backed fs) (λ l. l ≡ g ∷ rest → g.up ≡ false)
    (λ _ e. sym (ap first_up e))
    (λ _ e. turned_down fs g rest e)

-- ---- in the second half of a split the least state is that of the half which was split
pub split_least : (n : ℕ) (fs : List Frame) (g : Frame) (rest : List Frame) (low high : State) → g ∷ rest ≡ backed fs → Half n (g ∷ rest) low high → up low ≡ least rest
split_least n fs g rest low high e h =
    let down : g.up ≡ false = turned_down fs g rest (sym e) in
    fun_ext (λ j. h.lows j ∙ ap (λ b. cond (eqb j g.item) b (least rest j)) down ∙ kept_mark (least rest) g.item j false h.fresh.1)

pub split_low : (n : ℕ) (ps cs : List Numbers) (d split : ℕ) (fs gs : List Frame) (low high : State) → OpenSince n ps cs d gs → gs ≡ backed fs → length gs ≡ split + 1 → d ≤ split → Half n gs low high → Fails cs (up low) × (Works ps (up low) → ⊥)
split_low n ps cs d split fs [] low high k e long le h = absurd (omega arith)
split_low n ps cs d split fs (g ∷ rest) low high k e long le h =
    let u : Undecided ps cs (least rest) (greatest n rest) = k.0 (omega arith) in
    subst (λ s. Fails cs s × (Works ps s → ⊥)) (sym (split_least n fs g rest low high e h)) (u.cut, u.no_path)
