-- What splits and their halves keep.
use Rattle.std.proofs.Common.{◌≡◌, ℕ, zero, suc, ◌+◌, ◌-◌, ◌*◌, ◌<◌, ◌≤◌, Bool, true, false, cond, not, ◌&&◌, T, eqb, List, [], ◌∷◌, length, sym, refl, ap, ◌∙◌, subst, ⊎_elim, arith, lt→ltb}
use Rattle.std.proofs.lemmas.Bool.{cases_Bool, cases_eq, cond_both, cond-true, cond-false, eqb-true, eq-eqb, ne_eqb, lt-ltb, both_ways}
use Rattle.sets.specs.Sets.{Numbers, Within, Below}
use Rattle.systems.specs.Systems.{Works, Fails}
use Rattle.systems.specs.States.{up, marked}
use Rattle.duality.specs.Halves.{turned, backed, Agrees, least, greatest, Fresh, Covered, Settled, Half}
use Rattle.duality.specs.declared.splits.Frame.{Frame}
use Rattle.systems.specs.declared.state.State.{State}

over : (t b c x : Bool) → cond t b (cond t c x) ≡ cond t b x
over true b c x = refl
over false b c x = refl

-- a mark that is put where it stands
pub kept_mark : (t : Numbers) (i j : ℕ) (b : Bool) → t i ≡ b → cond (eqb j i) b (t j) ≡ t j
kept_mark t i j b e =
    cond_both (eqb j i) b (t j) (λ x. x ≡ t j) (λ h. sym e ∙ ap t (sym (eqb-true j i h))) (λ _. refl)

-- ---- the states of a half lie between its least and its greatest
agrees_low : (fs : List Frame) (s : Numbers) → Agrees fs s → Within (least fs) s
agrees_low [] s a k t = absurd t
agrees_low (f ∷ fs) s a k t =
    ⊎_elim
    (λ e. let m : T f.up = subst (λ (x : Bool). T x) (cond-true (eqb k f.item) f.up (least fs k) e) t in subst (λ (x : ℕ). T (s x)) (sym (eqb-true k f.item e)) (subst (λ (x : Bool). T x) (sym a.0) m))
    (λ e. agrees_low fs s a.1 k (subst (λ (x : Bool). T x) (cond-false (eqb k f.item) f.up (least fs k) e) t))
    (cases_Bool (eqb k f.item))

agrees_high : (n : ℕ) (fs : List Frame) (s : Numbers) → Below n s → Agrees fs s → Within s (greatest n fs)
agrees_high n [] s b a k t = lt→ltb k n (b k t)
agrees_high n (f ∷ fs) s b a k t =
    cond_both (eqb k f.item) f.up (greatest n fs k) (λ x. T x)
    (λ e. subst (λ (x : Bool). T x) a.0 (subst (λ (x : ℕ). T (s x)) (eqb-true k f.item e) t))
    (λ _. agrees_high n fs s b a.1 k t)

-- a path that is up in the least state of the half is up in each, and a cut that is down in the greatest is down in each
pub closed_by_path : (n : ℕ) (ps : List Numbers) (fs : List Frame) (low high : State) → Half n fs low high → Works ps (up low) → (s : Numbers) → Below n s → Agrees fs s → Works ps s
closed_by_path n ps fs low high h w s b a =
    record { row = w.row; there = w.there; up = λ k m. agrees_low fs s a k (subst (λ (x : Bool). T x) (h.lows k) (w.up k m)) }

pub closed_by_cut : (n : ℕ) (cs : List Numbers) (fs : List Frame) (low high : State) → Half n fs low high → Fails cs (up high) → (s : Numbers) → Below n s → Agrees fs s → Fails cs s
closed_by_cut n cs fs low high h w s b a =
    record { row = w.row; there = w.there; down = λ k m t. w.down k m (subst (λ (x : Bool). T x) (sym (h.highs k)) (agrees_high n fs s b a k t)) }

-- ---- once a half is closed
module _ (n : ℕ) (ps cs : List Numbers) where
  both_halves : (f : Frame) (fs : List Frame) → f.up ≡ false → Settled n ps cs (f ∷ fs) → ((s : Numbers) → Below n s → Agrees (f ∷ fs) s → Covered ps cs s) → (s : Numbers) → Below n s → Agrees fs s → Covered ps cs s
  both_halves f fs e o h s b a =
      ⊎_elim (λ t. o.0 e s b a t) (λ u. h s b (u ∙ sym e, a)) (cases_Bool (s f.item))

  pub settled_back : (fs : List Frame) → Settled n ps cs fs → ((s : Numbers) → Below n s → Agrees fs s → Covered ps cs s) → Settled n ps cs (backed fs)
  settled_back [] o h = tt
  settled_back (f ∷ fs) o h =
      cond_both f.up (turned f ∷ fs) (backed fs) (Settled n ps cs)
      (λ e. ((λ _ s b a t. h s b (t ∙ sym e, a)), o.1))
      (λ e. settled_back fs o.1 (both_halves f fs e o h))

  pub all_back : (fs : List Frame) → Settled n ps cs fs → ((s : Numbers) → Below n s → Agrees fs s → Covered ps cs s) → backed fs ≡ [] → (s : Numbers) → Below n s → Covered ps cs s
  all_back [] o h = λ e s b. h s b tt
  all_back (f ∷ fs) o h =
      cond_both f.up (turned f ∷ fs) (backed fs) (λ l. l ≡ [] → (s : Numbers) → Below n s → Covered ps cs s)
      (λ _ e. let z : ◌≡◌ {A = ℕ} 0 1 = cc in absurd (omega arith))
      (λ e. all_back fs o.1 (both_halves f fs e o h))

-- ---- how much is left to try: a number that falls with each step
abbrev pub leaves : ℕ → ℕ
leaves zero = 1
leaves (suc k) = 3 * leaves k

-- the second halves that are still to come
abbrev pub later : ℕ → List Frame → ℕ
later n [] = 0
later n (f ∷ fs) = later n fs + cond f.up (leaves (n - suc (length fs))) 0

abbrev pub left : ℕ → List Frame → ℕ
left n fs = later n fs + leaves (n - length fs)

leaves_pos : (k : ℕ) → 0 < leaves k
leaves_pos zero = omega arith
leaves_pos (suc k) = omega (arith, leaves_pos k)

pub left_push : (n k : ℕ) (fs : List Frame) → length fs < n → left n (record { item = k; up = true } ∷ fs) < left n fs
left_push n k fs h =
    let e : n - length fs ≡ suc (n - suc (length fs)) = omega arith in
    let l : leaves (n - length fs) ≡ 3 * leaves (n - suc (length fs)) = ap leaves e in
    omega (arith, leaves_pos (n - suc (length fs)))

left_back_le : (n : ℕ) (fs : List Frame) → (backed fs ≡ [] → ⊥) → left n (backed fs) ≤ later n fs
left_back_le n [] = λ ne. absurd (ne refl)
left_back_le n (f ∷ fs) =
    cond_both f.up (turned f ∷ fs) (backed fs) (λ l. (l ≡ [] → ⊥) → left n l ≤ later n (f ∷ fs))
    (λ e _. omega (arith, cond-true f.up (leaves (n - suc (length fs))) 0 e))
    (λ e ne. omega (arith, left_back_le n fs ne))

pub left_back : (n : ℕ) (fs : List Frame) → (backed fs ≡ [] → ⊥) → left n (backed fs) < left n fs
left_back n fs ne = omega (arith, left_back_le n fs ne, leaves_pos (n - length fs))

-- ---- the two states of a half, from step to step
-- b is a with the item k up or down
pub record Marks (a b : State) (k : ℕ) (m : Bool) : Type 0 where
  pub count : b.count ≡ a.count
  pub marks : (j : ℕ) → up b j ≡ cond (eqb j k) m (up a j)

pub marks_in : (a b : State) (k : ℕ) (m : Bool) → k < a.count → b.count ≡ a.count → ((j : ℕ) → up b j ≡ marked a.count k m (up a) j) → Marks a b k m
marks_in a b k m lt e h = record { count = e; marks = λ j. h j ∙ ap (λ t. cond (t && eqb j k) m (up a j)) (lt-ltb k a.count lt) }

pub half_turn : (n : ℕ) (f : Frame) (fs : List Frame) (low high low' high' : State) → Half n (f ∷ fs) low high → Marks low low' f.item false → Marks high high' f.item false → Half n (turned f ∷ fs) low' high'
half_turn n f fs low high low' high' h p q =
    record {
      low_count = p.count ∙ h.low_count;
      high_count = q.count ∙ h.high_count;
      lows = λ j. p.marks j ∙ ap (λ x. cond (eqb j f.item) false x) (h.lows j) ∙ over (eqb j f.item) false f.up (least fs j);
      highs = λ j. q.marks j ∙ ap (λ x. cond (eqb j f.item) false x) (h.highs j) ∙ over (eqb j f.item) false f.up (greatest n fs j);
      fresh = h.fresh;
    }

pub half_pop : (n : ℕ) (f : Frame) (fs : List Frame) (low high low' high' : State) → Half n (f ∷ fs) low high → Marks low low' f.item false → Marks high high' f.item true → Half n fs low' high'
half_pop n f fs low high low' high' h p q =
    record {
      low_count = p.count ∙ h.low_count;
      high_count = q.count ∙ h.high_count;
      lows = λ j. p.marks j ∙ ap (λ x. cond (eqb j f.item) false x) (h.lows j) ∙ over (eqb j f.item) false f.up (least fs j) ∙ kept_mark (least fs) f.item j false h.fresh.1;
      highs = λ j. q.marks j ∙ ap (λ x. cond (eqb j f.item) true x) (h.highs j) ∙ over (eqb j f.item) true f.up (greatest n fs j) ∙ kept_mark (greatest n fs) f.item j true h.fresh.2;
      fresh = h.fresh.3;
    }

pub half_push : (n k : ℕ) (fs : List Frame) (low high low' : State) → Half n fs low high → k < n → up low k ≡ false → up high k ≡ true → Marks low low' k true → Half n (record { item = k; up = true } ∷ fs) low' high
half_push n k fs low high low' h lt l u p =
    record {
      low_count = p.count ∙ h.low_count;
      high_count = h.high_count;
      lows = λ j. p.marks j ∙ ap (λ x. cond (eqb j k) true x) (h.lows j);
      highs = λ j. h.highs j ∙ sym (kept_mark (greatest n fs) k j true (sym (h.highs k) ∙ u));
      fresh = (lt, sym (h.lows k) ∙ l, sym (h.highs k) ∙ u, h.fresh);
    }

-- ---- there are at most as many splits as items: those that are left undecided are counted
free : (ℕ → Bool) → ℕ → ℕ
free t zero = 0
free t (suc m) = free t m + cond (t m) 1 0

free_all : (t : ℕ → Bool) (m : ℕ) → ((k : ℕ) → k < m → t k ≡ true) → free t m ≡ m
unfolding free
free_all t zero h = refl
free_all t (suc m) h =
    omega (arith, free_all t m (λ k l. h k (omega arith)), cond-true {A = ℕ} (t m) 1 0 (h m (omega arith)))

free_same : (t u : ℕ → Bool) (m : ℕ) → ((k : ℕ) → k < m → u k ≡ t k) → free u m ≡ free t m
unfolding free
free_same t u zero h = refl
free_same t u (suc m) h =
    let e : ◌≡◌ {A = ℕ} (cond (u m) 1 0) (cond (t m) 1 0) = ap (λ (b : Bool). cond {A = ℕ} b 1 0) (h m (omega arith)) in
    omega (arith, free_same t u m (λ k l. h k (omega arith)))

free_less : (t u : ℕ → Bool) (i m : ℕ) → i < m → t i ≡ true → u i ≡ false → ((k : ℕ) → (k ≡ i → ⊥) → u k ≡ t k) → free u m + 1 ≡ free t m
unfolding free
free_less t u i zero l a b h = absurd (omega arith)
free_less t u i (suc m) l a b h =
    ⊎_elim
    (λ (e : m ≡ i).
    let x : ◌≡◌ {A = ℕ} (cond (t m) 1 0) 1 = cond-true {A = ℕ} (t m) 1 0 (ap t e ∙ a) in
    let y : ◌≡◌ {A = ℕ} (cond (u m) 1 0) 0 = cond-false {A = ℕ} (u m) 1 0 (ap u e ∙ b) in
    omega (arith, free_same t u m (λ k lt. h k (omega arith))))
    (λ ne.
    let e : ◌≡◌ {A = ℕ} (cond (u m) 1 0) (cond (t m) 1 0) = ap (λ (b : Bool). cond {A = ℕ} b 1 0) (h m ne) in
    omega (arith, free_less t u i m (omega arith) a b h))
    (cases_eq m i)

undecided : ℕ → List Frame → ℕ → Bool
undecided n fs k = not (least fs k) && greatest n fs k

both_alike : (t : Bool) (b x y : Bool) → t ≡ true → (not (cond t b x) && cond t b y) ≡ false
both_alike true true x y e = refl
both_alike true false x y e = refl
both_alike false b x y e = absurd (both_ways false refl e)

neither : (t : Bool) (b x y : Bool) → t ≡ false → (not (cond t b x) && cond t b y) ≡ (not x && y)
neither true b x y e = absurd (both_ways true e refl)
neither false b x y e = refl

count_fresh : (n : ℕ) (fs : List Frame) → Fresh n fs → free (undecided n fs) n + length fs ≡ n
unfolding undecided
count_fresh n [] h = omega (arith, free_all (undecided n []) n (λ k l. lt-ltb k n l))
count_fresh n (f ∷ fs) h =
    let a : undecided n fs f.item ≡ true = ap (λ (x : Bool). not x && greatest n fs f.item) h.1 ∙ h.2 in
    let b : undecided n (f ∷ fs) f.item ≡ false = both_alike (eqb f.item f.item) f.up (least fs f.item) (greatest n fs f.item) (eq-eqb f.item f.item refl) in
    omega (arith, count_fresh n fs h.3, free_less (undecided n fs) (undecided n (f ∷ fs)) f.item n h.0 a b (λ k ne. neither (eqb k f.item) f.up (least fs k) (greatest n fs k) (ne_eqb k f.item ne)))

pub fresh_short : (n : ℕ) (fs : List Frame) → Fresh n fs → length fs ≤ n
fresh_short n fs h = omega (arith, count_fresh n fs h)
