-- Rows that are the minimal paths or the minimal cuts of a structure function, and tables for the same system.
use Rattle.std.proofs.Common.{◌≡◌, ℕ, Bool, true, false, not, ◌&&◌, ◌||◌, T, ltb, ◌⊎◌, List, get_or, Decides, sym, subst, inl, inr, lt→ltb, T_not}
use lib.Dec.{not_T}
use Rattle.std.proofs.lemmas.Bool.{cases_Bool, both_ways, not-true, not_from_false, and_from}
use Rattle.std.proofs.lemmas.Bool.Decides.{Decides-like, not_from_Decides}
use Rattle.sets.specs.Sets.{Numbers, nothing, Within, Same, Below, within_below}
use Rattle.sets.specs.Truth.{and_T, T_and, or_T, holds_true, true_holds, fails_false}
use Rattle.sets.proofs.Deciding.{decides_within}
use Rattle.systems.specs.Systems.{Works, Fails, SameSystem, others, Structure, ProperSubset, MinimalPath, MinimalCut, Among, EachRow, Once, Antichain, Lists}
use Rattle.systems.specs.Duals.{others_below}
use Rattle.systems.proofs.Tables.{works_test, fails_test, decides_works, decides_fails}
use Rattle.systems.proofs.AllSets.{all_sets, all_sets_at}

both_same : (a b : Bool) → (T a → T b) → (T b → T a) → a ≡ b
both_same true b f g = sym (holds_true b (f tt))
both_same false b f g = sym (fails_false b g)

pub within_both : (s t : Numbers) → Within s t → Within t s → Same s t
within_both s t f g k = both_same (s k) (t k) (f k) (g k)

stays : (b : Bool) → (T (not b) → ⊥) → T b
stays true h = tt
stays false h = absurd (h tt)

-- no row contains another, and the rows tell for every set below n whether the test holds: some row is within it
module _ (n : ℕ) (test : Numbers → Bool) (rows : List Numbers) (low : EachRow rows (Below n)) (anti : Antichain rows)
    (tells : (s : Numbers) → Below n s → Decides (test s) (Works rows s)) where
  pub row_holds : EachRow rows (λ r. test r ≡ true)
  row_holds i h = (tells (get_or rows i nothing) (low i h)).1 (record { row = i; there = h; up = λ k t. t })

  pub row_least : EachRow rows (λ r. (q : Numbers) → ProperSubset q r → test q ≡ true → ⊥)
  row_least i h q p e =
      let w = (tells q (λ k t. low i h k (p.0 k t))).0 e in
      let same : w.row ≡ i = anti w.row i w.there h (λ k t. p.0 k (w.up k t)) in
      p.1 (subst (λ j. Within (get_or rows j nothing) q) same w.up)

  pub least_among : (s : Numbers) → Below n s → test s ≡ true → ((q : Numbers) → ProperSubset q s → test q ≡ true → ⊥) → Among rows s
  least_among s b e least =
      let w = (tells s b).0 e in
      let r = get_or rows w.row nothing in
      let back : Within s r =
      elim (cases_Bool (within_below n s r)) [
        | inl y ↦ (decides_within n s r b).0 y
        | inr y ↦ absurd (least r (w.up, not_from_Decides (within_below n s r) (decides_within n s r b) y) (row_holds w.row w.there))
      ] in
      record { row = w.row; there = w.there; same = within_both r s w.up back }

  pub rows_once : Once rows
  rows_once i j hi hj e = anti i j hi hj (λ k t. subst T (e k) t)

-- ---- the rows of a structure function

module _ (φ : Structure) (paths : List Numbers) (low : EachRow paths (Below φ.items)) (anti : Antichain paths)
    (tells : (s : Numbers) → Below φ.items s → Decides (φ.works s) (Works paths s)) where
  pub lists_minimal_paths : Lists paths (MinimalPath φ)
  lists_minimal_paths = record {
    each = λ i h. record {
      items = low i h;
      works = true_holds (φ.works (get_or paths i nothing)) (row_holds φ.items φ.works paths low anti tells i h);
      least = λ q p t. row_least φ.items φ.works paths low anti tells i h q p (holds_true (φ.works q) t);
    };
    all = λ s m. least_among φ.items φ.works paths low anti tells s m.items (holds_true (φ.works s) m.works)
        (λ q p e. m.least q p (true_holds (φ.works q) e));
    once = rows_once φ.items φ.works paths low anti tells;
  }

-- a row is down where only the items of s are, exactly if it is within s
module _ (n : ℕ) (cuts : List Numbers) (low : EachRow cuts (Below n)) (s : Numbers) where
  pub fails_within : Fails cuts (others n s) → Works cuts s
  fails_within f = record {
    row = f.row;
    there = f.there;
    up = λ k t. stays (s k) (λ m. f.down k t (T_and (ltb k n) (not (s k)) (lt→ltb k n (low f.row f.there k t)) m));
  }

  pub within_fails : Works cuts s → Fails cuts (others n s)
  within_fails w = record {
    row = w.row;
    there = w.there;
    down = λ k t m. T_not (s k) (and_T (ltb k n) (not (s k)) m).1 (w.up k t);
  }

module _ (φ : Structure) (cuts : List Numbers) (low : EachRow cuts (Below φ.items)) (anti : Antichain cuts)
    (tells : (s : Numbers) → Below φ.items s → Decides (not (φ.works s)) (Fails cuts s)) where
  -- with the items of s alone down the system does not work
  stopped : Numbers → Bool
  stopped s = not (φ.works (others φ.items s))

  stopped_tells : (s : Numbers) → Below φ.items s → Decides (stopped s) (Works cuts s)
  unfolding stopped
  stopped_tells s b =
      Decides-like (stopped s) (fails_within φ.items cuts low s) (within_fails φ.items cuts low s) (tells (others φ.items s) (others_below φ.items s))

  pub lists_minimal_cuts : Lists cuts (MinimalCut φ)
  unfolding stopped
  lists_minimal_cuts = record {
    each = λ i h. record {
      items = low i h;
      stops = T_not (φ.works (others φ.items (get_or cuts i nothing))) (true_holds (stopped (get_or cuts i nothing)) (row_holds φ.items stopped cuts low anti stopped_tells i h));
      least = λ q p. stays (φ.works (others φ.items q)) (λ t. row_least φ.items stopped cuts low anti stopped_tells i h q p (holds_true (stopped q) t));
    };
    all = λ s m. least_among φ.items stopped cuts low anti stopped_tells s m.items (holds_true (stopped s) (not_T (φ.works (others φ.items s)) m.stops))
        (λ q p e. T_not (φ.works (others φ.items q)) (true_holds (stopped q) e) (m.least q p));
    once = rows_once φ.items stopped cuts low anti stopped_tells;
  }

-- ---- tables for the same system

-- by a structure function
module _ (φ : Structure) (paths cuts : List Numbers)
    (up : (s : Numbers) → Below φ.items s → Decides (φ.works s) (Works paths s))
    (down : (s : Numbers) → Below φ.items s → Decides (not (φ.works s)) (Fails cuts s)) where
  pub same_by_structure : SameSystem φ.items paths cuts
  same_by_structure = record {
    covered = λ s b. elim (cases_Bool (φ.works s)) [ inl e ↦ inl ((up s b).0 e) | inr e ↦ inr ((down s b).0 (not_from_false (φ.works s) e)) ];
    never_both = λ s b w f. both_ways (φ.works s) (not-true (φ.works s) ((down s b).1 f)) ((up s b).1 w);
  }

-- by a test of every state
module _ (n : ℕ) (paths cuts : List Numbers) (ps : EachRow paths (Below n)) (cs : EachRow cuts (Below n)) where
  pub covered_by_test : T (all_sets n (λ s. works_test n paths s || fails_test n cuts s)) → (s : Numbers) → Below n s → Works paths s ⊎ Fails cuts s
  covered_by_test t s b =
      elim (or_T (works_test n paths s) (fails_test n cuts s) (all_sets_at n (λ r. works_test n paths r || fails_test n cuts r) t s b)) [
        | inl h ↦ inl ((decides_works n paths ps s).0 (holds_true (works_test n paths s) h))
        | inr h ↦ inr ((decides_fails n cuts cs s).0 (holds_true (fails_test n cuts s) h))
      ]

  pub never_both_by_test : T (all_sets n (λ s. not (works_test n paths s && fails_test n cuts s))) → (s : Numbers) → Below n s → Works paths s → Fails cuts s → ⊥
  never_both_by_test t s b w f =
      T_not (works_test n paths s && fails_test n cuts s) (all_sets_at n (λ r. not (works_test n paths r && fails_test n cuts r)) t s b)
      (true_holds (works_test n paths s && fails_test n cuts s)
      (and_from (works_test n paths s) (fails_test n cuts s) ((decides_works n paths ps s).1 w) ((decides_fails n cuts cs s).1 f)))

  pub same_by_test : T (all_sets n (λ s. works_test n paths s || fails_test n cuts s)) → T (all_sets n (λ s. not (works_test n paths s && fails_test n cuts s))) → SameSystem n paths cuts
  same_by_test one two = record { covered = covered_by_test one; never_both = never_both_by_test two }

-- ---- one minimal set within another is the same

-- with nothing at or above n in s, being within t is decided
within_unless : (n : ℕ) (s t : Numbers) → Below n s → ((Within s t → ⊥) → ⊥) → Within s t
within_unless n s t low h =
    elim (cases_Bool (within_below n s t)) [
      | inl e ↦ (decides_within n s t low).0 e
      | inr e ↦ absurd (h (not_from_Decides (within_below n s t) (decides_within n s t low) e))
    ]

pub minimal_path_back : (φ : Structure) (s t : Numbers) → MinimalPath φ s → MinimalPath φ t → Within s t → Within t s
minimal_path_back φ s t a b w = within_unless φ.items t s b.items (λ h. b.least s (w, h) a.works)

pub minimal_cut_back : (φ : Structure) (s t : Numbers) → MinimalCut φ s → MinimalCut φ t → Within s t → Within t s
minimal_cut_back φ s t a b w = within_unless φ.items t s b.items (λ h. a.stops (b.least s (w, h)))

-- so minimal rows, each once, contain no other
pub minimal_antichain : (P : Numbers → Type 0) → ((s t : Numbers) → P s → P t → Within s t → Within t s) → (rows : List Numbers) → EachRow rows P → Once rows → Antichain rows
minimal_antichain P back rows each once i j hi hj w =
    once i j hi hj (within_both (get_or rows i nothing) (get_or rows j nothing) w (back (get_or rows i nothing) (get_or rows j nothing) (each i hi) (each j hj) w))
