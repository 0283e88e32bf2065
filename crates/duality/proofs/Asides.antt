-- The rows that a search has dropped are left in no half below the split at which they were.
use Rattle.std.proofs.Common.{◌≡◌, ℕ, zero, suc, ◌+◌, ◌<◌, ◌≤◌, Bool, true, false, cond, not, ◌&&◌, ◌||◌, ◌⊎◌, List, [], ◌∷◌, map, length, get_or, set, take, ◌++◌, eqb, sym, refl, ap, ap₂, ◌∙◌, subst, inl, inr, ⊎_elim, arith, nat_lt, Decides}
use Rattle.std.specs.List.{list_any, count_by}
use Rattle.std.proofs.lemmas.Bool.{true≢false, false≢true, cond_both, eqb-true, lt-ltb}
use Rattle.std.proofs.lemmas.List.{get_or-set_same, get_or-set_other}
use Rattle.std.proofs.lemmas.List.Sums.{sum_by-cons}
use Rattle.sets.specs.Sets.{Numbers, within_below}
use Rattle.systems.specs.States.{up}
use Rattle.systems.specs.Systems.{Works, Fails}
use Rattle.systems.specs.declared.state.State.{State}
use Rattle.tables.specs.Memory.{meant}
use Rattle.tables.specs.declared.row.Row.{Row}
use Rattle.duality.specs.Halves.{opened, turned, backed, least, greatest, Fresh, Half}
use Rattle.duality.specs.Shares.{is_within, is_apart}
use Rattle.duality.specs.Remaining.{Alike, Stronger, any_row, Sifted, Unmoved, GoneBack, kept, standing}
use Rattle.duality.specs.Asides.{left_path, left_cut, KeptFor, Aside, AsideOf}
use Rattle.duality.specs.Searches.{Stands, Known}
use Rattle.duality.specs.declared.search.Search.{Search}
use Rattle.duality.specs.declared.splits.Frame.{Frame}
use Rattle.duality.specs.declared.left.Left.{Left}
use Rattle.duality.proofs.Sifting.{alike_then, alike_under}
use Rattle.duality.proofs.RowFacts.{decides_works, decides_fails}

-- ---- a row that is left in a half is left in a greater
either : (a b c : Bool) → (b ≡ true → c ≡ true) → (not a || b) ≡ true → (not a || c) ≡ true
either true b c h e = h e
either false b c h e = refl

each : (x y z w : Bool) → (x ≡ true → y ≡ true) → (z ≡ true → w ≡ true) → (x && z) ≡ true → (y && w) ≡ true
each true y z w h k e = rw (h refl) (k e)
each false y z w h k e = absurd (false≢true e)

more_within : (m : ℕ) (r s t : Numbers) → ((k : ℕ) → s k ≡ true → t k ≡ true) → within_below m r s ≡ true → within_below m r t ≡ true
more_within zero r s t h e = refl
more_within (suc m) r s t h e = each (not (r m) || s m) (not (r m) || t m) (within_below m r s) (within_below m r t) (either (r m) (s m) (t m) (h m)) (more_within m r s t h) e

stronger_within : (s t : Numbers) → ((k : ℕ) → s k ≡ true → t k ≡ true) → Stronger (λ r. is_within r s) (λ r. is_within r t)
unfolding is_within
stronger_within s t h r e = more_within 256 r s t h e

stronger_apart : (s t : Numbers) → ((k : ℕ) → t k ≡ true → s k ≡ true) → Stronger (λ r. is_apart r s) (λ r. is_apart r t)
unfolding is_apart
stronger_apart s t h r e = more_within 256 r (λ k. not (s k)) (λ k. not (t k)) (λ k p. other (s k) (t k) (h k) p) e where
  other : (a b : Bool) → (b ≡ true → a ≡ true) → not a ≡ true → not b ≡ true
  other true b i p = absurd (true≢false (sym p))
  other false true i p = absurd (false≢true (i refl))
  other false false i p = refl

-- ---- the half of some splits, and that of one more
lows_high : (n : ℕ) (fs : List Frame) (k : ℕ) → least fs k ≡ true → greatest n fs k ≡ true
lows_high n [] k e = absurd (false≢true e)
lows_high n (f ∷ fs) k e = go (lows_high n fs k) (eqb k f.item) e where
  go : (least fs k ≡ true → greatest n fs k ≡ true) → (b : Bool) → cond b f.up (least fs k) ≡ true → cond b f.up (greatest n fs k) ≡ true
  go h true i = i
  go h false i = h i

module _ (n : ℕ) (f : Frame) (fs : List Frame) (fresh : Fresh n (f ∷ fs)) where
  pub path_narrower : Stronger (left_path n (f ∷ fs)) (left_path n fs)
  path_narrower =
      stronger_within (greatest n (f ∷ fs)) (greatest n fs)
      (λ k. cond_both (eqb k f.item) f.up (greatest n fs k) (λ v. v ≡ true → greatest n fs k ≡ true) (λ e _. ap (greatest n fs) (eqb-true k f.item e) ∙ fresh.2) (λ _ h. h))

  pub cut_narrower : Stronger (left_cut (f ∷ fs)) (left_cut fs)
  cut_narrower =
      stronger_apart (least (f ∷ fs)) (least fs)
      (λ k. cond_both (eqb k f.item) f.up (least fs k) (λ v. least fs k ≡ true → v ≡ true) (λ e h. absurd (false≢true (sym fresh.1 ∙ ap (least fs) (sym (eqb-true k f.item e)) ∙ h))) (λ _ h. h))

module _ (n : ℕ) (fs : List Frame) (low high : State) (h : Half n fs low high) where
  pub path_here : Stronger (left_path n fs) (λ r. is_within r (up high))
  path_here = stronger_within (greatest n fs) (up high) (λ k e. h.highs k ∙ e)

  pub path_there : Stronger (λ r. is_within r (up high)) (left_path n fs)
  path_there = stronger_within (up high) (greatest n fs) (λ k e. sym (h.highs k) ∙ e)

  -- a path that is up in the least state of the half is left in it
  path_up : Stronger (λ r. is_within r (up low)) (left_path n fs)
  path_up = stronger_within (up low) (greatest n fs) (λ k e. lows_high n fs k (sym (h.lows k) ∙ e))

  pub cut_here : Stronger (left_cut fs) (λ r. is_apart r (up low))
  cut_here = stronger_apart (least fs) (up low) (λ k e. sym (h.lows k) ∙ e)

  pub cut_there : Stronger (λ r. is_apart r (up low)) (left_cut fs)
  cut_there = stronger_apart (up low) (least fs) (λ k e. h.lows k ∙ e)

  -- and a cut that is down in the greatest
  cut_down : Stronger (λ r. is_apart r (up high)) (left_cut fs)
  cut_down = stronger_apart (up high) (least fs) (λ k e. h.highs k ∙ lows_high n fs k e)

-- ---- what is said of the rows that stand holds of all
module _ {test : Numbers → Bool} {all some : List Numbers} (h : Alike test all some) where
  one_counts : (b a : Bool) (m : ℕ) → a ≡ nat_lt 0 m → (b || a) ≡ nat_lt 0 (cond b 1 0 + m)
  one_counts true a m e = sym (lt-ltb 0 (1 + m) (omega arith))
  one_counts false a m e = e ∙ ap (nat_lt 0) (omega arith)

  counted : (q : Numbers → Bool) (xs : List Numbers) → list_any q xs ≡ nat_lt 0 (count_by q xs)
  counted q [] = refl
  counted q (x ∷ xs) = one_counts (q x) (list_any q xs) (count_by q xs) (counted q xs) ∙ ap (nat_lt 0) (sym (sum_by-cons (λ y. cond (q y) 1 0) x xs))

  any_all : (q : Numbers → Bool) → Stronger q test → list_any q some ≡ list_any q all
  any_all q s = counted q some ∙ ap (nat_lt 0) (sym (h.alike q s)) ∙ sym (counted q all)

-- ---- the rows that are kept for each open split

module _ (A : List Frame → Numbers → Bool) (all : List Numbers) where
  any_stronger : (q : Numbers → Bool) → Stronger q any_row
  any_stronger q r e = refl

  kept_start : (part : ℕ → List Numbers) (counts : List ℕ) (c : ℕ) → Alike any_row all (part c) → ((i : ℕ) → i < 256 → get_or counts i 0 ≡ c) → (b : ℕ) → b ≡ c → (fs : List Frame) → length fs ≤ 256 → KeptFor A all part counts b fs
  kept_start part counts c h e b same [] few = tt
  kept_start part counts c h e b same (f ∷ fs) few =
      let at' = e (length fs) (omega arith) in (
        omega arith,
        subst (λ m. Alike (A fs) all (part m)) (sym at') (alike_under (any_stronger (A fs)) h),
        kept_start part counts c h e (get_or counts (length fs) 0) at' fs (omega arith),
      )

  pub aside_start : (part : ℕ → List Numbers) (counts : List ℕ) (c : ℕ) → Alike any_row all (part c) → ((i : ℕ) → i < 256 → get_or counts i 0 ≡ c) → (fs : List Frame) → length fs ≤ 256 → Aside A all part counts c fs
  aside_start part counts c h e fs few = record { here = alike_under (any_stronger (A fs)) h; before = kept_start part counts c h e c refl fs few }

  kept_sifted : (part part' : ℕ → List Numbers) (counts : List ℕ) (c d e : ℕ) → e ≤ d → c ≤ d → ((b : ℕ) → c ≤ b → Alike any_row (part b) (part' b)) → (fs : List Frame) → KeptFor A all part counts d fs → KeptFor A all part' counts e fs
  kept_sifted part part' counts c d e le lo others [] k = tt
  kept_sifted part part' counts c d e le lo others (f ∷ fs) k =
      let at' = get_or counts (length fs) 0 in (
        omega (arith, k.0),
        alike_then k.1 (alike_under (any_stronger (A fs)) (others at' (omega (arith, k.0)))),
        kept_sifted part part' counts c at' at' (omega arith) (omega (arith, k.0)) others fs k.2,
      )

  aside_sifted : (part part' : ℕ → List Numbers) (counts : List ℕ) (c c' : ℕ) (fs : List Frame) → c' ≤ c → ((b : ℕ) → c ≤ b → Alike any_row (part b) (part' b)) → Alike (A fs) (part c) (part' c') → Aside A all part counts c fs → Aside A all part' counts c' fs
  aside_sifted part part' counts c c' fs le others h k = record { here = alike_then k.here h; before = kept_sifted part part' counts c c c' le (omega arith) others fs k.before }

  kept_set : (part : ℕ → List Numbers) (counts : List ℕ) (i v c : ℕ) (fs : List Frame) → length fs ≤ i → KeptFor A all part counts c fs → KeptFor A all part (set counts i v) c fs
  kept_set part counts i v c [] few k = tt
  kept_set part counts i v c (f ∷ fs) few k =
      let at' : get_or (set counts i v) (length fs) 0 ≡ get_or counts (length fs) 0 = get_or-set_other counts i (length fs) v 0 (λ e. omega arith) in
      subst (λ m. (c ≤ m) × Alike (A fs) all (part m) × KeptFor A all part (set counts i v) m fs) (sym at') (k.0, k.1, kept_set part counts i v (get_or counts (length fs) 0) fs (omega arith) k.2)

  aside_push : (part : ℕ → List Numbers) (counts : List ℕ) (c : ℕ) (f : Frame) (fs : List Frame) → length fs < length counts → Stronger (A (f ∷ fs)) (A fs) → Aside A all part counts c fs → Aside A all part (set counts (length fs) c) c (f ∷ fs)
  aside_push part counts c f fs lt narrower k = record {
    here = alike_under narrower k.here;
    before =
        let at' : get_or (set counts (length fs) c) (length fs) 0 ≡ c = get_or-set_same counts (length fs) c 0 lt in
        subst (λ m. (c ≤ m) × Alike (A fs) all (part m) × KeptFor A all part (set counts (length fs) c) m fs) (sym at') (omega arith, k.here, kept_set part counts (length fs) c c fs (omega arith) k.before);
  }

  kept_less : (part : ℕ → List Numbers) (counts : List ℕ) (c d : ℕ) (fs : List Frame) → d ≤ c → KeptFor A all part counts c fs → KeptFor A all part counts d fs
  kept_less part counts c d [] le k = tt
  kept_less part counts c d (f ∷ fs) le k = (omega (arith, k.0), k.1, k.2)

  kept_back : (part : ℕ → List Numbers) (counts : List ℕ) (c : ℕ) (fs : List Frame) → KeptFor A all part counts c fs → KeptFor A all part counts c (backed fs)
  kept_back part counts c [] k = tt
  kept_back part counts c (f ∷ fs) k =
      cond_both f.up (turned f ∷ fs) (backed fs) (KeptFor A all part counts c)
      (λ _. k)
      (λ _. kept_back part counts c fs (kept_less part counts (get_or counts (length fs) 0) c fs k.0 k.2))

  aside_back : (part : ℕ → List Numbers) (counts : List ℕ) (c d : ℕ) (fs gs : List Frame) → Aside A all part counts c fs → gs ≡ backed fs → length gs ≡ d + 1 → ((f : Frame) (rest : List Frame) → gs ≡ f ∷ rest → Stronger (A (f ∷ rest)) (A rest)) → Aside A all part counts (get_or counts d 0) gs
  aside_back part counts c d fs gs k e long narrower = go gs (subst (KeptFor A all part counts c) (sym e) (kept_back part counts c fs k.before)) long narrower where
    go : (gs : List Frame) → KeptFor A all part counts c gs → length gs ≡ d + 1 → ((f : Frame) (rest : List Frame) → gs ≡ f ∷ rest → Stronger (A (f ∷ rest)) (A rest)) → Aside A all part counts (get_or counts d 0) gs
    go [] q l w = absurd (omega arith)
    go (f ∷ rest) q l w =
        let same : length rest ≡ d = omega arith in
        subst (λ i. Aside A all part counts (get_or counts i 0) (f ∷ rest)) same (record {
          here = alike_under (w f rest refl) q.1;
          before = (omega arith, q.1, q.2);
        })

-- ---- the same of the rows that stand in a `Left`
module _ {M K : Type 0} (bits : M → Numbers) (mem : K → Numbers) (all : List Numbers) (A : List Frame → Numbers → Bool) where
  pub left_sifted : (test : Numbers → Bool) (before after : Left M K) (fs : List Frame) → Sifted bits mem test before after → Stronger (A fs) test → AsideOf bits mem all A before fs → AsideOf bits mem all A after fs
  left_sifted test before after fs s w k =
      subst (λ counts. Aside A all (standing bits mem after) counts after.count fs) (sym s.counts)
      (aside_sifted A all (standing bits mem before) (standing bits mem after) before.counts before.count after.count fs s.fewer s.others (alike_under w s.left) k)

  same_standing : (before after : Left M K) → after.behind ≡ before.behind → after.masks.now ≡ before.masks.now → standing bits mem after ≡ standing bits mem before
  unfolding standing
  same_standing before after behind masks =
      let stand : List (Row K) → List M → ℕ → List Numbers = λ rows places c. map (meant mem) rows ++ map bits (take c places) in
      ap₂ stand (ap (λ b. b.now) behind) masks

  pub left_same : (before after : Left M K) (fs : List Frame) → Unmoved before after → AsideOf bits mem all A before fs → AsideOf bits mem all A after fs
  left_same before after fs u k =
      subst (λ part. Aside A all part after.counts after.count fs) (sym (same_standing before after u.behind u.masks))
      (subst (λ counts. Aside A all (standing bits mem before) counts after.count fs) (sym u.counts)
      (subst (λ c. Aside A all (standing bits mem before) before.counts c fs) (sym u.count) k))

  pub left_kept : (left after : Left M K) (f : Frame) (fs gs : List Frame) → after ≡ kept left (length fs) → gs ≡ f ∷ fs → length fs < length left.counts → Stronger (A (f ∷ fs)) (A fs) → AsideOf bits mem all A left fs → AsideOf bits mem all A after gs
  unfolding standing
  left_kept left after f fs gs e i lt w k =
      subst (λ hs. AsideOf bits mem all A after hs) (sym i)
      (subst (λ l. AsideOf bits mem all A l (f ∷ fs)) (sym e) (aside_push A all (standing bits mem left) left.counts left.count f fs lt w k))

  pub left_back : (left after : Left M K) (split : ℕ) (fs gs : List Frame) → GoneBack left after split → gs ≡ backed fs → length gs ≡ split + 1 → ((f : Frame) (rest : List Frame) → gs ≡ f ∷ rest → Stronger (A (f ∷ rest)) (A rest)) → AsideOf bits mem all A left fs → AsideOf bits mem all A after gs
  left_back left after split fs gs b i long w k =
      subst (λ part. Aside A all part after.counts after.count gs) (sym (same_standing left after b.behind b.masks))
      (subst (λ counts. Aside A all (standing bits mem left) counts after.count gs) (sym b.counts)
      (subst (λ c. Aside A all (standing bits mem left) left.counts c gs) (sym b.count) (aside_back A all (standing bits mem left) left.counts left.count split fs gs k i long w)))

-- ---- what the rows that may be left tell of a half
either_decides : {A B : Type 0} (a b : Bool) → Decides a A → Decides b B → Decides (a || b) (A ⊎ B)
either_decides true b p q = ((λ _. inl (p.0 refl)), λ _. refl)
either_decides false b p q = ((λ e. inr (q.0 e)), (λ s. ⊎_elim (λ w. absurd (false≢true (p.1 w))) (λ d. q.1 d) s))

module _ {M K : Type 0} {bits : M → Numbers} {mem : K → Numbers} {n : ℕ} {ps cs : List Numbers} {s : Search} {paths cuts : Left M K} (k : Known bits mem n ps cs s paths cuts) where
  pub some_up : (b : Bool) → b ≡ list_any (λ p. is_within p (up s.low)) (standing bits mem paths paths.count) → Decides b (Works ps (up s.low))
  some_up b e = decides_works ps k.low_paths (up s.low) b (e ∙ any_all k.paths.here _ (path_up n (opened s.splits) s.low s.high k.stands))

  pub some_down : (b : Bool) → b ≡ list_any (λ c. is_apart c (up s.high)) (standing bits mem cuts cuts.count) → Decides b (Fails cs (up s.high))
  some_down b e = decides_fails cs k.low_cuts (up s.high) b (e ∙ any_all k.cuts.here _ (cut_down n (opened s.splits) s.low s.high k.stands))

  pub is_closed : (b : Bool) → b ≡ (list_any (λ p. is_within p (up s.low)) (standing bits mem paths paths.count) || list_any (λ c. is_apart c (up s.high)) (standing bits mem cuts cuts.count)) → Decides b (Works ps (up s.low) ⊎ Fails cs (up s.high))
  is_closed b e = subst (λ a. Decides a (Works ps (up s.low) ⊎ Fails cs (up s.high))) (sym e) (either_decides _ _ (some_up _ refl) (some_down _ refl))

  pub path_left : (b : Bool) → b ≡ list_any (λ p. is_within p (up s.high)) (standing bits mem paths paths.count) → Decides b (Works ps (up s.high))
  path_left b e = decides_works ps k.low_paths (up s.high) b (e ∙ any_all k.paths.here _ (path_there n (opened s.splits) s.low s.high k.stands))

  pub cut_left : (b : Bool) → b ≡ list_any (λ c. is_apart c (up s.low)) (standing bits mem cuts cuts.count) → Decides b (Fails cs (up s.low))
  cut_left b e = decides_fails cs k.low_cuts (up s.low) b (e ∙ any_all k.cuts.here _ (cut_there n (opened s.splits) s.low s.high k.stands))

  pub paths_sifted : (after : Left M K) → Sifted bits mem (λ p. is_within p (up s.high)) paths after → Known bits mem n ps cs s after cuts
  paths_sifted after t = record {
    stands = k.stands;
    low_paths = k.low_paths;
    low_cuts = k.low_cuts;
    paths = left_sifted bits mem ps (left_path n) _ paths after (opened s.splits) t (path_here n (opened s.splits) s.low s.high k.stands) k.paths;
    cuts = k.cuts;
  }

  pub cuts_sifted : (after : Left M K) → Sifted bits mem (λ c. is_apart c (up s.low)) cuts after → Known bits mem n ps cs s paths after
  cuts_sifted after t = record {
    stands = k.stands;
    low_paths = k.low_paths;
    low_cuts = k.low_cuts;
    paths = k.paths;
    cuts = left_sifted bits mem cs left_cut _ cuts after (opened s.splits) t (cut_here n (opened s.splits) s.low s.high k.stands) k.cuts;
  }

  -- where the rows stand as they did
  pub known_same : (paths' cuts' : Left M K) → Unmoved paths paths' → Unmoved cuts cuts' → Known bits mem n ps cs s paths' cuts'
  known_same paths' cuts' u v = record {
    stands = k.stands;
    low_paths = k.low_paths;
    low_cuts = k.low_cuts;
    paths = left_same bits mem ps (left_path n) paths paths' (opened s.splits) u k.paths;
    cuts = left_same bits mem cs left_cut cuts cuts' (opened s.splits) v k.cuts;
  }

  -- with one split more, for which they are kept
  pub known_kept : (after : Search) (f : Frame) (paths' cuts' : Left M K) → Stands n after → opened after.splits ≡ f ∷ opened s.splits → paths' ≡ kept paths (length (opened s.splits)) → cuts' ≡ kept cuts (length (opened s.splits))
      → length (opened s.splits) < length paths.counts → length (opened s.splits) < length cuts.counts → Known bits mem n ps cs after paths' cuts'
  known_kept after f paths' cuts' st e p c few_p few_c =
      let fresh : Fresh n (f ∷ opened s.splits) = subst (Fresh n) e st.fresh in
      record {
        stands = st;
        low_paths = k.low_paths;
        low_cuts = k.low_cuts;
        paths = left_kept bits mem ps (left_path n) paths paths' f (opened s.splits) (opened after.splits) p e few_p (path_narrower n f (opened s.splits) fresh) k.paths;
        cuts = left_kept bits mem cs left_cut cuts cuts' f (opened s.splits) (opened after.splits) c e few_c (cut_narrower n f (opened s.splits) fresh) k.cuts;
      }

  -- back at a split, with those that were kept for it
  pub known_back : (after : Search) (split : ℕ) (paths' cuts' : Left M K) → Stands n after → opened after.splits ≡ backed (opened s.splits) → length (opened after.splits) ≡ split + 1 → GoneBack paths paths' split → GoneBack cuts cuts' split → Known bits mem n ps cs after paths' cuts'
  known_back after split paths' cuts' st e long p c =
      let fresh = λ (f : Frame) (rest : List Frame) (i : opened after.splits ≡ f ∷ rest). subst (Fresh n) i st.fresh in
      record {
        stands = st;
        low_paths = k.low_paths;
        low_cuts = k.low_cuts;
        paths = left_back bits mem ps (left_path n) paths paths' split (opened s.splits) (opened after.splits) p e long (λ f rest i. path_narrower n f rest (fresh f rest i)) k.paths;
        cuts = left_back bits mem cs left_cut cuts cuts' split (opened s.splits) (opened after.splits) c e long (λ f rest i. cut_narrower n f rest (fresh f rest i)) k.cuts;
      }
