-- The masks that may be left in a half, and the rows that are left in it.
use mathlib.Core.Path.{fun_ext}
use Rattle.std.proofs.Common.{◌≡◌, ℕ, ◌<◌, ◌≤◌, Bool, List, [], ◌∷◌, ◌++◌, ◌+◌, not, ◌&&◌, map, length, get_or, set, take, sym, ap, ◌∙◌, subst, arith}
use Rattle.std.proofs.lemmas.Bool.{cond_both}
use Rattle.std.proofs.lemmas.List.{get_or-set_same, get_or-set_other}
use Rattle.sets.specs.Sets.{Numbers}
use Rattle.systems.specs.States.{up}
use Rattle.tables.specs.Memory.{meant}
use Rattle.duality.specs.Halves.{opened, turned, backed, greatest, Half}
use Rattle.duality.specs.Shares.{Leads, is_within, is_apart, left_paths, left_cuts}
use Rattle.duality.specs.Remaining.{Alike, any_row, AllPass, Thinned, Unmoved, GoneBack, kept, standing, left_masks}
use Rattle.duality.specs.Asides.{KeptFor, AsideOf, left_cut}
use Rattle.duality.specs.Searches.{Known, Led}
use Rattle.duality.specs.declared.search.Search.{Search}
use Rattle.duality.specs.declared.splits.Frame.{Frame}
use Rattle.duality.specs.declared.left.Left.{Left}
use Rattle.systems.specs.declared.state.State.{State}
use Rattle.duality.proofs.Sifting.{alike_under}
use Rattle.duality.proofs.Asides.{path_there, cut_there}
use Rattle.duality.proofs.Findings.{split_least}
use Rattle.duality.proofs.Passing.{pass_alike, alike_behind, alike_before, those_passing}

-- ---- the masks that may be left, where they are only those left, are those of the rows left
module _ {M K : Type 0} {bits : M → Numbers} {mem : K → Numbers} {n : ℕ} {ps cs : List Numbers} {s : Search} {paths cuts : Left M K} (k : Known bits mem n ps cs s paths cuts) where
  pub paths_those : (first : List Numbers) → ps ≡ first ++ map (meant mem) paths.behind.now → AllPass (λ p. is_within p (up s.high)) (left_masks bits paths) → Alike any_row (left_paths first (up s.high)) (left_masks bits paths)
  unfolding standing left_masks left_paths
  paths_those first e only =
      let test : Numbers → Bool = λ p. is_within p (up s.high) in
      let behind = map (meant mem) paths.behind.now in
      let here : Alike test ps (behind ++ map bits (take paths.count paths.masks.now)) = alike_under (path_there n (opened s.splits) s.low s.high k.stands) k.paths.here in
      those_passing (alike_before behind first (map bits (take paths.count paths.masks.now)) (subst (λ l. Alike test l (behind ++ map bits (take paths.count paths.masks.now))) e here)) only

  pub cuts_those : (first : List Numbers) → cs ≡ first ++ map (meant mem) cuts.behind.now → AllPass (λ c. is_apart c (up s.low)) (left_masks bits cuts) → Alike any_row (left_cuts first (up s.low)) (left_masks bits cuts)
  unfolding standing left_masks left_cuts
  cuts_those first e only =
      let test : Numbers → Bool = λ c. is_apart c (up s.low) in
      let behind = map (meant mem) cuts.behind.now in
      let here : Alike test cs (behind ++ map bits (take cuts.count cuts.masks.now)) = alike_under (cut_there n (opened s.splits) s.low s.high k.stands) k.cuts.here in
      those_passing (alike_before behind first (map bits (take cuts.count cuts.masks.now)) (subst (λ l. Alike test l (behind ++ map bits (take cuts.count cuts.masks.now))) e here)) only

-- ---- the masks that are kept for each open split
module _ (A : List Frame → Numbers → Bool) where
  -- of each split from the place d on, those that may be left before it
  abbrev pub PassFor : (ℕ → List Numbers) → List ℕ → ℕ → List Frame → Type 0
  PassFor part counts d [] = Unit {0}
  PassFor part counts d (f ∷ fs) = (d ≤ length fs → AllPass (A fs) (part (get_or counts (length fs) 0))) × PassFor part counts d fs

  pass_later : (part : ℕ → List Numbers) (counts : List ℕ) (d : ℕ) (fs : List Frame) → length fs ≤ d → PassFor part counts d fs
  pass_later part counts d [] few = tt
  pass_later part counts d (f ∷ fs) few = ((λ le. absurd (omega arith)), pass_later part counts d fs (omega arith))

  pass_thinned : (all : List Numbers) (stand part part' : ℕ → List Numbers) (counts : List ℕ) (low c d : ℕ) → low ≤ c → ((b : ℕ) → low ≤ b → Alike any_row (part b) (part' b)) → (fs : List Frame) → KeptFor A all stand counts c fs → PassFor part counts d fs → PassFor part' counts d fs
  pass_thinned all stand part part' counts low c d le others [] k p = tt
  pass_thinned all stand part part' counts low c d le others (f ∷ fs) k p =
      let at' = get_or counts (length fs) 0 in (
        λ i. pass_alike (A fs) (part at') (part' at') (others at' (omega (arith, k.0))) (p.0 i),
        pass_thinned all stand part part' counts low at' d (omega (arith, k.0)) others fs k.2 p.1,
      )

  pass_set : (part : ℕ → List Numbers) (counts : List ℕ) (i v d : ℕ) (fs : List Frame) → length fs ≤ i → PassFor part counts d fs → PassFor part (set counts i v) d fs
  pass_set part counts i v d [] few p = tt
  pass_set part counts i v d (f ∷ fs) few p =
      let at' : get_or (set counts i v) (length fs) 0 ≡ get_or counts (length fs) 0 = get_or-set_other counts i (length fs) v 0 (λ e. omega arith) in
      subst (λ m. (d ≤ length fs → AllPass (A fs) (part m)) × PassFor part (set counts i v) d fs) (sym at') (p.0, pass_set part counts i v d fs (omega arith) p.1)

  pass_push : (part : ℕ → List Numbers) (counts : List ℕ) (c d : ℕ) (f : Frame) (fs : List Frame) → length fs < length counts → AllPass (A fs) (part c) → PassFor part counts d fs → PassFor part (set counts (length fs) c) d (f ∷ fs)
  pass_push part counts c d f fs lt here p =
      let at' : get_or (set counts (length fs) c) (length fs) 0 ≡ c = get_or-set_same counts (length fs) c 0 lt in
      subst (λ m. (d ≤ length fs → AllPass (A fs) (part m)) × PassFor part (set counts (length fs) c) d fs) (sym at') ((λ _. here), pass_set part counts (length fs) c d fs (omega arith) p)

  pass_back : (part : ℕ → List Numbers) (counts : List ℕ) (d : ℕ) (fs : List Frame) → PassFor part counts d fs → PassFor part counts d (backed fs)
  pass_back part counts d [] p = tt
  pass_back part counts d (f ∷ fs) p = cond_both f.up (turned f ∷ fs) (backed fs) (PassFor part counts d) (λ _. p) (λ _. pass_back part counts d fs p.1)

-- ---- the same of the masks of a `Left`
module _ {M K : Type 0} (bits : M → Numbers) (A : List Frame → Numbers → Bool) where
  abbrev pub PassForOf : Left M K → ℕ → List Frame → Type 0
  PassForOf left d fs = PassFor A (λ c. map bits (take c left.masks.now)) left.counts d fs

  pub passed_later : (left : Left M K) (d : ℕ) (fs : List Frame) → length fs ≤ d → PassForOf left d fs
  passed_later left d fs few = pass_later A (λ c. map bits (take c left.masks.now)) left.counts d fs few

  pub passed_thinned : (mem : K → Numbers) (all : List Numbers) (before after : Left M K) (d : ℕ) (fs : List Frame) → Thinned bits mem before after → AsideOf bits mem all A before fs → PassForOf before d fs → PassForOf after d fs
  unfolding standing
  passed_thinned mem all before after d fs t k p =
      let others : (b : ℕ) → before.count ≤ b → Alike any_row (map bits (take b before.masks.now)) (map bits (take b after.masks.now)) =
      λ b le.
      alike_behind (map (meant mem) before.behind.now) (map bits (take b before.masks.now)) (map bits (take b after.masks.now))
      (subst (λ l. Alike any_row (map (meant mem) before.behind.now ++ map bits (take b before.masks.now)) (map (meant mem) l ++ map bits (take b after.masks.now))) (ap (λ l. l.now) t.behind) (t.others b le)) in
      subst (λ counts. PassFor A (λ c. map bits (take c after.masks.now)) counts d fs) (sym t.counts)
      (pass_thinned A all (standing bits mem before) (λ c. map bits (take c before.masks.now)) (λ c. map bits (take c after.masks.now)) before.counts before.count before.count d (omega arith) others fs k.before p)

  pub passed_same : (before after : Left M K) (d : ℕ) (fs : List Frame) → Unmoved before after → PassForOf before d fs → PassForOf after d fs
  passed_same before after d fs u p =
      subst (λ counts. PassFor A (λ c. map bits (take c after.masks.now)) counts d fs) (sym u.counts)
      (subst (λ masks. PassFor A (λ c. map bits (take c masks)) before.counts d fs) (sym u.masks) p)

  pub passed_kept : (left after : Left M K) (d : ℕ) (f : Frame) (fs gs : List Frame) → after ≡ kept left (length fs) → gs ≡ f ∷ fs → length fs < length left.counts → AllPass (A fs) (left_masks bits left) → PassForOf left d fs → PassForOf after d gs
  unfolding left_masks
  passed_kept left after d f fs gs e i lt here p =
      subst (λ hs. PassForOf after d hs) (sym i)
      (subst (λ l. PassForOf l d (f ∷ fs)) (sym e) (pass_push A (λ c. map bits (take c left.masks.now)) left.counts left.count d f fs lt here p))

  pub passed_back : (left after : Left M K) (split d : ℕ) (fs gs : List Frame) → GoneBack left after split → gs ≡ backed fs → PassForOf left d fs → PassForOf after d gs
  passed_back left after split d fs gs b e p =
      subst (λ hs. PassForOf after d hs) (sym e)
      (subst (λ counts. PassFor A (λ c. map bits (take c after.masks.now)) counts d (backed fs)) (sym b.counts)
      (subst (λ masks. PassFor A (λ c. map bits (take c masks)) left.counts d (backed fs)) (sym b.masks) (pass_back A (λ c. map bits (take c left.masks.now)) left.counts d fs p)))

module _ {M K : Type 0} (bits : M → Numbers) where
  -- in the second half of a split the cuts that were left before it are left
  pub cuts_before : (left after : Left M K) (d split n : ℕ) (fs gs : List Frame) (low high : State) → GoneBack left after split → gs ≡ backed fs → length gs ≡ split + 1 → d ≤ split → Half n gs low high → PassForOf bits left_cut after d gs → AllPass (λ c. is_apart c (up low)) (left_masks bits after)
  unfolding left_masks
  cuts_before left after d split n fs [] low high b e long le h p = absurd (omega arith)
  cuts_before left after d split n fs (g ∷ rest) low high b e long le h p =
      let same : length rest ≡ split = omega arith in
      let count : get_or after.counts (length rest) 0 ≡ after.count = ap (λ i. get_or after.counts i 0) same ∙ ap (λ l. get_or l split 0) b.counts ∙ sym b.count in
      subst (λ s. AllPass (λ c. is_apart c s) (map bits (take after.count after.masks.now))) (sym (split_least n fs g rest low high e h))
      (subst (λ m. AllPass (left_cut rest) (map bits (take m after.masks.now))) count (p.0 (omega arith)))

  pub masks_kept : (left after : Left M K) (split : ℕ) → after ≡ kept left split → left_masks bits after ≡ left_masks bits left
  unfolding left_masks
  masks_kept left after split e = ap (λ l. map bits (take l.count l.masks.now)) e

-- ---- the items of the splits
module _ (n : ℕ) (ps cs : List Numbers) (d : ℕ) where
  led_back : (fs : List Frame) → Led n ps cs d fs → Led n ps cs d (backed fs)
  led_back [] l = tt
  led_back (f ∷ fs) l = cond_both f.up (turned f ∷ fs) (backed fs) (Led n ps cs d) (λ _. l) (λ _. led_back fs l.1)

  pub led_backed : (fs gs : List Frame) → gs ≡ backed fs → Led n ps cs d fs → Led n ps cs d gs
  led_backed fs gs e l = subst (Led n ps cs d) (sym e) (led_back fs l)

  pub led_push : (f : Frame) (fs : List Frame) (low high : State) → Half n fs low high → Leads (left_paths ps (up high)) (left_cuts cs (up low)) (λ k. up high k && not (up low k)) f.item → Led n ps cs d fs → Led n ps cs d (f ∷ fs)
  led_push f fs low high h leads l = (
    (λ _.
        subst (λ t. Leads (left_paths ps (greatest n fs)) (left_cuts cs t) (λ k. greatest n fs k && not (t k)) f.item) (fun_ext h.lows)
        (subst (λ t. Leads (left_paths ps t) (left_cuts cs (up low)) (λ k. t k && not (up low k)) f.item) (fun_ext h.highs) leads)),
    l,
  )
