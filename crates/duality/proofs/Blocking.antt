-- Blocks of cuts, and paths held against them.
use Rattle.std.proofs.Common.{◌≡◌, ℕ, ◌+◌, ◌-◌, ◌<◌, ◌≤◌, Bool, true, false, not, ◌&&◌, ◌==◌, cond, nat_lt, T, ◌⊎◌, List, [], ◌++◌, map, length, get_or, take, sym, refl, ap, ap₂, ◌∙◌, subst, inl, inr, arith}
use Rattle.std.specs.Prelude.{Option, Some, None, Decides, MatchOption, is_some, unwrap_or}
use Rattle.std.specs.List.{AllWithin, HoldsAt}
use Rattle.std.proofs.lemmas.Bool.{and_right, cases_eq, cases_lt, eq-eqb, ne_eqb, lt-ltb, le-ltb, ltb-true, false≢true}
use Rattle.std.proofs.lemmas.List.{length-map, length-take, length-append, get_or-take, get_or_append_left, get_or-append_right, get_or-append-add, get_or_past, get_or-map, take_all, take-map, map-append}
use Rattle.sets.specs.Sets.{Numbers, nothing, Same, Apart, Lowest, NoneFrom}
use Rattle.sets.specs.Marks.{marked}
use Rattle.sets.specs.Masks.{low_marked}
use Rattle.sets.specs.Columns.{column, Joined}
use Rattle.sets.specs.declared.marks.Marks.{Marks}
use Rattle.sets.specs.declared.columns.Columns.{Columns}
use Rattle.systems.specs.Systems.{Fails, EachRow}
use Rattle.duality.specs.Blocks.{Holds}
use Rattle.duality.specs.RowsOf.{IsRow}
use Rattle.duality.specs.declared.block.Block.{Block}
use Rattle.duality.proofs.RowFacts.{at_map}

-- ---- one more cut in a block
and_on : (a b : Bool) → b ≡ true → (a && b) ≡ a
and_on true b h = h
and_on false b h = refl

cond_self : (b : Bool) → cond b true false ≡ b
cond_self true = refl
cond_self false = refl

module _ (cs : List Numbers) (n : ℕ) (inside : n < length cs) (room : n < 256) where
  -- the first cuts at another place, and at the new one
  others_same : (j : ℕ) → (j ≡ n → ⊥) → get_or (take (n + 1) cs) j nothing ≡ get_or (take n cs) j nothing
  others_same j d = elim (cases_lt j n) [
    | inl l ↦ get_or-take (n + 1) cs j nothing (omega arith) ∙ sym (get_or-take n cs j nothing l)
    | inr h ↦ get_or_past (take (n + 1) cs) j nothing (omega (arith, length-take (n + 1) cs, d)) ∙ sym (get_or_past (take n cs) j nothing (omega (arith, length-take n cs)))
  ]

  others_below : (j : ℕ) → (j ≡ n → ⊥) → nat_lt j (length (take (n + 1) cs)) ≡ nat_lt j (length (take n cs))
  others_below j d = elim (cases_lt j n) [
    | inl l ↦ lt-ltb j (length (take (n + 1) cs)) (omega (arith, length-take (n + 1) cs)) ∙ sym (lt-ltb j (length (take n cs)) (omega (arith, length-take n cs)))
    | inr h ↦ le-ltb j (length (take (n + 1) cs)) (omega (arith, length-take (n + 1) cs, d)) ∙ sym (le-ltb j (length (take n cs)) (omega (arith, length-take n cs)))
  ]

  pub holds_more : (old new : Columns) (p q : Marks) (s : Numbers) → get_or cs n nothing ≡ s → Holds (take n cs) (record { columns = old; places = p })
      → ((i j : ℕ) → column new i j ≡ cond (s i && (nat_lt n 256 && j == n)) true (column old i j))
      → Same (marked q) (λ j. cond (nat_lt n 256 && j == n) true (marked p j))
      → Holds (take (n + 1) cs) (record { columns = new; places = q })
  holds_more old new p q s is before put set = record {
    having = λ i j. elim (cases_eq j n) [
      | inl e ↦
          put i j
          ∙ ap₂ (λ b x. cond b true x)
          (and_on (s i) (nat_lt n 256 && j == n) (ap₂ (λ a b. a && b) (lt-ltb n 256 room) (eq-eqb j n e)))
          (before.having i j ∙ ap (λ (t : Numbers). t i) (get_or_past (take n cs) j nothing (omega (arith, length-take n cs))))
          ∙ cond_self (s i)
          ∙ ap (λ (t : Numbers). t i) (sym is ∙ ap (λ k. get_or cs k nothing) (sym e) ∙ sym (get_or-take (n + 1) cs j nothing (omega arith)))
      | inr d ↦
          put i j
          ∙ ap (λ b. cond b true (column old i j)) (and_right (s i) (nat_lt n 256 && j == n) (and_right (nat_lt n 256) (j == n) (ne_eqb j n d)))
          ∙ before.having i j
          ∙ ap (λ (t : Numbers). t i) (sym (others_same j d))
    ];
    all = λ j. ap (λ b. nat_lt j 256 && b) (set j) ∙ elim (cases_eq j n) [
      | inl e ↦
          ap₂ (λ a b. a && cond b true (marked p j)) (lt-ltb j 256 (omega arith)) (ap₂ (λ a b. a && b) (lt-ltb n 256 room) (eq-eqb j n e))
          ∙ sym (lt-ltb j (length (take (n + 1) cs)) (omega (arith, length-take (n + 1) cs)))
      | inr d ↦
          ap (λ b. nat_lt j 256 && cond b true (marked p j)) (and_right (nat_lt n 256) (j == n) (ne_eqb j n d))
          ∙ before.all j
          ∙ sym (others_below j d)
    ];
  }

-- ---- one path held against a block
not_on : (a b : Bool) → T (a && not b) → (a ≡ true) × (b ≡ false)
not_on true true t = absurd t
not_on true false t = (refl, refl)
not_on false b t = absurd t

on_not : (a b : Bool) → a ≡ true → b ≡ false → T (a && not b)
on_not a b e f = subst (λ x. T (x && not b)) (sym e) (subst (λ x. T (not x)) (sym f) tt)

module _ (cuts : List Numbers) (b : Block) (s : Numbers) (joined missed : Marks) (holds : Holds cuts b)
    (join : (j : ℕ) → Decides (low_marked joined j) (Joined b.columns s j))
    (left : Same (low_marked missed) (λ k. low_marked b.places k && not (low_marked joined k))) where
  -- a place that is left is that of a cut with no item of the path
  left_fails : (m : ℕ) → T (low_marked missed m) → Fails cuts s
  left_fails m t =
      let h = not_on (low_marked b.places m) (low_marked joined m) (subst T (left m) t) in
      record {
        row = m;
        there = ltb-true m (length cuts) (sym (holds.all m) ∙ h.0);
        down = λ k c u. false≢true (sym h.1 ∙ (join m).1 (record { number = k; member = u; stands = subst T (sym (holds.having k m)) c }));
      }

  -- and the place of such a cut is left
  fails_left : (w : Fails cuts s) → T (low_marked missed w.row)
  fails_left w =
      let go : (x : Bool) → low_marked joined w.row ≡ x → x ≡ false = λ x. elim x as (λ x. low_marked joined w.row ≡ x → x ≡ false) [
        | true ↦ λ e. let j = (join w.row).0 e in absurd (w.down j.number (subst T (holds.having j.number w.row) j.stands) j.member)
        | false ↦ λ e. refl
      ] in
      subst T (sym (left w.row)) (on_not _ _ (holds.all w.row ∙ lt-ltb w.row (length cuts) w.there) (go (low_marked joined w.row) refl))

  pub decides_missed : (o : Option ℕ) (r : Bool) → MatchOption o (NoneFrom (low_marked missed) 0) (Lowest (low_marked missed) 0) → r ≡ is_some o → Decides r (Fails cuts s)
  decides_missed None r none is = ((λ e. absurd (false≢true (sym is ∙ e))), λ w. absurd (none w.row (omega arith) (fails_left w)))
  decides_missed (Some m) r low is = ((λ e. left_fails m low.member), λ w. is)

-- ---- what `position` finds among the rows
pub found_place : {X : Type 0} (f : X → Numbers) (xs : List X) (P : Numbers → Type 0) (o : Option ℕ) → MatchOption o (AllWithin (λ x. P (f x) → ⊥) xs 0 (length xs)) (λ i. (i < length xs) × HoldsAt (λ x. P (f x)) xs i × AllWithin (λ x. P (f x) → ⊥) xs 0 i)
    → MatchOption o (EachRow (map f xs) (λ p. P p → ⊥)) (λ i. (i < length (map f xs)) × P (get_or (map f xs) i nothing))
found_place f xs P None all = λ i lt. let l : i < length xs = simp length-map at lt in at_map f xs (λ p. P p → ⊥) i l (λ d. all i d (omega arith) l)
found_place f xs P (Some i) h = (simp length-map h.0, at_map f xs P i h.0 h.1)

-- ---- cuts in two parts
fails_front : (xs ys : List Numbers) (s : Numbers) → Fails xs s → Fails (xs ++ ys) s
fails_front xs ys s w = record {
  row = w.row;
  there = omega (arith, w.there, length-append xs ys);
  down = subst (λ (c : Numbers). Apart c s) (sym (get_or_append_left xs ys nothing w.row w.there)) w.down;
}

fails_behind : (xs ys : List Numbers) (s : Numbers) → Fails ys s → Fails (xs ++ ys) s
fails_behind xs ys s w = record {
  row = length xs + w.row;
  there = omega (arith, w.there, length-append xs ys);
  down = subst (λ (c : Numbers). Apart c s) (sym (get_or-append-add xs ys w.row nothing)) w.down;
}

fails_parts : (xs ys : List Numbers) (s : Numbers) → (Fails xs s → ⊥) → Fails (xs ++ ys) s → Fails ys s
fails_parts xs ys s never w = elim (cases_lt w.row (length xs)) [
  | inl l ↦ absurd (never (record { row = w.row; there = l; down = subst (λ (c : Numbers). Apart c s) (get_or_append_left xs ys nothing w.row l) w.down }))
  | inr h ↦
      record {
        row = w.row - length xs;
        there = omega (arith, w.there, length-append xs ys);
        down = subst (λ (c : Numbers). Apart c s) (get_or-append_right xs ys (length xs) w.row nothing refl h) w.down;
      }
]

-- ---- paths held against blocks of cuts: `rest` are the cuts still to come, `first` is where the search stands
pub record Held (ps cs rest : List Numbers) (first : ℕ) : Type 0 where
  pub inside : first ≤ length ps
  pub within : (p : Numbers) → Fails rest p → Fails cs p
  pub none : first ≡ length ps → (i : ℕ) → i < length ps → Fails cs (get_or ps i nothing) → Fails rest (get_or ps i nothing)
  pub found : first < length ps → Fails cs (get_or ps first nothing)

pub held_none : (ps cs : List Numbers) (first : ℕ) → first ≡ length ps → Held ps cs cs first
held_none ps cs first e = record { inside = omega arith; within = λ p w. w; none = λ _ i lt w. w; found = λ lt. absurd (omega arith) }

-- one block more
held_more : (ps cs front behind : List Numbers) (first : ℕ) (o : Option ℕ) (next : ℕ)
    → MatchOption o (EachRow (take first ps) (λ p. Fails front p → ⊥)) (λ i. (i < length (take first ps)) × Fails front (get_or (take first ps) i nothing))
    → next ≡ unwrap_or o first → Held ps cs (front ++ behind) first → Held ps cs behind next
held_more ps cs front behind first None next each e h = record {
  inside = omega (arith, e, h.inside);
  within = λ p w. h.within p (fails_behind front behind p w);
  none = λ q i lt w.
      let all : take first ps ≡ ps = take_all first ps (omega (arith, e)) in
      fails_parts front behind _ (subst (λ (l : List Numbers). EachRow l (λ p. Fails front p → ⊥)) all each i lt) (h.none (omega (arith, e)) i lt w);
  found = λ lt. subst (λ k. Fails cs (get_or ps k nothing)) (sym e) (h.found (omega (arith, e)));
}
held_more ps cs front behind first (Some i) next is e h =
    let l : (i < first) × (i < length ps) = (omega (arith, is.0, length-take first ps), omega (arith, is.0, length-take first ps)) in
    record {
      inside = omega (arith, e);
      within = λ p w. h.within p (fails_behind front behind p w);
      none = λ q. absurd (omega (arith, e));
      found = λ lt. subst (λ k. Fails cs (get_or ps k nothing)) (sym e) (h.within _ (fails_front front behind _ (subst (Fails front) (get_or-take first ps i nothing l.0) is.1)));
    }

-- no cut is left
no_fails : (s : Numbers) → Fails [] s → ⊥
no_fails s w = omega (arith, w.there)

-- ---- a few paths, and the others
module _ {X : Type 0} (f : X → Numbers) (few others : List X) where
  pub row_of_few : (x : X) → IsRow f few x → IsRow f (few ++ others) x
  row_of_few x r = record {
    row = r.row;
    there = simp map-append (omega (arith, r.there, length-append (map f few) (map f others)));
    means = ap (λ (l : List Numbers). get_or l r.row nothing) (map-append f few others) ∙ get_or_append_left (map f few) (map f others) nothing r.row r.there ∙ r.means;
  }

  row_of_others : (x : X) → IsRow f others x → IsRow f (few ++ others) x
  row_of_others x r = record {
    row = length (map f few) + r.row;
    there = simp map-append (omega (arith, r.there, length-append (map f few) (map f others)));
    means = ap (λ (l : List Numbers). get_or l (length (map f few) + r.row) nothing) (map-append f few others) ∙ get_or-append-add (map f few) (map f others) r.row nothing ∙ r.means;
  }

  each_both : (P : Numbers → Type 0) → EachRow (map f few) P → EachRow (map f others) P → EachRow (map f (few ++ others)) P
  each_both P a b = subst (λ (l : List Numbers). EachRow l P) (sym (map-append f few others)) (λ i lt. go i (omega (arith, lt, length-append (map f few) (map f others))) (cases_lt i (length (map f few)))) where
    go : (i : ℕ) → i < length (map f few) + length (map f others) → (i < length (map f few)) ⊎ (length (map f few) ≤ i) → P (get_or (map f few ++ map f others) i nothing)
    go i lt (inl l) = subst P (sym (get_or_append_left (map f few) (map f others) nothing i l)) (a i l)
    go i lt (inr h) = subst P (sym (get_or-append_right (map f few) (map f others) (length (map f few)) i nothing refl h)) (b (i - length (map f few)) (omega arith))

-- one block more, of rows
pub held_next : {X : Type 0} (f : X → Numbers) (others front behind rest : List X) (cs : List Numbers) (first : ℕ) (o : Option ℕ) (next : ℕ) → front ++ behind ≡ rest
    → MatchOption o (EachRow (map f (take first others)) (λ p. Fails (map f front) p → ⊥)) (λ i. (i < length (map f (take first others))) × Fails (map f front) (get_or (map f (take first others)) i nothing))
    → next ≡ unwrap_or o first → Held (map f others) cs (map f rest) first → Held (map f others) cs (map f behind) next
held_next f others front behind rest cs first o next parts is e h =
    held_more (map f others) cs (map f front) (map f behind) first o next
    (subst (λ (l : List Numbers). MatchOption o (EachRow l (λ p. Fails (map f front) p → ⊥)) (λ i. (i < length l) × Fails (map f front) (get_or l i nothing))) (sym (take-map f first others)) is) e
    (subst (λ (l : List Numbers). Held (map f others) cs l first) (sym (ap (map f) parts) ∙ map-append f front behind) h)

-- ---- the path at `first`, or none
module _ {X A : Type 0} (f : X → Numbers) (v : A → X) (ps : List X) (cs rest : List Numbers) (first : ℕ) (h : Held (map f ps) cs rest first) where
  found_at : (a : A) → (first < length ps) × HoldsAt (λ y. v a ≡ y) ps first → IsRow f ps (v a) × Fails cs (f (v a))
  found_at a at_first =
      let there : first < length (map f ps) = simp length-map at_first.0 in
      let means : get_or (map f ps) first nothing ≡ f (v a) = get_or-map f ps first (v a) nothing at_first.0 ∙ ap f (sym (at_first.1 (v a))) in
      (record { row = first; there = there; means = means }, subst (Fails cs) means (h.found there))

  -- no cut is left
  pub held_all : (o : Option A) → rest ≡ [] → MatchOption o (length ps ≤ first) (λ a. (first < length ps) × HoldsAt (λ y. v a ≡ y) ps first)
      → MatchOption o (EachRow (map f ps) (λ p. Fails cs p → ⊥)) (λ a. IsRow f ps (v a) × Fails cs (f (v a)))
  held_all None over past = λ i lt w. no_fails _ (subst (λ (l : List Numbers). Fails l (get_or (map f ps) i nothing)) over (h.none (omega (arith, past, h.inside, length-map ps f)) i lt w))
  held_all (Some a) over at_first = found_at a at_first

  -- it is the first of all
  pub held_first : (o : Option A) → first ≡ 0 → MatchOption o (length ps ≤ first) (λ a. (first < length ps) × HoldsAt (λ y. v a ≡ y) ps first)
      → MatchOption o (EachRow (map f ps) (λ p. Fails cs p → ⊥)) (λ a. IsRow f ps (v a) × Fails cs (f (v a)))
  held_first None over past = λ i lt. absurd (omega (arith, past, over, lt, length-map ps f))
  held_first (Some a) over at_first = found_at a at_first

-- ---- paths held one after another: what is found among the rest is found of all
pub record Ahead {X : Type 0} (f : X → Numbers) (ps rest : List X) (P : Numbers → Type 0) : Type 0 where
  pub row : (x : X) → IsRow f rest x → IsRow f ps x
  pub each : EachRow (map f rest) (λ p. P p → ⊥) → EachRow (map f ps) (λ p. P p → ⊥)

module _ {X : Type 0} (f : X → Numbers) (P : Numbers → Type 0) where
  pub ahead_all : (ps : List X) → Ahead f ps ps P
  ahead_all ps = record { row = λ x r. r; each = λ e. e }

  -- none is found among the first of the rest
  pub ahead_more : (ps few others : List X) → EachRow (map f few) (λ p. P p → ⊥) → Ahead f ps (few ++ others) P → Ahead f ps others P
  ahead_more ps few others none a = record { row = λ x r. a.row x (row_of_others f few others x r); each = λ e. a.each (each_both f few others (λ p. P p → ⊥) none e) }

  pub ahead_few : {A : Type 0} (v : A → X) (ps few others : List X) (x : A) → IsRow f few (v x) × P (f (v x)) → Ahead f ps (few ++ others) P → IsRow f ps (v x) × P (f (v x))
  ahead_few v ps few others x r a = (a.row (v x) (row_of_few f few others (v x) r.0), r.1)

  pub ahead_found : {A : Type 0} (v : A → X) (ps rest : List X) (o : Option A) → Ahead f ps rest P
      → MatchOption o (EachRow (map f rest) (λ p. P p → ⊥)) (λ x. IsRow f rest (v x) × P (f (v x))) → MatchOption o (EachRow (map f ps) (λ p. P p → ⊥)) (λ x. IsRow f ps (v x) × P (f (v x)))
  ahead_found v ps rest None a each = a.each each
  ahead_found v ps rest (Some x) a r = (a.row (v x) r.0, r.1)
