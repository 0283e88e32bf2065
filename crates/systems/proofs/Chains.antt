-- A chain of as many lines as there are nodes leads wherever a walk leads, so `connects` decides `Connects`.
use Rattle.std.proofs.Common.{◌≡◌, ℕ, zero, suc, ◌-◌, ◌<◌, ◌≤◌, Bool, true, false, ◌&&◌, T, eqb, ltb, leb, ◌⊎◌, List, length, get_or, Decides, sym, refl, subst, inl, inr, ⊎_elim, arith, eqb→eq}
use Rattle.std.proofs.lemmas.List.{get_or_default}
use Rattle.std.proofs.lemmas.Bool.{cases_eq, cases_lt, leb-true, le-leb}
use Rattle.std.proofs.lemmas.Bool.Decides.{Decides-and, Decides-or, Decides-like, Decides-by_or, Decides-eqb, Decides-ltb}
use Rattle.sets.specs.Sets.{Numbers, Within, Below, one, count}
use Rattle.sets.specs.Truth.{holds_true, true_holds, or_T, T_or_left, T_or_right}
use Rattle.sets.specs.Counts.{one_mono, count_mono}
use Rattle.systems.specs.Lines.{Open, Joins, Walk, ChainsAreWalks, no_line, is_open, leads, crossed, reached, connects}
use Rattle.systems.specs.Lines.Walk.{start, along}
use Rattle.systems.specs.declared.line.Line.{Line}

decides_T : (b : Bool) → Decides b (T b)
decides_T b = (true_holds b, holds_true b)

pub decides_leb : (a b : ℕ) → Decides (leb a b) (a ≤ b)
decides_leb a b = (leb-true a b, le-leb a b)

-- Counts

one_most : (b : Bool) → one b ≤ 1
one_most true = omega arith
one_most false = omega arith

pub count_most : (s : Numbers) (n : ℕ) → count s n ≤ n
unfolding count
count_most s zero = omega arith
count_most s (suc n) = omega (arith, one_most (s n), count_most s n)

one_has : (b : Bool) → T b → 1 ≤ one b
one_has true t = omega arith
one_has false t = absurd t

pub count_has : (s : Numbers) (n : ℕ) → T (s 0) → 1 ≤ n → 1 ≤ count s n
unfolding count
count_has s zero t h = absurd (omega arith)
count_has s (suc zero) t h = omega (arith, one_has (s 0) t)
count_has s (suc (suc n)) t h = omega (arith, count_has s (suc n) t (omega arith))

one_back : (a b : Bool) → one a ≤ one b → T a → T b
one_back true true h = λ t. t
one_back true false h = absurd (omega arith)
one_back false b h = λ t. absurd t

-- a larger set with no more members is the same
pub count_back : (s t : Numbers) → Within s t → (n : ℕ) → count t n ≤ count s n → (k : ℕ) → k < n → T (t k) → T (s k)
unfolding count
count_back s t h zero le k l = absurd (omega arith)
count_back s t h (suc n) le k l =
    let top = one_mono (s n) (t n) (h n) in
    let rest = count_mono s t n h in
    elim (cases_eq k n) [
      | inl p ↦ subst (λ (j : ℕ). T (t j) → T (s j)) (sym p) (one_back (t n) (s n) (omega arith))
      | inr p ↦ count_back s t h n (omega arith) k (omega arith)
    ]

-- One line

abbrev Leads : Line → Numbers → ℕ → Type 0
Leads l m b = (a : ℕ) × Joins l a b × T (m a)

decides_leads : (l : Line) (m : Numbers) (b : ℕ) → Decides (leads l m b) (Leads l m b)
decides_leads l m b =
    Decides-like (leads l m b)
    (λ e. elim e [ inl p ↦ (l.from, inl (refl, p.0), p.1) | inr p ↦ (l.to, inr (p.0, refl), p.1) ])
    (λ w. elim w.1 [
      | inl p ↦ inl (p.1, subst (λ (x : ℕ). T (m x)) (sym p.0) w.2)
      | inr p ↦ inr (p.0, subst (λ (x : ℕ). T (m x)) (sym p.1) w.2)
    ])
    (Decides-or (eqb l.to b && m l.from) (eqb l.from b && m l.to)
    (Decides-and (eqb l.to b) (m l.from) (Decides-eqb l.to b) (decides_T (m l.from)))
    (Decides-and (eqb l.from b) (m l.to) (Decides-eqb l.from b) (decides_T (m l.to))))

decides_open : (items nodes : ℕ) (s : Numbers) (l : Line) → Decides (is_open items nodes s l) (Open items nodes s l)
decides_open items nodes s l =
    Decides-like (is_open items nodes s l)
    (λ h. record { from_in = h.0; to_in = h.1.0; item_in = h.1.1.0; up = h.1.1.1 })
    (λ o. (o.from_in, (o.to_in, (o.item_in, o.up))))
    (Decides-and (ltb l.from nodes) (ltb l.to nodes && (ltb l.item items && s l.item)) (Decides-ltb l.from nodes)
    (Decides-and (ltb l.to nodes) (ltb l.item items && s l.item) (Decides-ltb l.to nodes)
    (Decides-and (ltb l.item items) (s l.item) (Decides-ltb l.item items) (decides_T (s l.item)))))

-- Some line

abbrev Crosses : ℕ → ℕ → Numbers → Numbers → ℕ → Line → Type 0
Crosses items nodes s m b l = Open items nodes s l × Leads l m b

abbrev Crossed : ℕ → ℕ → List Line → Numbers → Numbers → ℕ → Type 0
Crossed items nodes lines s m b = (i : ℕ) × (i < length lines) × Crosses items nodes s m b (get_or lines i no_line)

module _ (items nodes : ℕ) (lines : List Line) (s : Numbers) where
  decides_crossed : (m : Numbers) (b : ℕ) → Decides (crossed items nodes s lines m b) (Crossed items nodes lines s m b)
  decides_crossed m b =
      Decides-like (crossed items nodes s lines m b)
      (λ h. (h.0, h.1, h.2 no_line))
      (λ h. (h.0, h.1, λ d. subst (Crosses items nodes s m b) (get_or_default lines h.0 no_line d h.1) h.2))
      (Decides-by_or (λ l. is_open items nodes s l && leads l m b) (Crosses items nodes s m b) (λ ls. crossed items nodes s ls m b)
      (λ l. Decides-and (is_open items nodes s l) (leads l m b) (decides_open items nodes s l) (decides_leads l m b))
      refl (λ _ _. refl) lines)

  crossed_by : (m : Numbers) (b : ℕ) → T (crossed items nodes s lines m b) → Crossed items nodes lines s m b
  crossed_by m b t = (decides_crossed m b).0 (holds_true (crossed items nodes s lines m b) t)

  by_crossed : (m : Numbers) (b : ℕ) → Crossed items nodes lines s m b → T (crossed items nodes s lines m b)
  by_crossed m b h = true_holds (crossed items nodes s lines m b) ((decides_crossed m b).1 h)

  -- Chains

  abbrev R : ℕ → Numbers
  R = reached items nodes lines s

  abbrev Step : ℕ → ℕ → Type 0
  Step k b = Crossed items nodes lines s (R k) b

  reached_zero : (b : ℕ) → T (R 0 b) → b ≡ 0
  unfolding reached
  reached_zero b t = eqb→eq b 0 t

  reached_start : T (R 0 0)
  unfolding reached
  reached_start = tt

  reached_cases : (k b : ℕ) → T (R (suc k) b) → T (R k b) ⊎ Step k b
  unfolding reached
  reached_cases k b t = ⊎_elim inl (λ x. inr (crossed_by (R k) b x)) (or_T (R k b) (crossed items nodes s lines (R k) b) t)

  reached_keeps : (k : ℕ) → Within (R k) (R (suc k))
  unfolding reached
  reached_keeps k b t = T_or_left (R k b) (crossed items nodes s lines (R k) b) t

  reached_step : (k b : ℕ) → Step k b → T (R (suc k) b)
  unfolding reached
  reached_step k b h = T_or_right (R k b) (crossed items nodes s lines (R k) b) (by_crossed (R k) b h)

  reached_first : (k : ℕ) → T (R k 0)
  reached_first zero = reached_start
  reached_first (suc k) = reached_keeps k 0 (reached_first k)

  -- a chain is a walk
  walks : (k b : ℕ) → T (R k b) → Walk items nodes lines s b
  walks zero b t = subst (Walk items nodes lines s) (sym (reached_zero b t)) start
  walks (suc k) b t =
      elim (reached_cases k b t) [
        | inl x ↦ walks k b x
        | inr c ↦ along {a = c.2.1.0} {b = b} c.0 c.1 c.2.0 c.2.1.1 (walks k c.2.1.0 c.2.1.2)
      ]

  -- where one line more leads nowhere new, two more do not either
  abbrev Closed : ℕ → Type 0
  Closed k = Within (R (suc k)) (R k)

  closed_next : (k : ℕ) → Closed k → Closed (suc k)
  closed_next k h b t =
      elim (reached_cases (suc k) b t) [
        | inl x ↦ x
        | inr c ↦ reached_step k b (c.0, c.1, (c.2.0, (c.2.1.0, c.2.1.1, h c.2.1.0 c.2.1.2)))
      ]

  -- then each walk is a chain
  chain : (k : ℕ) → Closed k → {b : ℕ} → Walk items nodes lines s b → T (R k b)
  chain k h start = reached_first k
  chain k h (along {a} {b} i l o j w) = h b (reached_step k b (i, l, (o, (a, j, chain k h w))))

  module _ (some : 1 ≤ nodes) where
    joined_low : (l : Line) (a b : ℕ) → Open items nodes s l → Joins l a b → b < nodes
    joined_low l a b o j =
        elim j [ inl p ↦ subst (λ (x : ℕ). x < nodes) p.1 o.to_in | inr p ↦ subst (λ (x : ℕ). x < nodes) p.0 o.from_in ]

    reached_low : (k : ℕ) → Below nodes (R k)
    reached_low zero b t = omega (arith, reached_zero b t)
    reached_low (suc k) b t =
        elim (reached_cases k b t) [
          | inl x ↦ reached_low k b x
          | inr c ↦ joined_low (get_or lines c.0 no_line) c.2.1.0 b c.2.0 c.2.1.1
        ]

    -- each line more leads to a new node, until none does
    grows : (k : ℕ) → Closed k ⊎ (k < count (R k) nodes)
    grows zero = inr (count_has (R 0) nodes (reached_first 0) some)
    grows (suc k) =
        ⊎_elim (λ h. inl (closed_next k h))
        (λ h. ⊎_elim (λ l. inr (omega arith))
        (λ l. inl (closed_next k (λ b t. count_back (R k) (R (suc k)) (reached_keeps k) nodes l b (reached_low (suc k) b t) t)))
        (cases_lt (count (R k) nodes) (count (R (suc k)) nodes)))
        (grows k)

    closed : Closed nodes
    closed = ⊎_elim (λ h. h) (λ h. absurd (omega (arith, count_most (R nodes) nodes))) (grows nodes)

pub chains_are_walks : ChainsAreWalks
chains_are_walks items nodes lines s =
    let last : Bool = reached items nodes lines s nodes (nodes - 1) in
    Decides-like (connects items nodes lines s)
    (λ h. record { some = h.0; few = h.1.0; short = h.1.1.0; walk = walks items nodes lines s nodes (nodes - 1) h.1.1.1 })
    (λ c. (c.some, (c.few, (c.short, chain items nodes lines s nodes (closed items nodes lines s c.some) c.walk))))
    (Decides-and (leb 1 nodes) (leb nodes 256 && (leb (length lines) 1024 && last)) (decides_leb 1 nodes)
    (Decides-and (leb nodes 256) (leb (length lines) 1024 && last) (decides_leb nodes 256)
    (Decides-and (leb (length lines) 1024) last (decides_leb (length lines) 1024) (decides_T last))))
