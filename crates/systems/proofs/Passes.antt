-- One line after another crossed.
use Rattle.std.proofs.Common.{◌≡◌, ◌||◌, sym, ℕ, ◌+◌, ◌<◌, Bool, true, false, T, List, length, get_or, refl, subst, subst₂, ⊎_elim, below_more}
use Rattle.std.proofs.lemmas.Bool.{true≢false, or_right}
use Rattle.sets.specs.Sets.{Numbers}
use Rattle.sets.specs.Truth.{fails_false}
use Rattle.systems.specs.Lines.{Open, Joins, Walk, no_line}
use Rattle.systems.specs.Lines.Walk.{along}
use Rattle.systems.specs.Marking.{Crossed, Passed}
use Rattle.systems.specs.States.{up}
use Rattle.systems.specs.declared.line.Line.{Line}
use Rattle.systems.specs.declared.lines.LineDrawing.{LineDrawing}
use Rattle.systems.specs.declared.state.State.{State}

or_false : (b : Bool) → b ≡ (b || false)
or_false true = refl
or_false false = refl

module _ (items nodes : ℕ) (lines : List Line) (s : Numbers) where
  -- the next line
  module _ (i : ℕ) (before mid after : Numbers) (more : Bool) (low : i < length lines) (p : Passed items nodes lines s i before mid more) where
    abbrev Next : Bool → Type 0
    Next r = Crossed items nodes s (get_or lines i no_line) mid after r

    -- what it leads to has a walk
    next_walk : (r : Bool) → Next r → ((k : ℕ) → T (mid k) → Walk items nodes lines s k) → (k : ℕ) → T (after k) → Walk items nodes lines s k
    next_walk r c w k t = ⊎_elim (w k) (λ x. along i low x.1 x.2 (w x.0 x.3)) (c.sound k t)

    pub passed_new : Next true → Passed items nodes lines s (i + 1) before after true
    passed_new c = record {
      grown = λ k t. c.grown k (p.grown k t);
      sound = λ h. next_walk true c (p.sound h);
      still = λ e. absurd (true≢false e);
      closed = λ e. absurd (true≢false e);
      fresh = λ _. let f = c.fresh refl in (f.0, f.1, fails_false (before f.0) (λ t. subst T f.2 (p.grown f.0 t)), f.3);
    }

    pub passed_same : Next false → Passed items nodes lines s (i + 1) before after more
    passed_same c = record {
      grown = λ k t. c.grown k (p.grown k t);
      sound = λ h. next_walk false c (p.sound h);
      still = λ e k t. p.still e k (c.still refl k t);
      closed = λ e.
          below_more (λ j. Open items nodes s (get_or lines j no_line) → (a b : ℕ) → Joins (get_or lines j no_line) a b → T (before a) → T (before b)) i
          (p.closed e) (λ o a b j t. p.still e b (c.closed refl o a b j (p.grown a t)));
      fresh = λ e. let f = p.fresh e in (f.0, f.1, f.2, c.grown f.0 f.3);
    }

    pub passed_more : (r : Bool) → Next r → Passed items nodes lines s (i + 1) before after (more || r)
    passed_more true c = subst (Passed items nodes lines s (i + 1) before after) (sym (or_right more true refl)) (passed_new c)
    passed_more false c = subst (Passed items nodes lines s (i + 1) before after) (or_false more) (passed_same c)

-- ---- a drawing and a state in place of others that are equal

pub passed_as : {d d' : LineDrawing} {t t' : State} → d ≡ d' → t ≡ t' → (before after : Numbers) (more : Bool) → Passed t.count d.nodes d.lines.now (up t) (length d.lines.now) before after more → Passed t'.count d'.nodes d'.lines.now (up t') (length d'.lines.now) before after more
passed_as e f before after more = subst₂ (λ d t. Passed t.count d.nodes d.lines.now (up t) (length d.lines.now) before after more) e f
