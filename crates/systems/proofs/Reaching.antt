-- Marks that spread until nothing changes, and what they tell of the drawing.
use Rattle.std.proofs.Common.{◌≡◌, ℕ, ◌-◌, ◌<◌, ◌≤◌, Bool, true, false, cond, T, eqb, List, length, get_or, set, replicate, Decides, sym, refl, ap, ◌∙◌, subst, ⊎_elim, arith, lit<}
use Rattle.std.proofs.lemmas.Bool.{eqb-true, cases_lt}
use Rattle.sets.specs.Sets.{Numbers, Within, count}
use Rattle.sets.specs.Truth.{holds_true, true_holds}
use Rattle.systems.specs.Drawings.{WorksIn}
use Rattle.systems.specs.Lines.{Walk, connects, line_structure}
use Rattle.systems.specs.Lines.Walk.{start, along}
use Rattle.systems.specs.Marking.{Passed}
use Rattle.systems.specs.States.{up}
use Rattle.systems.specs.declared.line.Line.{Line}
use Rattle.systems.specs.declared.state.State.{State}
use Rattle.systems.proofs.Chains.{count_most, count_back, chains_are_walks}
use Rattle.systems.proofs.Marks.{blank, put_reads}

self_cond : (b : Bool) → cond b true false ≡ b
self_cond true = refl
self_cond false = refl

-- node 0 alone
pub first_only : (k : ℕ) → get_or (set (replicate 256 false) 0 true) k false ≡ eqb k 0
first_only k =
    put_reads (replicate 256 false) 0 k true (lit< tt) ∙ ap (λ x. cond (eqb k 0) true x) (blank 256 k) ∙ self_cond (eqb k 0)

-- a new mark is one more
more_marked : (n k : ℕ) (before after : Numbers) → Within before after → k < n → before k ≡ false → T (after k) → count before n < count after n
more_marked n k before after h l e t =
    ⊎_elim (λ less. less) (λ le. absurd (subst T e (count_back before after h n le k l t))) (cases_lt (count before n) (count after n))

module _ (items nodes : ℕ) (lines : List Line) (s : Numbers) where
  -- node 0 is marked, and a walk leads to each marked node
  pub record Sound (marks : Numbers) : Type 0 where
    pub first : T (marks 0)
    pub walk : (k : ℕ) → T (marks k) → Walk items nodes lines s k

  pub sound_first : (marks : Numbers) → ((k : ℕ) → marks k ≡ eqb k 0) → Sound marks
  sound_first marks e = record {
    first = true_holds (marks 0) (e 0);
    walk = λ k t. subst (Walk items nodes lines s) (sym (eqb-true k 0 (sym (e k) ∙ holds_true (marks k) t))) start;
  }

  module _ (n : ℕ) (before after : Numbers) (more : Bool) (p : Passed items nodes lines s n before after more) where
    -- a new mark leaves fewer nodes without one
    pub fewer_left : more ≡ true → nodes - count after nodes < nodes - count before nodes
    fewer_left e =
        let f = p.fresh e in
        let m = more_marked nodes f.0 before after p.grown f.1 f.2 f.3 in
        omega (arith, count_most after nodes)

  module _ (before after : Numbers) (more : Bool) (p : Passed items nodes lines s (length lines) before after more) where
    -- where no line leads to a new node, each walk stays among the marks
    stays : more ≡ false → Sound before → {k : ℕ} → Walk items nodes lines s k → T (before k)
    stays e g start = g.first
    stays e g (along {a} {b} i l o j w) = p.closed e i l o a b j (stays e g w)

    pub decides_walk : more ≡ false → Sound before → (k : ℕ) → Decides (after k) (Walk items nodes lines s k)
    decides_walk e g k =
        (λ t. p.sound g.walk k (true_holds (after k) t), λ w. holds_true (after k) (p.grown k (stays e g w)))

module _ (items nodes : ℕ) (lines : List Line) (state : State) where
  abbrev Drawn : Type 0
  Drawn = WorksIn (line_structure items nodes lines) state

  pub decides_drawn : (r : Bool) → state.count ≡ items → 1 ≤ nodes → nodes ≤ 256 → length lines ≤ 1024 → Decides r (Walk state.count nodes lines (up state) (nodes - 1)) → Decides r Drawn
  decides_drawn r e some few short d =
      let at : ℕ → Type 0 = λ n. Walk n nodes lines (up state) (nodes - 1) in
      let rule = chains_are_walks items nodes lines (up state) in (
        λ t. (e, true_holds (connects items nodes lines (up state)) (rule.1 (record { some = some; few = few; short = short; walk = subst at e (d.0 t) }))),
        λ w. d.1 (subst at (sym e) (rule.0 (holds_true (connects items nodes lines (up state)) w.1)).walk),
      )
