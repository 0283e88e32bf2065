-- The steps of a state whose set of items is made smaller item by item.
use Rattle.std.proofs.Common.{◌≡◌, ℕ, ◌+◌, ◌<◌, Bool, true, false, cond, not, ◌&&◌, T, eqb, Decides, sym, refl, ap, ◌∙◌, subst, arith, below_more}
use mathlib.Core.Path.{fun_ext}
use Rattle.std.proofs.lemmas.Bool.{cond_both, cond-false, eqb-true, eq-eqb, lt-ltb, both_ways}
use Rattle.sets.specs.Sets.{Numbers, without, Within, Same, Below}
use Rattle.sets.specs.Truth.{holds_true}
use Rattle.systems.specs.States.{up, marked}
use Rattle.systems.specs.Systems.{Structure}
use Rattle.systems.specs.Drawings.{WorksIn}
use Rattle.systems.specs.declared.state.State.{State}
use Rattle.systems.proofs.UpRows.{up_below}
use Rattle.completion.proofs.Minimality.{without_within, needed_less}

-- ---- an item that is put down, and put up again
marked_in : (n k j : ℕ) (b : Bool) (s : Numbers) → k < n → marked n k b s j ≡ cond (eqb j k) b (s j)
marked_in n k j b s lt = ap (λ (x : Bool). cond (x && eqb j k) b (s j)) (lt-ltb k n lt)

drops : (b x : Bool) → cond b false x ≡ (not b && x)
drops true x = refl
drops false x = refl

put_down : (n k : ℕ) (s t : Numbers) → k < n → Same t (marked n k false s) → t ≡ without s k
put_down n k s t lt m = fun_ext (λ j. m j ∙ marked_in n k j false s lt ∙ drops (eqb j k) (s j))

put_back : (n k : ℕ) (s t u : Numbers) → k < n → s k ≡ true → Same t (marked n k false s) → Same u (marked n k true t) → u ≡ s
put_back n k s t u lt e down back =
    fun_ext (λ j. back j ∙ marked_in n k j true t lt ∙ cond_both (eqb j k) true (t j) (λ x. x ≡ s j)
    (λ y. sym (ap s (eqb-true j k y) ∙ e))
    (λ y. down j ∙ marked_in n k j false s lt ∙ cond-false (eqb j k) false (s j) y))

-- ---- sets
abbrev Needed : Structure → Numbers → ℕ → Type 0
Needed ψ s j = T (s j) → T (ψ.works (without s j)) → ⊥

-- the system works, and needs each item below k
pub record Tried (ψ : Structure) (s : Numbers) (k : ℕ) : Type 0 where
  pub works : T (ψ.works s)
  pub needed : (j : ℕ) → j < k → T (s j) → T (ψ.works (without s j)) → ⊥

module _ (ψ : Structure) (s : Numbers) (k : ℕ) where
  tried_skip : s k ≡ false → Tried ψ s k → Tried ψ s (k + 1)
  tried_skip e h =
      record { works = h.works; needed = below_more (Needed ψ s) k h.needed (λ t _. both_ways (s k) e (holds_true (s k) t)) }

  tried_drop : Below ψ.items s → T (ψ.works (without s k)) → Tried ψ s k → Tried ψ (without s k) (k + 1)
  tried_drop low works h =
      let gone : without s k k ≡ false = ap (λ (b : Bool). not b && s k) (eq-eqb k k refl) in
      let into = without_within s k in
      record {
        works = works;
        needed = below_more (Needed ψ (without s k)) k
            (λ j lt x. needed_less ψ s (without s k) j low into (h.needed j lt (into j x)))
            (λ x _. both_ways (without s k k) gone (holds_true (without s k k) x));
      }

  tried_keep : (T (ψ.works (without s k)) → ⊥) → Tried ψ s k → Tried ψ s (k + 1)
  tried_keep stops h = record { works = h.works; needed = below_more (Needed ψ s) k h.needed (λ _ x. stops x) }

-- ---- states
-- the state s is within the first, and its items below k were tried
pub record Shrinking (ψ : Structure) (first s : State) (k : ℕ) : Type 0 where
  pub count : s.count ≡ first.count
  pub within : Within (up s) (up first)
  pub tried : WorksIn ψ first → Tried ψ (up s) k

module _ (ψ : Structure) (first s : State) (k : ℕ) where
  low : Shrinking ψ first s k → first.count ≡ ψ.items → Below ψ.items (up s)
  low h e j t = let lt = up_below s j t in let a = h.count in omega arith

  pub shrink_skip : up s k ≡ false → Shrinking ψ first s k → Shrinking ψ first s (k + 1)
  shrink_skip e h = record { count = h.count; within = h.within; tried = λ w. tried_skip ψ (up s) k e (h.tried w) }

  -- t has the item k down
  module _ (t : State) (lt : k < s.count) (same : t.count ≡ s.count) (down : Same (up t) (marked s.count k false (up s))) where
    gone : up t ≡ without (up s) k
    gone = put_down s.count k (up s) (up t) lt down

    pub shrink_drop : Decides true (WorksIn ψ t) → Shrinking ψ first s k → Shrinking ψ first t (k + 1)
    shrink_drop works h = record {
      count = same ∙ h.count;
      within = λ j x. h.within j (without_within (up s) k j (subst (λ (v : Numbers). T (v j)) gone x));
      tried = λ w. subst (λ (v : Numbers). Tried ψ v (k + 1)) (sym gone)
          (tried_drop ψ (up s) k (low h w.0) (subst (λ (v : Numbers). T (ψ.works v)) gone (works.0 refl).1) (h.tried w));
    }

    -- u has it up again
    pub shrink_keep : (u : State) → u.count ≡ t.count → Same (up u) (marked t.count k true (up t)) → up s k ≡ true → Decides false (WorksIn ψ t) → Shrinking ψ first s k → Shrinking ψ first u (k + 1)
    shrink_keep u again back here works h =
        let is : up u ≡ up s = put_back s.count k (up s) (up t) (up u) lt here down (subst (λ (n : ℕ). Same (up u) (marked n k true (up t))) same back) in
        record {
          count = again ∙ same ∙ h.count;
          within = subst (λ (v : Numbers). Within v (up first)) (sym is) h.within;
          tried = λ w. subst (λ (v : Numbers). Tried ψ v (k + 1)) (sym is)
              (tried_keep ψ (up s) k (λ x. both_ways false refl (works.1 (same ∙ h.count ∙ w.0, subst (λ (v : Numbers). T (ψ.works v)) (sym gone) x))) (h.tried w));
        }
