use Rattle.std.proofs.Common.{◌≡◌, ℕ, ◌+◌, ◌-◌, ◌*◌, ◌^◌, ◌≤◌, suc, inl, inr, drop, arith, ap, ap₂, sym, subst, ◌∙◌}
use Rattle.std.proofs.Math.Nat.{pow-succ', pow-le-pow_right}
use Rattle.std.proofs.lemmas.Bool.{cases_lt, both_ways}
use Rattle.std.proofs.lemmas.Nat.{leading_length}
use Rattle.sets.specs.Sets.{one}
use Rattle.duality.specs.Shares.{counted, Most}
use Rattle.duality.proofs.Planes.{counted_above, counted_high, counted_none, most_more, most_same, most_none}
use Rattle.duality.proofs.tally.most.Goals as goal
use Rattle.duality.proofs.tally.most.Goals.{then-not-is_none, else-not-is_none}

pub loop-above-init : goal.loop-above-init
loop-above-init g c =
    let bits = g.M.Mask.bits in
    let ps = c.args.planes.now in
    let used = c.min-used.result in
    let m = leading_length 64 c.args.rows (omega arith) in
    record {
      most = λ fits. most_none _ (bits c.args.items) (λ k.
          elim (cases_lt m.0 13) [
            | inl lt ↦ let e : used - 0 ≡ m.0 = omega (arith, c.min-used.ensures, m.1) in subst (λ p. counted bits (drop p ps) k ≡ 0) (sym e) (counted_high bits ps m.0 k (omega (arith, fits k, m.2)))
            | inr ge ↦ counted_none bits ps (used - 0) k (omega (arith, c.requires, c.min-used.ensures, m.1))
          ]);
      few = omega arith;
    }

pub loop-above-preserved : goal.loop-above-preserved
loop-above-preserved g c =
    let bits = g.M.Mask.bits in
    let ps = c.args.planes.now in
    let at = c.loop-above.above in
    let used = c.min-used.result in
    let p = used - 1 - at in
    let plane = c.index-planes-used.result in
    let f = counted bits (drop (used - at) ps) in
    let e : used - at ≡ suc p = omega arith in
    let next = λ (k : ℕ). counted_above bits ps p c.index-planes-used.result k (omega (arith, c.requires)) ∙ ap₂ (λ x q. one (bits x k) + 2 * counted bits (drop q ps) k) (sym c.index-planes-used.is) (sym e) in
    let down : used - (at + 1) ≡ p = omega arith in
    let up : 2 ^ (at + 1) ≡ 2 * 2 ^ at = ap (λ q. 2 ^ q) (omega arith) ∙ pow-succ' 2 at in
    elim c.if-not-is_none.branch [
      | then-not-is_none w ↦
          simp (w.most-is, w.leading-is) (record {
            most = λ fits.
                let h = c.loop-above.invariant.most fits in
                subst (λ q. Most (counted bits (drop q ps)) (bits c.args.items) (c.loop-above.most * 2 + 1) (bits c.and-more.result)) (sym down)
                (most_more f (counted bits (drop p ps)) (bits plane) (bits c.args.items) (bits c.loop-above.leading) c.loop-above.most next h (bits c.and-more.result) c.and-more.ensures
                (λ none. both_ways c.is_none.result w.if-not-is_none.true (c.is_none.ensures.1 none)));
            few = omega (arith, c.loop-above.invariant.few, up);
          })
      | else-not-is_none w ↦
          simp (w.most-is, w.leading-is) (record {
            most = λ fits.
                let h = c.loop-above.invariant.most fits in
                subst (λ q. Most (counted bits (drop q ps)) (bits c.args.items) (c.loop-above.most * 2) (bits c.loop-above.leading)) (sym down)
                (most_same f (counted bits (drop p ps)) (bits plane) (bits c.args.items) (bits c.loop-above.leading) c.loop-above.most next h (λ k. sym (c.and-more.ensures k) ∙ c.is_none.ensures.0 w.if-not-is_none.false k));
            few = omega (arith, c.loop-above.invariant.few, up);
          })
    ]

pub returns-clause-few : goal.returns-clause-few
returns-clause-few g c =
    let at = c.loop-above.above in
    let few : at ≤ 13 = omega (arith, c.loop-above.auto.above-end, c.min-used.ensures) in
    omega (arith, c.loop-above.invariant.few, pow-le-pow_right {n = 2} (omega arith) few)
