use Rattle.std.proofs.Common.{◌≡◌, ◌<◌, true, false, List, ◌∷◌, length, sym, ap, ◌∙◌, subst, arith}
use Rattle.std.proofs.lemmas.Bool.{cond-true, cond-false}
use Rattle.duality.specs.Halves.{opened, turned, backed, Half}
use Rattle.duality.specs.declared.splits.Frame.{Frame}
use Rattle.duality.proofs.Halving.{marks_in, half_turn, half_pop}
use Rattle.duality.proofs.search.Search.back.Goals as goal

pub returns-then-frame : goal.returns-then-frame
returns-then-frame c =
    let s = c.loop-frame.self in
    let f = c.in-Some.frame in
    let fs = c.in-Some.ensures.0 in
    let e = c.in-Some.ensures.1 in
    let then : opened c.turn_last.new.self ≡ turned f ∷ fs = c.turn_last.ensures f fs e in
    record {
      stands = λ n st.
          let h : Half n (f ∷ fs) s.low s.high = subst (λ (l : List Frame). Half n l s.low s.high) e (c.loop-frame.invariant.stands n st) in
          let low : f.item < s.low.count = omega (arith, h.fresh.0, h.low_count) in
          let high : f.item < s.high.count = omega (arith, h.fresh.0, h.high_count) in
          subst (λ (l : List Frame). Half n l c.set.new.self c.set-then-frame.new.self) (sym then)
          (half_turn n f fs s.low s.high c.set.new.self c.set-then-frame.new.self h
          (marks_in s.low c.set.new.self f.item false low c.set.ensures.count c.set.ensures.marks)
          (marks_in s.high c.set-then-frame.new.self f.item false high c.set-then-frame.ensures.count c.set-then-frame.ensures.marks));
      counts = (c.set.ensures.count ∙ c.loop-frame.invariant.low, c.set-then-frame.ensures.count ∙ c.loop-frame.invariant.high);
      back = then ∙ sym (cond-true f.up (turned f ∷ fs) (backed fs) c.if-frame.true) ∙ sym (ap backed e) ∙ c.loop-frame.invariant.back;
      split = omega (arith, c.count.ensures, ap length then);
    }

pub loop-frame-preserved : goal.loop-frame-preserved
loop-frame-preserved c =
    let s = c.loop-frame.self in
    let f = c.in-Some.frame in
    let fs = c.in-Some.ensures.0 in
    let e = c.in-Some.ensures.1 in
    let then : opened c.pop.new.self ≡ fs = c.pop.ensures f fs e in
    record {
      stands = λ n st.
          let h : Half n (f ∷ fs) s.low s.high = subst (λ (l : List Frame). Half n l s.low s.high) e (c.loop-frame.invariant.stands n st) in
          let low : f.item < s.low.count = omega (arith, h.fresh.0, h.low_count) in
          let high : f.item < s.high.count = omega (arith, h.fresh.0, h.high_count) in
          subst (λ (l : List Frame). Half n l c.set.new.self c.set-in-Some.new.self) (sym then)
          (half_pop n f fs s.low s.high c.set.new.self c.set-in-Some.new.self h
          (marks_in s.low c.set.new.self f.item false low c.set.ensures.count c.set.ensures.marks)
          (marks_in s.high c.set-in-Some.new.self f.item true high c.set-in-Some.ensures.count c.set-in-Some.ensures.marks));
      low = c.set.ensures.count ∙ c.loop-frame.invariant.low;
      high = c.set-in-Some.ensures.count ∙ c.loop-frame.invariant.high;
      back = ap backed then ∙ sym (cond-false f.up (turned f ∷ fs) (backed fs) c.if-frame.false) ∙ sym (ap backed e) ∙ c.loop-frame.invariant.back;
    }
