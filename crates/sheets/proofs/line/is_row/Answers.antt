use Rattle.std.proofs.Common.{refl, sym, ap, subst, ◌≡◌, length, arith}
use Rattle.std.proofs.lemmas.Bool.Decides.{nat_tests}
use Rattle.sheets.specs.Bytes.{Row}
use Rattle.std.proofs.lemmas.List.{nil_from_length}
use Rattle.sheets.proofs.Spans.{named_on, named_back, named_shorter, row_nil}
use Rattle.sheets.proofs.line.is_row.Goals as goal

pub returns : goal.returns
returns c =
    let none : length c.loop-rest.rest.now ≡ 0 = grind (arith, nat_tests) in
    ((λ _. c.loop-rest.invariant.0 (subst Row (sym (nil_from_length _ none)) row_nil)), (λ _. refl))

pub returns-in_default : goal.returns-in_default
returns-in_default c = (
  (λ e. absurd (cc)),
  (λ row.
      let none = ap length (c.in_default.ensures (c.loop-rest.invariant.1 row)) in
      absurd (grind (arith, nat_tests))),
)

pub loop-rest-preserved : goal.loop-rest-preserved
loop-rest-preserved c = let n = c.in-Some.ensures in
    ((λ row. c.loop-rest.invariant.0 (named_back _ _ _ n row)), (λ row. named_on _ _ _ n (c.loop-rest.invariant.1 row)))

pub loop-rest-smaller : goal.loop-rest-smaller
loop-rest-smaller c = named_shorter _ _ _ (c.in-Some.ensures)
