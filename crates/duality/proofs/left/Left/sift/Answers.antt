use Rattle.std.proofs.Common.{◌≡◌, ◌≤◌, nat_lt, length, take, refl, sym, ap, ◌∙◌, of_calls, arith}
use Rattle.std.proofs.lemmas.Bool.{lt-ltb, le-ltb}
use Rattle.std.proofs.lemmas.List.{length-take-le}
use Rattle.std.proofs.lemmas.List.Sorted.{length_permutation}
use Rattle.std.specs.List.{list_any}
use Rattle.std.proofs.lemmas.Fn.{says_at, serves_by}
use Rattle.std.proofs.lemmas.Iterator.{YieldsList-from_slice}
use Rattle.std.proofs.lemmas.Iterator.Search.{any_from_yields_List}
use Rattle.tables.specs.Memory.{meant}
use Rattle.duality.proofs.Sifting.{any_standing, sifted_after, any_filter, or_true, or_false}
use Rattle.duality.proofs.left.Left.sift.Goals as goal
use Rattle.duality.proofs.left.Left.sift.Goals.{then-self-gt0, else-self-gt0}

pub any-requires-clause-callable : goal.any-requires-clause-callable
any-requires-clause-callable g c = serves_by _ (λ xs q. q.now ≡ c.args.row_is_left) (λ xs q x v e k. ap (λ r. r.now) k.met.1 ∙ e) _ _ _ _ refl (λ xs t q x u y z e. rw e (search of_calls))

pub returns-clause-sifted : goal.returns-clause-sifted
returns-clause-sifted g c test h =
    sifted_after g.M.Mask.bits g.K.SetKind.mem c.args.self.now _ c.requires.fits c.sift-self.new.masks c.sift-self.ensures.moved refl refl refl c.sift-self.ensures.fewer refl refl test (c.sift-self.ensures.front test h)

pub returns-clause-left : goal.returns-clause-left
returns-clause-left g c test h on_rows =
    let bits = g.M.Mask.bits in
    let mem = g.K.SetKind.mem in
    let left = c.args.self.now in
    let masks = take left.count left.masks.now in
    let stay = c.sift-self.result in
    let front = c.sift-self.ensures.front test h in
    let fewer : stay ≤ length c.sift-self.new.masks = omega (arith, c.sift-self.ensures.fewer, length_permutation masks c.sift-self.new.masks c.sift-self.ensures.moved) in
    let some : nat_lt 0 stay ≡ list_any (λ m. test (bits m)) masks = any_filter (λ m. test (bits m)) masks stay (sym (length-take-le stay c.sift-self.new.masks fewer) ∙ ap length front) in
    let is = any_standing test bits mem left masks left.behind.now refl refl in
    let rows = list_any (λ x. test (meant mem x)) left.behind.now in
    elim c.if-self-gt0.branch [
      | then-self-gt0 w ↦
          let on = lt-ltb 0 stay (omega (arith, w.if-self-gt0.true)) in
          w.result-is ∙ on ∙ sym (is ∙ or_true rows (list_any (λ m. test (bits m)) masks) (sym some ∙ on))
      | else-self-gt0 w ↦
          let behind = w.iter.result.rest.now in
          let first : w.any.result ≡ list_any (λ x. test (meant mem x)) behind =
          any_from_yields_List (λ x. test (meant mem x)) _ _ w.any.result w.any.ensures.ran (YieldsList-from_slice behind cc) (λ x b q k. (k.met.1, on_rows x.now b (says_at g.G.Fn k.met.0 refl))) in
          w.result-is ∙ first ∙ ap (list_any (λ x. test (meant mem x))) w.iter.ensures.rest
          ∙ sym (is ∙ or_false rows (list_any (λ m. test (bits m)) masks) (sym some ∙ le-ltb 0 stay w.if-self-gt0.false))
    ]
