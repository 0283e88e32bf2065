use Rattle.std.proofs.Common.{◌≡◌, ◌||◌, take, refl, sym, ap, ◌∙◌, of_calls}
use Rattle.std.specs.List.{list_any}
use Rattle.std.proofs.lemmas.Fn.{says_at, serves_by}
use Rattle.std.proofs.lemmas.Iterator.{YieldsList-from_slice}
use Rattle.std.proofs.lemmas.Iterator.Search.{any_from_yields_List}
use Rattle.tables.specs.Memory.{meant}
use Rattle.duality.proofs.Sifting.{any_standing}
use Rattle.duality.proofs.left.Left.any.Goals as goal
use Rattle.duality.proofs.left.Left.any.Goals.{then-any, else-any}

pub any-requires-clause-callable : goal.any-requires-clause-callable
any-requires-clause-callable g c = serves_by _ (λ xs q. q.now ≡ c.args.row_passes) (λ xs q x v e k. ap (λ r. r.now) k.met.1 ∙ e) _ _ _ _ refl (λ xs t q x u y z e. rw e (search of_calls))

pub any-requires-else-any-clause-callable : goal.any-requires-else-any-clause-callable
any-requires-else-any-clause-callable g c = serves_by _ (λ xs q. q.now ≡ c.args.passes) (λ xs q x v e k. ap (λ r. r.now) k.met.1 ∙ e) _ _ _ _ refl (λ xs t q x u y z e. rw e (search of_calls))

pub returns : goal.returns
returns g c test h on_rows =
    let bits = g.M.Mask.bits in
    let mem = g.K.SetKind.mem in
    let left = c.args.self.now in
    let behind = c.iter.result.rest.now in
    let first : c.any.result ≡ list_any (λ x. test (meant mem x)) behind =
    any_from_yields_List (λ x. test (meant mem x)) _ _ c.any.result c.any.ensures.ran (YieldsList-from_slice behind cc) (λ x b q k. (k.met.1, on_rows x.now b (says_at g.G.Fn k.met.0 refl))) in
    let masks = take left.count left.masks.now in
    let is = any_standing test bits mem left masks behind refl c.iter.ensures.rest in
    elim c.if-any.branch [
      | then-any w ↦ w.result-is ∙ w.if-any.true ∙ sym (is ∙ ap (λ b. b || list_any (λ m. test (bits m)) masks) (sym first ∙ w.if-any.true))
      | else-any w ↦
          let rest = w.iter-else-any.result.rest.now in
          let second : w.any-else-any.result ≡ list_any (λ m. test (bits m)) rest =
          any_from_yields_List (λ m. test (bits m)) _ _ w.any-else-any.result w.any-else-any.ensures.ran (YieldsList-from_slice rest cc) (λ x b q k. (k.met.1, h x.now b (says_at g.F.Fn k.met.0 refl))) in
          w.result-is ∙ second ∙ ap (list_any (λ m. test (bits m))) w.iter-else-any.ensures.rest
          ∙ sym (is ∙ ap (λ b. b || list_any (λ m. test (bits m)) masks) (sym first ∙ w.if-any.false))
    ]
