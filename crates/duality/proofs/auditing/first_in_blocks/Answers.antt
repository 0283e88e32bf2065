use Rattle.std.proofs.Common.{◌≡◌, [], ◌++◌, Bor, map, length, sym, ap, ap₂, ◌∙◌, arith}
use Rattle.std.proofs.lemmas.List.{length-map, length-take, take-append-drop, nil_from_length}
use Rattle.std.proofs.lemmas.Bool.{eqb-true, eqb-false}
use Rattle.tables.specs.Memory.{meant}
use Rattle.duality.proofs.Blocking.{held_none, held_next, held_all, held_first}
use Rattle.duality.proofs.auditing.first_in_blocks.Goals.{then-holding-test+else-not-is_empty, else-holding-test}
use Rattle.duality.proofs.auditing.first_in_blocks.Goals as goal

pub holding-init : goal.holding-init
holding-init g c = held_none _ _ _ (simp length-map)

pub slice_bounds-first_apart-end : goal.slice_bounds-first_apart-end
slice_bounds-first_apart-end g c = omega (arith, length-take c.holding.first c.args.paths.now, c.holding.invariant.inside, length-map c.args.paths.now (meant g.K.SetKind.mem))

pub holding-smaller : goal.holding-smaller
holding-smaller g c =
    let some = eqb-false (length c.holding.rest.now) 0 (sym c.if-not-is_empty.ensures) in
    omega (arith, some, c.min.ensures, c.split_at.ensures.back_len)

pub holding-preserved : goal.holding-preserved
holding-preserved g c =
    let f = meant g.K.SetKind.mem in
    let rest = c.holding.rest.now in
    let front = c.split_at.result.0.now in
    let behind = c.split_at.result.1.now in
    let all : front ++ behind ≡ rest = ap₂ (λ a b. a ++ b) c.split_at.ensures.front c.split_at.ensures.back ∙ take-append-drop c.min.result rest in
    held_next f c.args.paths.now front behind rest (map f c.args.cuts.now) c.holding.first c.first_apart.result c.unwrap_or-first.result all
    (c.first_apart.ensures (map f front) c.of.ensures) c.unwrap_or-first.ensures c.holding.invariant

pub returns : goal.returns
returns g c =
    let f = meant g.K.SetKind.mem in
    let rest = c.holding.rest.now in
    let held = c.holding.invariant in
    elim c.holding-test.branch [
      | then-holding-test+else-not-is_empty w ↦
          let over : rest ≡ [] = nil_from_length rest (eqb-true (length rest) 0 (sym w.if-not-is_empty.ensures)) in
          held_all f (λ (y : Bor _). y.now) c.args.paths.now _ _ c.holding.first held c.get.result (ap (map f) over) c.get.ensures.lookup.3
      | else-holding-test w ↦ held_first f (λ (y : Bor _). y.now) c.args.paths.now _ _ c.holding.first held c.get.result (omega (arith, w.holding-test.false)) c.get.ensures.lookup.3
    ]
