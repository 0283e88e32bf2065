use Rattle.std.proofs.Common.{◌≡◌, [], length, subst, rules}
use mathlib.Core.Path.{fun_ext}
use Rattle.std.specs.List.{AllWithin}
use Rattle.std.proofs.lemmas.Fn.{chained_keeps}
use Rattle.std.proofs.lemmas.List.Elements.{AllWithin-none, AllWithin-push}
use Rattle.sets.specs.Sets.{nothing, Same}
use Rattle.tables.specs.Memory.{meant}
use Rattle.tables.specs.declared.row.Row.{Row}
use Rattle.tables.proofs.memory.clear.Goals as goal

pub returns-clause-empty : goal.returns-clause-empty
returns-clause-empty g c =
    let P : Row g.row.K.Denot → Type 0 = λ place. meant g.K.SetKind.mem place ≡ nothing in
    subst (λ n. AllWithin P c.fill_with.new.self 0 n) c.fill_with.ensures.len
    (chained_keeps _ (λ xs _. AllWithin P xs 0 (length xs))
    (λ xs q x v h k. AllWithin-push P xs x h (fun_ext (let e : Same (g.K.SetKind.mem x.set) nothing = search rules in e)))
    _ _ _ (AllWithin-none P [] 0) c.fill_with.ensures.ran.1)
