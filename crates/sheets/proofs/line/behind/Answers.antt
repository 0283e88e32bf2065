use Rattle.std.proofs.Common.{MatchOption, ◌≡◌, ◌≢◌, ◌++◌, Option, Some, None, Bor}
use Rattle.std.proofs.lemmas.Bool.Decides.{Decides-eqb}
use Rattle.std.proofs.lemmas.Slice.Eq.{strip_prefix_is}
use Rattle.sheets.specs.Bytes.{Bytes}
use Rattle.sheets.specs.Lines.{Begins}
use Rattle.sheets.proofs.line.behind.Goals as goal

begins_behind : (s head : Bytes) (r : Option (Bor Bytes)) → MatchOption r ((rest : Bytes) → s ≢ head ++ rest) (λ x. s ≡ head ++ x.now) → MatchOption r (Begins s head → ⊥) (λ x. s ≡ head ++ x.now)
begins_behind s head (Some x) m = m
begins_behind s head None m = λ b. m b.0 b.1

pub returns : goal.returns
returns c = begins_behind c.args.s.now c.args.head.now c.strip_prefix.result (strip_prefix_is Decides-eqb c.args.s.now c.args.head.now c.strip_prefix.result c.strip_prefix.ensures.cases)
