use mathlib.Core.Path.{fun_ext}
use Rattle.std.proofs.Common.{◌≡◌, List, ◌&&◌, not, MatchOption, sym, ap₂, ◌∙◌, subst}
use Rattle.sets.specs.Sets.{Numbers, NoneFrom, Within}
use Rattle.systems.specs.States.{up}
use Rattle.duality.specs.Shares.{Leads, Tallied}
use Rattle.duality.specs.Remaining.{left_masks}
use Rattle.duality.proofs.Sifting.{now_tallied, same_masks, many_masks}
use Rattle.duality.proofs.Choosing.{chosen}
use Rattle.duality.proofs.Passing.{some_leads}
use Rattle.duality.proofs.Narrowing.{paths_those, cuts_those}
use Rattle.duality.proofs.search.Search.choose.Goals as goal

pub returns-clause-chosen : goal.returns-clause-chosen
returns-clause-chosen g c =
    let bits = g.M.Mask.bits in
    let s = c.args.self.now in
    let paths = c.tally.new.self in
    let cuts = c.tally-2.new.self in
    let ps = left_masks bits paths in
    let cs = left_masks bits cuts in
    let undecided : Numbers = λ k. up s.high k && not (up s.low k) in
    let is : bits c.without-undecided.result ≡ undecided =
    fun_ext (λ k. c.without-undecided.ensures k ∙ ap₂ (λ (h l : Numbers). h k && not (l k)) c.mask_of.ensures c.mask_of-2.ensures) in
    let in_paths : Tallied bits ps c.planes.result.now = subst (λ planes. Tallied bits ps planes) (sym c.planes.ensures) (now_tallied bits paths c.tally.ensures.fits c.tally.ensures.tallied) in
    let in_cuts : Tallied bits cs c.planes-2.result.now = subst (λ planes. Tallied bits cs planes) (sym c.planes-2.ensures) (now_tallied bits cuts c.tally-2.ensures.fits c.tally-2.ensures.tallied) in
    let found = c.choose.ensures ps cs (many_masks bits paths c.tally.ensures.fits) (many_masks bits cuts c.tally-2.ensures.fits) in_paths in_cuts in
    let leads : MatchOption c.choose.result (NoneFrom undecided 0) (Leads ps cs undecided) = subst (λ (u : Numbers). MatchOption c.choose.result (NoneFrom u 0) (Leads ps cs u)) is found in
    let of_paths = same_masks bits c.args.paths.now paths c.tally.ensures.same in
    let of_cuts = same_masks bits c.args.cuts.now cuts c.tally-2.ensures.same in
    chosen (up s.low) (up s.high) (Leads (left_masks bits c.args.paths.now) (left_masks bits c.args.cuts.now) undecided) c.choose.result
    (subst (λ (rows : List Numbers). MatchOption c.choose.result (NoneFrom undecided 0) (Leads rows (left_masks bits c.args.cuts.now) undecided)) of_paths
    (subst (λ (rows : List Numbers). MatchOption c.choose.result (NoneFrom undecided 0) (Leads ps rows undecided)) of_cuts leads))

-- the masks that may be left are those of the rows that are left
pub returns-clause-leads : goal.returns-clause-leads
returns-clause-leads g c n ps cs first_paths first_cuts known narrowed p q =
    let s = c.args.self.now in
    some_leads (paths_those known first_paths p narrowed.paths) (cuts_those known first_cuts q narrowed.cuts) (λ k. up s.high k && not (up s.low k))
    (Within (up s.high) (up s.low)) c.choose.result (returns-clause-chosen g c)
