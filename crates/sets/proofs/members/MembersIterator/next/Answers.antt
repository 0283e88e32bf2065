use Rattle.std.proofs.Common.{◌-◌, length, rules, ap}
use Rattle.sets.proofs.Remaining.{none_left, next_left}
use Rattle.sets.proofs.members.MembersIterator.next.Goals as goal

pub returns-in_err-item-clause-steps : goal.returns-in_err-item-clause-steps
returns-in_err-item-clause-steps g c =
    let m = c.args.self.now in
    let none = none_left (g.K.SetKind.mem m.set.now) m.at (g.K.SetKind.top - m.at) c.in_err-item.ensures in
    rw c.from_residual.ensures (none, none)

pub returns-clause-steps : goal.returns-clause-steps
returns-clause-steps g c =
    let m = c.args.self.now in
    next_left (g.K.SetKind.mem m.set.now) g.K.SetKind.top m.at c.in_ok-item.item (g.met.K.SetKind.below m.set.now) c.in_ok-item.ensures

pub returns-clause-goes : goal.returns-clause-goes
returns-clause-goes g c =
    let m = c.args.self.now in
    let left = ap length (next_left (g.K.SetKind.mem m.set.now) g.K.SetKind.top m.at c.in_ok-item.item (g.met.K.SetKind.below m.set.now) c.in_ok-item.ensures) in
    search rules
