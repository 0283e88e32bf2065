use Rattle.sheets.proofs.Looking.{looking_none, looking_kept, looking_over, looking_lost}
use Rattle.sheets.proofs.look.look_up.Goals as goal
use Rattle.sheets.proofs.look.look_up.Goals.{then-count-memory, else-count-memory}

pub labels-init : goal.labels-init
labels-init c = looking_none _ c.args.row.now c.args.memory.now c.requires

pub returns-in_err-item : goal.returns-in_err-item
returns-in_err-item c = rw c.from_residual-in_err-item.ensures
    (looking_lost _ c.args.row.now c.labels.memory c.labels.rest.now c.labels.count c.labels.invariant c.in_ok-label.label.now c.in_ok-label.left.now c.in_ok-label.ensures c.in_err-item.ensures)

pub labels-preserved : goal.labels-preserved
labels-preserved c = elim c.if-count-memory.branch [
  | then-count-memory w ↦ rw w.memory-is (looking_kept _ c.args.row.now c.labels.memory c.labels.rest.now c.labels.count c.labels.invariant c.in_ok-label.label.now c.in_ok-label.left.now c.in_ok-label.ensures c.in_ok-item.item c.in_ok-item.ensures w.if-count-memory.true)
  | else-count-memory w ↦ rw w.memory-is (looking_over _ c.args.row.now c.labels.memory c.labels.rest.now c.labels.count c.labels.invariant c.in_ok-label.label.now c.in_ok-label.left.now c.in_ok-label.ensures c.in_ok-item.item c.in_ok-item.ensures w.if-count-memory.false)
]
