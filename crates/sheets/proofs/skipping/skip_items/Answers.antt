use Rattle.std.proofs.Common.{codes, arith}
use Rattle.sheets.proofs.Leading.{begins, not_begins, skipping_more, skipped_stop, skipped_last}
use Rattle.sheets.proofs.skipping.skip_items.Goals as goal

pub returns-in_default : goal.returns-in_default
returns-in_default c =
    let b = begins c.args.text.now (codes "ITEM") c.items.at c.starts_with.result c.starts_with.ensures.value c.items-test.true in
    skipped_last c.args.text.now c.items.at c.items.nth c.items.invariant b c.in_default.ensures.1

pub items-preserved : goal.items-preserved
items-preserved c =
    let b = begins c.args.text.now (codes "ITEM") c.items.at c.starts_with.result c.starts_with.ensures.value c.items-test.true in
    skipping_more c.args.text.now c.items.at c.items.nth c.items.invariant c.in-Ok.line.now _ (omega arith) b c.in-Ok.ensures

pub returns : goal.returns
returns c =
    let b = not_begins c.args.text.now (codes "ITEM") c.items.at c.starts_with.result c.starts_with.ensures.value c.items-test.false in
    skipped_stop c.args.text.now c.items.at c.items.nth c.items.invariant b
