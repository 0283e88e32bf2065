use Rattle.std.proofs.Common.{[], refl}
use Rattle.sheets.specs.Items.{too_long, read}
use Rattle.sheets.proofs.items.read_items.Goals as goal

pub returns-then-text-gt-MOST_BYTES : goal.returns-then-text-gt-MOST_BYTES
returns-then-text-gt-MOST_BYTES c = record { labels = []; reads = too_long c.if-text-gt-MOST_BYTES.true; filled = refl; names = tt }

pub returns : goal.returns
returns c =
    let i = c.all_items.ensures in
    record { labels = i.0; reads = read _ i.0 c.if-text-gt-MOST_BYTES.false i.1; filled = i.2; names = i.3 }
