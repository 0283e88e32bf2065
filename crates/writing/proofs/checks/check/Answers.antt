-- The counts, and then the length of the text.
use Rattle.std.proofs.Common.{sym, subst}
use Rattle.writing.specs.Writes.{Checks, not_fit, too_long, fits}
use Rattle.writing.proofs.Calling.{err_is}
use Rattle.writing.proofs.checks.check.Goals as goal

pub returns-in_err-check_counts : goal.returns-in_err-check_counts
returns-in_err-check_counts g c =
    subst (Checks c.args.paths.now.items c.args.cuts.now.items c.args.text.now c.args.labels) (sym (err_is c.from_residual.result c.from_residual.ensures.1)) (not_fit c.in_err-check_counts.field-0.0 c.in_err-check_counts.ensures)

pub returns-then-text-gt-MOST_BYTES : goal.returns-then-text-gt-MOST_BYTES
returns-then-text-gt-MOST_BYTES g c = too_long c.in_ok-check_counts.ensures c.if-text-gt-MOST_BYTES.true

pub returns : goal.returns
returns g c = fits c.in_ok-check_counts.ensures c.if-text-gt-MOST_BYTES.false
