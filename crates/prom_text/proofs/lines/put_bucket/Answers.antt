use Rattle.std.proofs.Common.{◌++◌, ◌∙◌, ap}
use Rattle.text_parts.specs.Decimals.{halves}
use Rattle.loglinear_bins.specs.Counts.{count_at_most}
use Rattle.prom_text.specs.Rows.{bucket_end}
use Rattle.prom_text.proofs.Buckets.{bucket_put}
use Rattle.prom_text.proofs.lines.put_bucket.Goals as goal

pub returns : goal.returns
returns c =
    bucket_put c.args.row.now.tagged (halves c.args.bound.halves) (count_at_most c.args.row.now.cumulative c.args.bound.halves) _ _ _ _
    (c.in_ok-extend_from_slice.ensures.items ∙ ap (λ l. c.args.text.now.items ++ l) c.requires.begin)
    c.in_ok-put_halves.ensures.appended
    (rw (c.values_up_to.ensures, c.items.ensures) at c.in_ok-end_bucket.ensures)
