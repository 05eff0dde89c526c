use Rattle.std.proofs.Common.{rules}
use Rattle.prom_text.proofs.Buckets.{last_put}
use Rattle.prom_text.proofs.lines.put_buckets.Goals as goal

pub returns : goal.returns
returns c =
    last_put c.args.row.now c.args.count _ c.deref-2.result.now _ _ (search rules) c.in_ok-put_bounds.ensures
    c.in_ok-put_last_bucket.ensures
