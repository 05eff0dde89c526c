-- What a histogram without values shows.
use Rattle.std.proofs.Common.{◌≡◌, ◌==◌, if◌then◌else◌, List, ◌∷◌, ap, codes}
use Rattle.std.specs.List.{join_by}
use Rattle.stat_defs.specs.declared.bins.BinCount.{BinCount}
use Rattle.loglinear_bins.specs.Counts.{total}
use Rattle.admin_read.specs.Admin.{quantile_part, quantiles, quantiles_text}

pub text_of_none : (interval cumulative : List BinCount) → total cumulative ≡ 0
    → 32 ∷ quantiles_text interval cumulative ≡ codes " No recorded values"
text_of_none interval cumulative h =
    ap (λ n. 32 ∷ (if n == 0 then codes "No recorded values" else join_by (quantile_part interval cumulative) (codes " ") quantiles)) h
