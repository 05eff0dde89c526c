-- The bounds of histograms (Envoy's reference on `HistogramBucketSettings`; the limits are this project's own): at most
-- 16 objects with the pattern `match` and the list `buckets` of 1 to 64 whole numbers from 1 to 1,000,000,000,000, all
-- different, in any order. Whatever is wrong with `buckets` is told with its path. A bound is kept as twice its number,
-- and the bounds of a setting stand rising.
use Rattle.std.specs.Prelude.{ℕ, ◌+◌, ◌*◌, ◌==◌, ◌&&◌, ◌++◌, not, nat_le, nat_lt, List, [], ◌∷◌, codes, Option, Some}
use Rattle.std.specs.Prelude.{None, Result, Ok, Err, if◌then◌else◌}
use Rattle.std.specs.List.{list_any, count_by, insert}
use Rattle.stat_defs.specs.declared.bins.Bound.{Bound}
use Rattle.stat_defs.specs.declared.configs.TheConstants.{MAX_BOUND, MAX_BOUNDS, MAX_BUCKET_SETTINGS}
use Rattle.stat_defs.specs.declared.configs.BucketSpec.{BucketSpec}
use Rattle.stat_defs.specs.declared.configs.Pattern.{Pattern}
use Rattle.serde_json.specs.Data.{Items, no_items, item, Data, number, array, unsigned}
use Rattle.boot_values.specs.declared.fault.BootFault.{BootFault}
use Rattle.boot_values.specs.declared.fault.BootFault.TheVariants.{BadKey, BadBucket}
use Rattle.boot_values.specs.declared.place.Place.TheVariants.{Setting, Match}
use Rattle.boot_values.specs.Agrees.{and_then}
use Rattle.boot_values.specs.Paths.{path_of}
use Rattle.boot_values.specs.Patterns.{pattern_at}
use Rattle.boot_values.specs.Values.{member, items_at, item_count}

abbrev pub bad_bucket : ℕ → BootFault
bad_bucket i = BadBucket (path_of (Setting i) (codes ".buckets"))

-- a whole number that is not negative
abbrev pub natural_of : Data → Option ℕ
natural_of (number (unsigned n)) = Some n
natural_of _ = None

-- a bound that no earlier one equals
abbrev pub bound_of : ℕ → List Bound → Option ℕ → Result Bound BootFault
bound_of i found None = Err (bad_bucket i)
bound_of i found (Some n) = if nat_le 1 n && (nat_le n MAX_BOUND && not (list_any (λ b. b.halves == 2 * n) found))
    then Ok (record { halves = 2 * n }) else Err (bad_bucket i)

-- a bound among others goes behind those that are below it
abbrev pub with_bound : List Bound → Bound → List Bound
with_bound found bound = insert found (count_by (λ b. nat_lt b.halves bound.halves) found) bound

abbrev pub bounds_from : ℕ → List Bound → Items → Result (List Bound) BootFault
bounds_from i found no_items = Ok found
bounds_from i found (item d ds) = and_then (bound_of i found (natural_of d))
    (λ bound. bounds_from i (with_bound found bound) ds)

unfoldable pub bounds_of : ℕ → Option Data → Result (List Bound) BootFault
bounds_of i (Some (array ds)) = if nat_le 1 (item_count ds) && nat_le (item_count ds) MAX_BOUNDS
    then bounds_from i [] ds else Err (bad_bucket i)
bounds_of i _ = Err (bad_bucket i)

abbrev pub match_at : ℕ → Option Data → Result Pattern BootFault
match_at i None = Err (BadKey (path_of (Setting i) []))
match_at i (Some d) = pattern_at (Match i) d

unfoldable pub setting_at : ℕ → Data → Result BucketSpec BootFault
setting_at i d =
    and_then (match_at i (member (Some d) (codes "match"))) (λ pattern.
    and_then (bounds_of i (member (Some d) (codes "buckets"))) (λ bounds.
    Ok (record { pattern = pattern; bounds = bounds })))

-- the members from place i on, behind those that were found
abbrev pub settings_from : ℕ → List BucketSpec → Items → Result (List BucketSpec) BootFault
settings_from i found no_items = Ok found
settings_from i found (item d ds) = and_then (setting_at i d) (λ s. settings_from (i + 1) (found ++ s ∷ []) ds)

unfoldable pub settings_of : Option Data → Result (List BucketSpec) BootFault
settings_of found =
    and_then (items_at (codes "stats_config.histogram_bucket_settings") MAX_BUCKET_SETTINGS found) (settings_from 0 [])
