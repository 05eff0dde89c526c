-- What the bytes of a bootstrap say of statistics: the configuration, or the first fault (Envoy's statistics
-- configuration reference; the order of faults is this project's own). The parts are looked at in the order of the
-- lines below, the members of a list in order, and a part's own parts in the order of its definition.
use Rattle.std.specs.Prelude.{List, ℕ, map, codes, Option, None, Some, Result, Ok, Err}
use Rattle.stat_defs.specs.declared.configs.Config.{Config}
use Rattle.stat_defs.specs.declared.configs.MatchSpec.{MatchSpec}
use Rattle.stat_defs.specs.declared.configs.BucketSpec.{BucketSpec}
use Rattle.serde_json.specs.Data.{Data, object}
use Rattle.boot_file.specs.declared.default_tags.PlacedTag.{PlacedTag}
use Rattle.boot_values.specs.declared.fault.BootFault.{BootFault}
use Rattle.boot_values.specs.declared.fault.BootFault.TheVariants.{NotJson, BadKey}
use Rattle.boot_file.specs.declared.run.Run.{Run}
use Rattle.boot_values.specs.BucketSettings.{settings_of}
use Rattle.boot_values.specs.Agrees.{and_then}
use Rattle.boot_values.specs.StatsMatcher.{matcher_of}
use Rattle.boot_file.specs.Scopes.{run_of}
use Rattle.boot_file.specs.Sinks.{prefix_of}
use Rattle.boot_file.specs.Tags.{tags_of}
use Rattle.boot_values.specs.Values.{json_of, member, section_at}

abbrev pub config_of : List PlacedTag → MatchSpec → List BucketSpec → List ℕ → Run → Config
config_of tags matcher buckets prefix run = record {
  tags = map (λ t. t.spec) tags;
  tag_paths = map (λ t. t.path) tags;
  matcher = matcher;
  buckets = buckets;
  statsd_prefix = prefix;
  scopes = run.scopes;
  flushes = run.flushes;
  flush_every = run.flush_every;
  reads = run.reads;
}

-- the whole value is an object
abbrev pub top_of : Option Data → Result Data BootFault
top_of None = Err NotJson
top_of (Some (object ms)) = Ok (object ms)
top_of (Some _) = Err (BadKey (codes "top"))

abbrev pub boot_of : Data → Result Config BootFault
boot_of top =
    and_then (section_at (codes "stats_config") (member (Some top) (codes "stats_config"))) (λ stats.
    and_then (tags_of stats) (λ tags.
    and_then (matcher_of (member stats (codes "stats_matcher"))) (λ matcher.
    and_then (settings_of (member stats (codes "histogram_bucket_settings"))) (λ buckets.
    and_then (prefix_of (member (Some top) (codes "stats_sinks"))) (λ prefix.
    and_then (run_of (member (Some top) (codes "stats_run"))) (λ run.
    Ok (config_of tags matcher buckets prefix run)))))))

abbrev pub boot : List ℕ → Result Config BootFault
boot bytes = and_then (top_of (json_of bytes)) boot_of
