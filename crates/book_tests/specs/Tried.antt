-- A configuration with one scope and a list of patterns, which the tests try. This project's own.
use Rattle.std.specs.Prelude.{[], ◌∷◌, codes}
use Rattle.stat_defs.specs.declared.configs.Config.{Config}
use Rattle.stat_defs.specs.declared.configs.MatchSpec.{MatchSpec}
use Rattle.stat_defs.specs.declared.configs.MatchSpec.TheVariants.{Include}
use Rattle.stat_defs.specs.declared.configs.Pattern.TheVariants.{Prefix}

abbrev pub tried_config : MatchSpec → Config
tried_config matcher = record {
  tags = [];
  tag_paths = [];
  matcher = matcher;
  buckets = [];
  statsd_prefix = codes "envoy";
  scopes = record { label = codes "root"; prefix = [] } ∷ [];
  flushes = 0;
  flush_every = 1000;
  reads = 0;
}

-- the names that begin with `cluster.` alone
abbrev pub tried_list : MatchSpec
tried_list = Include (Prefix (codes "cluster.") ∷ [])
