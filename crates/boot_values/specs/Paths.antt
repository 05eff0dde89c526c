-- The paths that faults and patterns are told by. This project's own.
-- Members stand after dots and places of lists in brackets from 0, as in `stats_config.stats_tags[0].regex`; the whole
-- value is `top`. A path is that of the value whose type, shape or range is wrong. Where a member is missing, or not
-- exactly one of several is there, it is that of the object that should hold it.
use Rattle.std.specs.Prelude.{ℕ, List, ◌++◌, codes}
use Rattle.std.specs.Fmt.{decimal}
use Rattle.boot_values.specs.declared.place.Place.{Place}
use Rattle.boot_values.specs.declared.place.Place.TheVariants.{Default, Tag, Excluded, Included, Setting, Match, Sink}
use Rattle.boot_values.specs.declared.place.Place.TheVariants.{Scope}

-- member i of a list, and a part of it
abbrev pub indexed : List ℕ → ℕ → List ℕ → List ℕ
indexed list i part = list ++ (codes "[" ++ (decimal i ++ (codes "]" ++ part)))

abbrev pub path_of : Place → List ℕ → List ℕ
path_of (Default i) part = indexed (codes "default_tags") i part
path_of (Tag i) part = indexed (codes "stats_config.stats_tags") i part
path_of (Excluded i) part = indexed (codes "stats_config.stats_matcher.exclusion_list.patterns") i part
path_of (Included i) part = indexed (codes "stats_config.stats_matcher.inclusion_list.patterns") i part
path_of (Setting i) part = indexed (codes "stats_config.histogram_bucket_settings") i part
path_of (Match i) part = indexed (codes "stats_config.histogram_bucket_settings") i (codes ".match" ++ part)
path_of (Sink i) part = indexed (codes "stats_sinks") i part
path_of (Scope i) part = indexed (codes "stats_run.scopes") i part
