-- The patterns of a configuration, in the order in which they are built (Envoy's statistics configuration reference;
-- the order
-- and the paths are this project's own).
use Rattle.std.specs.Prelude.{ℕ, List, [], ◌∷◌, ◌++◌, codes, length, map}
use Rattle.std.specs.List.{range_with_len}
use Rattle.stat_defs.specs.declared.configs.TagSpec.{TagSpec}
use Rattle.stat_defs.specs.declared.configs.MatchSpec.{MatchSpec}
use Rattle.stat_defs.specs.declared.configs.MatchSpec.TheVariants as matcher
use Rattle.stat_defs.specs.declared.configs.BucketSpec.{BucketSpec}
use Rattle.stat_defs.specs.declared.configs.Config.{Config}
use Rattle.boot_values.specs.Paths.{indexed}
use Rattle.tag_rules.specs.Admission.{patterns_of}
use Rattle.tag_rules.specs.Building.{rule_texts, pattern_texts, setting_texts}

-- a text that is made a pattern, and the path in the bootstrap that it is told by
pub record Asked : Type 0 where
  pub path : List ℕ
  pub text : List ℕ

abbrev pub told_by : List ℕ → List (List ℕ) → List Asked
told_by path texts = map (λ text. record { path = path; text = text }) texts

-- the texts alone
abbrev pub texts_of : List Asked → List (List ℕ)
texts_of all = map (λ (one : Asked). one.text) all

-- the texts that members ask for, each with the path of its member
abbrev pub asked_by : {A : Type 0} → (A → List (List ℕ)) → List (List ℕ) → List A → List Asked
asked_by texts [] members = []
asked_by texts (path ∷ paths) [] = []
asked_by texts (path ∷ paths) (member ∷ members) = told_by path (texts member) ++ asked_by texts paths members

-- the paths of a part of each of so many members of a list
abbrev pub paths_in : List ℕ → ℕ → List ℕ → List (List ℕ)
paths_in list count part = map (λ i. indexed list i part) (range_with_len 0 count)

abbrev pub matcher_paths : MatchSpec → List (List ℕ)
matcher_paths matcher.AdmitAll = []
matcher_paths matcher.RejectAll = []
matcher_paths (matcher.Exclude patterns) =
    paths_in (codes "stats_config.stats_matcher.exclusion_list.patterns") (length patterns) (codes ".safe_regex.regex")
matcher_paths (matcher.Include patterns) =
    paths_in (codes "stats_config.stats_matcher.inclusion_list.patterns") (length patterns) (codes ".safe_regex.regex")

abbrev pub setting_paths : List BucketSpec → List (List ℕ)
setting_paths settings =
    paths_in (codes "stats_config.histogram_bucket_settings") (length settings) (codes ".match.safe_regex.regex")

abbrev pub of_tags : List (List ℕ) → List TagSpec → List Asked
of_tags paths specs = asked_by rule_texts paths specs

abbrev pub of_matcher : MatchSpec → List Asked
of_matcher spec = asked_by pattern_texts (matcher_paths spec) (patterns_of spec)

abbrev pub of_buckets : List BucketSpec → List Asked
of_buckets settings = asked_by setting_texts (setting_paths settings) settings

-- the patterns that a store of statistics keeps for good: those of its tag rules and of its matcher
abbrev pub of_store : Config → List Asked
of_store config = of_tags config.tag_paths config.tags ++ of_matcher config.matcher

-- those of the flushes' views: of the bucket settings, and of the tag rules once more
abbrev pub of_views : Config → List Asked
of_views config = of_buckets config.buckets ++ of_tags config.tag_paths config.tags

abbrev pub asked : Config → List Asked
asked config = of_store config ++ of_views config
