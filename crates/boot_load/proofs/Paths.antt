-- Paths of the members of a list.
use Rattle.std.proofs.Common.{ℕ, ◌≡◌, ◌+◌, List, [], ◌∷◌, ◌++◌, length, codes, refl, arith}
use Rattle.std.proofs.lemmas.List.FromFn.{map-range_with_len_more, length-map-range_with_len}
use Rattle.stat_defs.specs.declared.configs.MatchSpec.{MatchSpec}
use Rattle.stat_defs.specs.declared.configs.MatchSpec.TheVariants as matcher
use Rattle.boot_values.specs.Paths.{indexed}
use Rattle.tag_rules.specs.Admission.{patterns_of}
use Rattle.boot_load.specs.Asked.{paths_in, matcher_paths}

pub paths_more : (list : List ℕ) (count : ℕ) (part : List ℕ) → paths_in list (count + 1) part ≡ paths_in list count part ++ indexed list count part ∷ []
paths_more list count part = map-range_with_len_more (λ i. indexed list i part) 0 count count (omega arith)

pub as_many_paths : (list : List ℕ) (count : ℕ) (part : List ℕ) → length (paths_in list count part) ≡ count
as_many_paths list count part = length-map-range_with_len (λ i. indexed list i part) 0 count

pub as_many_patterns : (spec : MatchSpec) → length (matcher_paths spec) ≡ length (patterns_of spec)
as_many_patterns matcher.AdmitAll = refl
as_many_patterns matcher.RejectAll = refl
as_many_patterns (matcher.Exclude patterns) = as_many_paths (codes "stats_config.stats_matcher.exclusion_list.patterns") (length patterns) (codes ".safe_regex.regex")
as_many_patterns (matcher.Include patterns) = as_many_paths (codes "stats_config.stats_matcher.inclusion_list.patterns") (length patterns) (codes ".safe_regex.regex")
