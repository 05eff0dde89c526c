-- Which names are admitted (Envoy's reference on `StatsMatcher`; the limit is this project's own): an object with
-- exactly one of `reject_all`, `exclusion_list` and `inclusion_list`. A list is an object whose `patterns` has 0 to 32
-- patterns, and none where it is absent. Where `stats_matcher` is absent all names are admitted.
use Rattle.std.specs.Prelude.{ℕ, ◌+◌, ◌++◌, Bool, true, false, List, [], ◌∷◌, codes, Option, Some, None, Result, Ok}
use Rattle.std.specs.Prelude.{Err}
use Rattle.stat_defs.specs.declared.configs.TheConstants.{MAX_PATTERNS}
use Rattle.stat_defs.specs.declared.configs.Pattern.{Pattern}
use Rattle.stat_defs.specs.declared.configs.MatchSpec.{MatchSpec}
use Rattle.stat_defs.specs.declared.configs.MatchSpec.TheVariants as matcher
use Rattle.serde_json.specs.Data.{Items, no_items, item, Data, boolean}
use Rattle.boot_values.specs.declared.fault.BootFault.{BootFault}
use Rattle.boot_values.specs.declared.fault.BootFault.TheVariants.{BadKey}
use Rattle.boot_values.specs.declared.matcher.Choice.{Choice}
use Rattle.boot_values.specs.declared.matcher.Choice.TheVariants.{RejectAll, Listed}
use Rattle.boot_values.specs.declared.matcher.Side.{Side}
use Rattle.boot_values.specs.declared.matcher.Side.TheVariants.{Exclusion, Inclusion}
use Rattle.boot_values.specs.declared.place.Place.{Place}
use Rattle.boot_values.specs.declared.place.Place.TheVariants.{Excluded, Included}
use Rattle.boot_values.specs.Agrees.{and_then}
use Rattle.boot_values.specs.Patterns.{pattern_at}
use Rattle.boot_values.specs.Values.{member, has, section_at, items_at}

-- which of three members is there alone
abbrev pub choice_of : Bool → Bool → Bool → Option Choice
choice_of true false false = Some RejectAll
choice_of false true false = Some (Listed Exclusion)
choice_of false false true = Some (Listed Inclusion)
choice_of _ _ _ = None

-- true rejects all, false admits all
abbrev pub reject_at : Option Data → Result MatchSpec BootFault
reject_at (Some (boolean true)) = Ok matcher.RejectAll
reject_at (Some (boolean false)) = Ok matcher.AdmitAll
reject_at _ = Err (BadKey (codes "stats_config.stats_matcher.reject_all"))

abbrev pub name_of : Side → List ℕ
name_of Exclusion = codes "exclusion_list"
name_of Inclusion = codes "inclusion_list"

abbrev pub path_of_side : Side → List ℕ
path_of_side Exclusion = codes "stats_config.stats_matcher.exclusion_list"
path_of_side Inclusion = codes "stats_config.stats_matcher.inclusion_list"

abbrev pub path_of_patterns : Side → List ℕ
path_of_patterns Exclusion = codes "stats_config.stats_matcher.exclusion_list.patterns"
path_of_patterns Inclusion = codes "stats_config.stats_matcher.inclusion_list.patterns"

abbrev pub place_in : Side → ℕ → Place
place_in Exclusion i = Excluded i
place_in Inclusion i = Included i

abbrev pub spec_of : Side → List Pattern → MatchSpec
spec_of Exclusion patterns = matcher.Exclude patterns
spec_of Inclusion patterns = matcher.Include patterns

-- the members from place i on, behind those that were found
abbrev pub patterns_from : Side → ℕ → List Pattern → Items → Result (List Pattern) BootFault
patterns_from side i found no_items = Ok found
patterns_from side i found (item d ds) =
    and_then (pattern_at (place_in side i) d) (λ p. patterns_from side (i + 1) (found ++ p ∷ []) ds)

unfoldable pub list_at : Side → Option Data → Result MatchSpec BootFault
list_at side found =
    and_then (section_at (path_of_side side) found) (λ section.
    and_then (items_at (path_of_patterns side) MAX_PATTERNS (member section (codes "patterns"))) (λ list.
    and_then (patterns_from side 0 [] list) (λ patterns.
    Ok (spec_of side patterns))))

abbrev pub chosen_at : Data → Option Choice → Result MatchSpec BootFault
chosen_at d None = Err (BadKey (codes "stats_config.stats_matcher"))
chosen_at d (Some RejectAll) = reject_at (member (Some d) (codes "reject_all"))
chosen_at d (Some (Listed side)) = list_at side (member (Some d) (name_of side))

unfoldable pub matcher_of : Option Data → Result MatchSpec BootFault
matcher_of None = Ok matcher.AdmitAll
matcher_of (Some d) = chosen_at d
    (choice_of (has d (codes "reject_all")) (has d (codes "exclusion_list")) (has d (codes "inclusion_list")))
