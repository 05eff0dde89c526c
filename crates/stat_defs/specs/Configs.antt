-- What every configuration keeps (Envoy's statistics configuration reference; the limits are this project's own).
use Rattle.std.specs.Prelude.{◌≡◌, ◌≢◌, ◌≤◌, ◌+◌, ◌*◌, ℕ, true, List, [], ◌∷◌, length, map, All, codes}
use Rattle.std.specs.List.{list_all, AllPairs, AllZip}
use Rattle.std.specs.List.Sorted.{IsStrictlyIncreasing}
use Rattle.std.specs.Str.{IsUtf8}
use Rattle.stat_defs.specs.declared.bins.Bound.{Bound}
use Rattle.stat_defs.specs.declared.configs.Rule.{Rule}
use Rattle.stat_defs.specs.declared.configs.Rule.TheVariants as rule
use Rattle.stat_defs.specs.declared.configs.TagSpec.{TagSpec}
use Rattle.stat_defs.specs.declared.configs.Pattern.{Pattern}
use Rattle.stat_defs.specs.declared.configs.Pattern.TheVariants as pattern
use Rattle.stat_defs.specs.declared.configs.MatchSpec.{MatchSpec}
use Rattle.stat_defs.specs.declared.configs.MatchSpec.TheVariants as matcher
use Rattle.stat_defs.specs.declared.configs.BucketSpec.{BucketSpec}
use Rattle.stat_defs.specs.declared.configs.ScopeSpec.{ScopeSpec}
use Rattle.stat_defs.specs.declared.configs.Config.{Config}
use Rattle.stat_defs.specs.declared.configs.TheConstants.{MAX_TAG_RULES, MAX_PATTERNS, MAX_PATTERN_BYTES}
use Rattle.stat_defs.specs.declared.configs.TheConstants.{MAX_TAG_VALUE_BYTES, MAX_BUCKET_SETTINGS, MAX_BOUNDS}
use Rattle.stat_defs.specs.declared.configs.TheConstants.{MAX_BOUND, MAX_SCOPES, MAX_FLUSHES, MAX_FLUSH_EVERY}
use Rattle.stat_defs.specs.Names.{is_printable_byte, IsLabel, IsLocalName, IsScopePrefix}

-- the text of a pattern is UTF-8 and has at most 1,024 bytes
pub record IsPatternText (text : List ℕ) : Type 0 where
  pub utf8 : IsUtf8 text
  pub short : length text ≤ MAX_PATTERN_BYTES

abbrev pub text_of : Pattern → List ℕ
text_of (pattern.Exact text) = text
text_of (pattern.Prefix text) = text
text_of (pattern.Suffix text) = text
text_of (pattern.Contains text) = text
text_of (pattern.SafeRegex text) = text

-- a regular expression has 1 to 1,024 bytes, a fixed value at most 255 printable ones
abbrev pub IsRule : Rule → Type 0
IsRule (rule.Regex text) = IsPatternText text × (1 ≤ length text)
IsRule (rule.Fixed value) = (length value ≤ MAX_TAG_VALUE_BYTES) × (list_all is_printable_byte value ≡ true)

pub record IsTagSpec (spec : TagSpec) : Type 0 where
  pub tag_name : IsLocalName spec.tag_name
  pub rule : IsRule spec.rule

-- a rule that is a regular expression has a path in the bootstrap, and a fixed value has none
abbrev pub HasPath : Rule → List ℕ → Type 0
HasPath (rule.Regex text) path = path ≢ []
HasPath (rule.Fixed value) path = path ≡ []

pub record IsPatternList (patterns : List Pattern) : Type 0 where
  pub few : length patterns ≤ MAX_PATTERNS
  pub texts : All (λ p. IsPatternText (text_of p)) patterns

abbrev pub IsMatchSpec : MatchSpec → Type 0
IsMatchSpec matcher.AdmitAll = Unit {0}
IsMatchSpec matcher.RejectAll = Unit {0}
IsMatchSpec (matcher.Exclude patterns) = IsPatternList patterns
IsMatchSpec (matcher.Include patterns) = IsPatternList patterns

-- a bound of a bucket setting is a whole number from 1 to 1,000,000,000,000
pub record IsWholeBound (bound : Bound) : Type 0 where
  pub number : ℕ
  pub halves : bound.halves ≡ 2 * number
  pub some : 1 ≤ number
  pub most : number ≤ MAX_BOUND

-- 1 to 64 bounds, rising
pub record IsBucketSpec (spec : BucketSpec) : Type 0 where
  pub pattern : IsPatternText (text_of spec.pattern)
  pub some : 1 ≤ length spec.bounds
  pub few : length spec.bounds ≤ MAX_BOUNDS
  pub whole : All IsWholeBound spec.bounds
  pub rising : IsStrictlyIncreasing (map (λ b. b.halves) spec.bounds)

pub record IsScopeSpec (spec : ScopeSpec) : Type 0 where
  pub label : IsLabel spec.label
  pub prefix : IsScopePrefix spec.prefix

-- `root` stands first with the empty prefix, and no label stands twice
pub record AreScopes (scopes : List ScopeSpec) : Type 0 where
  pub root : (others : List ScopeSpec) × (scopes ≡ (record { label = codes "root"; prefix = [] }) ∷ others)
  pub few : length scopes ≤ MAX_SCOPES + 1
  pub each : All IsScopeSpec scopes
  pub different : AllPairs (λ one other. one.label ≢ other.label) scopes

pub record IsConfig (config : Config) : Type 0 where
  pub few_tags : length config.tags ≤ MAX_TAG_RULES + 4
  pub tags : All IsTagSpec config.tags
  pub as_many_paths : length config.tag_paths ≡ length config.tags
  pub tag_paths : AllZip (λ spec path. HasPath spec.rule path) config.tags config.tag_paths
  pub matcher : IsMatchSpec config.matcher
  pub few_buckets : length config.buckets ≤ MAX_BUCKET_SETTINGS
  pub buckets : All IsBucketSpec config.buckets
  pub statsd_prefix : IsLocalName config.statsd_prefix
  pub scopes : AreScopes config.scopes
  pub flushes : config.flushes ≤ MAX_FLUSHES
  pub flush_every : (1 ≤ config.flush_every) × (config.flush_every ≤ MAX_FLUSH_EVERY)
  pub reads : config.reads ≤ MAX_FLUSHES
