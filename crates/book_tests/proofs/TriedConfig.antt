-- What the tests try is lawful.
use Rattle.std.proofs.Common.{◌≡◌, ◌<◌, ◌≤◌, ℕ, List, [], ◌∷◌, length, refl, arith, lit≤, codes, All, rules}
use Rattle.std.proofs.lemmas.List.Elements.{All-nil, All-cons}
use Rattle.std.proofs.lemmas.Str.{IsUtf8-from_ascii}
use Rattle.std.proofs.lemmas.Str.Ascii.{IsAscii-from_all}
use Rattle.stat_defs.specs.declared.configs.Pattern.{Pattern}
use Rattle.stat_defs.specs.declared.configs.Pattern.TheVariants.{Prefix}
use Rattle.stat_defs.specs.declared.configs.MatchSpec.{MatchSpec}
use Rattle.stat_defs.specs.declared.configs.ScopeSpec.{ScopeSpec}
use Rattle.stat_defs.specs.Configs.{IsConfig, IsMatchSpec, IsTagSpec, IsBucketSpec, IsScopeSpec}
use Rattle.stat_defs.specs.Configs.{IsPatternText, text_of}
use Rattle.book_tests.specs.Tried.{tried_config, tried_list}

abbrev root : ScopeSpec
root = record { label = codes "root"; prefix = [] }

pub lawful_config : (matcher : MatchSpec) → IsMatchSpec matcher → IsConfig (tried_config matcher)
lawful_config matcher lawful = record {
  few_tags = lit≤ tt;
  tags = All-nil IsTagSpec;
  as_many_paths = refl;
  tag_paths = tt;
  matcher = lawful;
  few_buckets = lit≤ tt;
  buckets = All-nil IsBucketSpec;
  statsd_prefix = record { not_empty = lit≤ tt; short = lit≤ tt; bytes = refl };
  scopes = record {
    root = ([], refl);
    few = lit≤ tt;
    each = All-cons IsScopeSpec root [] (record {
      label = record { not_empty = lit≤ tt; short = lit≤ tt; bytes = refl };
      prefix = record { short = lit≤ tt; bytes = refl };
    }) (All-nil IsScopeSpec);
    different = λ i j d lt within. absurd (omega (arith, lt, within));
  };
  flushes = lit≤ tt;
  flush_every = (lit≤ tt, lit≤ tt);
  reads = lit≤ tt;
}

abbrev clusters : Pattern
clusters = Prefix (codes "cluster.")

pub lawful_list : IsMatchSpec tried_list
lawful_list = record {
  few = lit≤ tt;
  texts = All-cons (λ p. IsPatternText (text_of p)) clusters [] (record {
    utf8 = IsUtf8-from_ascii (codes "cluster.") (IsAscii-from_all (codes "cluster.") (search rules));
    short = lit≤ tt;
  }) (All-nil (λ p. IsPatternText (text_of p)));
}
