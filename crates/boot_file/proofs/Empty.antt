-- The bootstrap `{}` has no fault.
use Rattle.std.proofs.Common.{◌≡◌, [], ◌∷◌, true, Some, Ok, refl, ap, rules}
use Rattle.std.specs.Prelude.{codes}
use Rattle.std.proofs.lemmas.Str.{IsUtf8-from_ascii, is_utf8-from_IsUtf8}
use Rattle.std.proofs.lemmas.Str.Ascii.{IsAscii-from_all}
use Rattle.stat_defs.specs.declared.configs.Config.{Config}
use Rattle.stat_defs.specs.declared.configs.MatchSpec.TheVariants as matcher
use Rattle.serde_json.specs.Data.{object, no_members}
use Rattle.serde_json.specs.Read.{read}
use Rattle.serde_json.proofs.OnLiterals.{serde_json_on_literals}
use Rattle.boot_file.specs.Boot.{boot, boot_of, config_of, top_of}
use Rattle.boot_values.specs.Agrees.{and_then}
use Rattle.boot_values.specs.BucketSettings.{settings_of}
use Rattle.boot_values.specs.StatsMatcher.{matcher_of}
use Rattle.boot_file.specs.Scopes.{root, scopes_of, run_of}
use Rattle.boot_file.specs.Sinks.{prefix_of}
use Rattle.boot_file.specs.Tags.{defaults_where, tags_of}
use Rattle.boot_values.specs.Values.{json_of}

read_empty : read (codes "{}") ≡ Some (object no_members)
unfolding serde_json_on_literals
read_empty = refl

json_empty : json_of (codes "{}") ≡ Some (object no_members)
json_empty = rw (is_utf8-from_IsUtf8 (codes "{}") (IsUtf8-from_ascii (codes "{}") (IsAscii-from_all (codes "{}") (search rules)))) read_empty

abbrev pub usual_config : Config
usual_config = config_of (defaults_where true) matcher.AdmitAll [] (codes "envoy")
    (record { scopes = root ∷ []; flushes = 0; reads = 0; flush_every = 1000 })

pub usual_boots : boot (codes "{}") ≡ Ok usual_config
unfolding tags_of matcher_of settings_of prefix_of scopes_of run_of
usual_boots = ap (λ o. and_then (top_of o) boot_of) json_empty
