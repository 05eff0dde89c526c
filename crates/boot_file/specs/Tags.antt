-- The tag rules (Envoy's reference on `TagSpecifier`; the choice of default rules and the limits are this project's
-- own). A member of `stats_tags` has a text `tag_name` of 1 to 255 printable bytes without spaces, and either a text
-- `regex` of 1 to 1,024 bytes or a text `fixed_value` of 0 to 255 printable bytes. With neither it takes the default
-- rule of its name. Whatever is wrong with member i is told as the bad tag i.
use Rattle.std.specs.Prelude.{ℕ, ◌+◌, ◌==◌, Bool, true, false, ◌&&◌, ◌++◌, nat_le, length, List, [], ◌∷◌, codes, Option}
use Rattle.std.specs.Prelude.{Some, None, Result, Ok, Err, if◌then◌else◌}
use Rattle.std.specs.List.{list_all}
use lib.Pointwise.{pointwise}
use Rattle.stat_defs.specs.declared.configs.TheConstants.{MAX_PATTERN_BYTES, MAX_TAG_RULES, MAX_TAG_VALUE_BYTES}
use Rattle.stat_defs.specs.declared.configs.Rule.TheVariants.{Regex, Fixed}
use Rattle.stat_defs.specs.declared.events.TheConstants.{MAX_NAME_BYTES}
use Rattle.stat_defs.specs.Names.{is_name_byte, is_printable_byte}
use Rattle.serde_json.specs.Data.{Items, no_items, item, Data, string}
use Rattle.boot_file.specs.declared.default_tags.DefaultTag.{DefaultTag}
use Rattle.boot_file.specs.declared.default_tags.DefaultTag.TheVariants.{ResponseCode, ResponseCodeClass, ClusterName}
use Rattle.boot_file.specs.declared.default_tags.DefaultTag.TheVariants.{ConnManagerPrefix}
use Rattle.boot_file.specs.declared.default_tags.PlacedTag.{PlacedTag}
use Rattle.boot_values.specs.declared.fault.BootFault.{BootFault}
use Rattle.boot_values.specs.declared.fault.BootFault.TheVariants.{BadTag}
use Rattle.boot_values.specs.declared.place.Place.TheVariants.{Default, Tag}
use Rattle.boot_values.specs.Agrees.{and_then}
use Rattle.boot_values.specs.Paths.{path_of}
use Rattle.boot_values.specs.Values.{member, switch_at, items_at}

-- the default tag rules

abbrev pub name_of : DefaultTag → List ℕ
name_of ResponseCode = codes "envoy.response_code"
name_of ResponseCodeClass = codes "envoy.response_code_class"
name_of ClusterName = codes "envoy.cluster_name"
name_of ConnManagerPrefix = codes "envoy.http_conn_manager_prefix"

abbrev pub regex_of : DefaultTag → List ℕ
regex_of ResponseCode = codes "_rq(_(\\d{3}))$"
regex_of ResponseCodeClass = codes "_rq_(\\d)xx$"
regex_of ClusterName = codes "^cluster\\.((.*?)\\.)"
regex_of ConnManagerPrefix = codes "^http\\.((.*?)\\.)"

abbrev pub place_of : DefaultTag → ℕ
place_of ResponseCode = 0
place_of ResponseCodeClass = 1
place_of ClusterName = 2
place_of ConnManagerPrefix = 3

-- a default rule, with the path of its pattern
abbrev pub placed : DefaultTag → PlacedTag
placed tag = record {
  spec = record { tag_name = name_of tag; rule = Regex (regex_of tag) };
  path = path_of (Default (place_of tag)) [];
}

abbrev pub called : List ℕ → Option DefaultTag
called name =
    if pointwise ◌==◌ name (name_of ResponseCode) then Some ResponseCode else
    if pointwise ◌==◌ name (name_of ResponseCodeClass) then Some ResponseCodeClass else
    if pointwise ◌==◌ name (name_of ClusterName) then Some ClusterName else
    if pointwise ◌==◌ name (name_of ConnManagerPrefix) then Some ConnManagerPrefix else None

abbrev pub defaults_where : Bool → List PlacedTag
defaults_where true = placed ResponseCode ∷ placed ResponseCodeClass ∷ placed ClusterName ∷ placed ConnManagerPrefix
    ∷ []
defaults_where false = []

-- a member of `stats_tags`

abbrev pub is_local_name : List ℕ → Bool
is_local_name text = nat_le 1 (length text) && (nat_le (length text) MAX_NAME_BYTES && list_all is_name_byte text)

abbrev pub is_regex_text : List ℕ → Bool
is_regex_text text = nat_le 1 (length text) && nat_le (length text) MAX_PATTERN_BYTES

abbrev pub is_fixed_text : List ℕ → Bool
is_fixed_text text = nat_le (length text) MAX_TAG_VALUE_BYTES && list_all is_printable_byte text

abbrev pub tag_name_at : ℕ → Option Data → Result (List ℕ) BootFault
tag_name_at i (Some (string text)) = if is_local_name text then Ok text else Err (BadTag i)
tag_name_at i _ = Err (BadTag i)

-- the default rule of a name alone
abbrev pub default_at : ℕ → Option DefaultTag → Result PlacedTag BootFault
default_at i None = Err (BadTag i)
default_at i (Some tag) = Ok (placed tag)

abbrev pub regex_at : ℕ → List ℕ → Data → Result PlacedTag BootFault
regex_at i name (string text) = if is_regex_text text
    then Ok (record { spec = record { tag_name = name; rule = Regex text }; path = path_of (Tag i) (codes ".regex") })
    else Err (BadTag i)
regex_at i name _ = Err (BadTag i)

abbrev pub fixed_at : ℕ → List ℕ → Data → Result PlacedTag BootFault
fixed_at i name (string text) = if is_fixed_text text
    then Ok (record { spec = record { tag_name = name; rule = Fixed text }; path = [] })
    else Err (BadTag i)
fixed_at i name _ = Err (BadTag i)

abbrev pub rule_at : ℕ → List ℕ → Option Data → Option Data → Result PlacedTag BootFault
rule_at i name None None = default_at i (called name)
rule_at i name (Some regex) None = regex_at i name regex
rule_at i name None (Some value) = fixed_at i name value
rule_at i name (Some regex) (Some value) = Err (BadTag i)

unfoldable pub tag_at : ℕ → Data → Result PlacedTag BootFault
tag_at i d =
    and_then (tag_name_at i (member (Some d) (codes "tag_name"))) (λ name.
    rule_at i name (member (Some d) (codes "regex")) (member (Some d) (codes "fixed_value")))

-- the members from place i on, behind those that were found
abbrev pub tags_from : ℕ → List PlacedTag → Items → Result (List PlacedTag) BootFault
tags_from i found no_items = Ok found
tags_from i found (item d ds) = and_then (tag_at i d) (λ tag. tags_from (i + 1) (found ++ tag ∷ []) ds)

-- the rules in force: the default ones, where `use_all_default_tags` is true, and then those of `stats_tags`
unfoldable pub tags_of : Option Data → Result (List PlacedTag) BootFault
tags_of section =
    and_then (switch_at (codes "stats_config.use_all_default_tags") (member section (codes "use_all_default_tags")))
    (λ all.
    and_then (items_at (codes "stats_config.stats_tags") MAX_TAG_RULES (member section (codes "stats_tags"))) (λ list.
    tags_from 0 (defaults_where all) list))
