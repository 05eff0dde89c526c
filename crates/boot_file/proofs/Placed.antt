-- Tag rules with the paths of their patterns.
use Rattle.std.proofs.Common.{◌≡◌, ◌≤◌, ℕ, Bool, true, false, List, [], ◌∷◌, map, length, get_or, refl, arith, lit≤, IsUtf8}
use Rattle.std.specs.Prelude.{All, nat_lt}
use Rattle.std.specs.List.{AllZip, list_all}
use Rattle.std.proofs.lemmas.Bool.{ltb-true}
use Rattle.std.proofs.lemmas.List.Sums.{AllPass-from_list_all}
use Rattle.std.proofs.lemmas.List.{length-map}
use Rattle.std.proofs.lemmas.List.Elements.{All-nil, All-cons, All-head, All-tail}
use Rattle.std.proofs.lemmas.Str.{IsUtf8-from_ascii}
use Rattle.std.proofs.lemmas.Str.Ascii.{IsAscii-from_all}
use Rattle.stat_defs.specs.declared.configs.TagSpec.{TagSpec}
use Rattle.stat_defs.specs.declared.text.Txt.{Txt}
use Rattle.stat_defs.specs.Configs.{IsTagSpec, IsPatternText, HasPath}
use Rattle.stat_defs.specs.Names.{IsLocalName}
use Rattle.boot_file.specs.declared.default_tags.DefaultTag.{DefaultTag}
use Rattle.boot_file.specs.declared.default_tags.DefaultTag.TheVariants.{ResponseCode, ResponseCodeClass, ClusterName, ConnManagerPrefix}
use Rattle.boot_file.specs.declared.default_tags.PlacedTag.{PlacedTag}
use Rattle.boot_file.specs.Lawful.{IsPlacedTag}
use Rattle.boot_file.specs.Tags.{name_of, regex_of, placed, defaults_where}

lawful_name : (tag : DefaultTag) → IsLocalName (name_of tag)
lawful_name ResponseCode = record { not_empty = lit≤ tt; short = lit≤ tt; bytes = refl }
lawful_name ResponseCodeClass = record { not_empty = lit≤ tt; short = lit≤ tt; bytes = refl }
lawful_name ClusterName = record { not_empty = lit≤ tt; short = lit≤ tt; bytes = refl }
lawful_name ConnManagerPrefix = record { not_empty = lit≤ tt; short = lit≤ tt; bytes = refl }

utf8_by : (text : List ℕ) → list_all (λ b. nat_lt b 128) text ≡ true → IsUtf8 text
utf8_by text e = IsUtf8-from_ascii text (IsAscii-from_all text
    (λ k d lt. ltb-true (get_or text k d) 128 (AllPass-from_list_all (λ b. nat_lt b 128) text e k d lt)))

lawful_regex : (tag : DefaultTag) → IsPatternText (regex_of tag)
lawful_regex ResponseCode = record { utf8 = utf8_by (regex_of ResponseCode) refl; short = lit≤ tt }
lawful_regex ResponseCodeClass = record { utf8 = utf8_by (regex_of ResponseCodeClass) refl; short = lit≤ tt }
lawful_regex ClusterName = record { utf8 = utf8_by (regex_of ClusterName) refl; short = lit≤ tt }
lawful_regex ConnManagerPrefix = record { utf8 = utf8_by (regex_of ConnManagerPrefix) refl; short = lit≤ tt }

some_regex : (tag : DefaultTag) → 1 ≤ length (regex_of tag)
some_regex ResponseCode = lit≤ tt
some_regex ResponseCodeClass = lit≤ tt
some_regex ClusterName = lit≤ tt
some_regex ConnManagerPrefix = lit≤ tt

pub lawful_default : (tag : DefaultTag) → IsPlacedTag (placed tag)
lawful_default tag = record {
  lawful = record { tag_name = lawful_name tag; rule = (lawful_regex tag, some_regex tag) };
  path = λ e. cc;
}

pub specs_lawful : (tags : List PlacedTag) → All IsPlacedTag tags → All IsTagSpec (map (λ t. t.spec) tags)
specs_lawful [] h = All-nil IsTagSpec
specs_lawful (t ∷ ts) h = All-cons IsTagSpec t.spec (map (λ t. t.spec) ts)
    (All-head IsPlacedTag t ts h).lawful (specs_lawful ts (All-tail IsPlacedTag t ts h))

pub paths_there : (tags : List PlacedTag) → All IsPlacedTag tags
    → AllZip (λ spec path. HasPath spec.rule path) (map (λ t. t.spec) tags) (map (λ t. t.path) tags)
paths_there [] h = tt
paths_there (t ∷ ts) h = ((All-head IsPlacedTag t ts h).path, paths_there ts (All-tail IsPlacedTag t ts h))

pub lawful_defaults : (all : Bool) → All IsPlacedTag (defaults_where all)
lawful_defaults false = All-nil IsPlacedTag
lawful_defaults true =
    All-cons IsPlacedTag (placed ResponseCode) (placed ResponseCodeClass ∷ placed ClusterName ∷ placed ConnManagerPrefix ∷ [])
    (lawful_default ResponseCode) (
    All-cons IsPlacedTag (placed ResponseCodeClass) (placed ClusterName ∷ placed ConnManagerPrefix ∷ [])
    (lawful_default ResponseCodeClass) (
    All-cons IsPlacedTag (placed ClusterName) (placed ConnManagerPrefix ∷ []) (lawful_default ClusterName) (
    All-cons IsPlacedTag (placed ConnManagerPrefix) [] (lawful_default ConnManagerPrefix) (All-nil IsPlacedTag))))

pub few_specs : (tags : List PlacedTag) (specs : List TagSpec) (most : ℕ) → specs ≡ map (λ t. t.spec) tags
    → length tags ≤ most → length specs ≤ most
few_specs tags specs most e h =
    let n : length (map (λ t. t.spec) tags) ≡ length tags = length-map {A = PlacedTag} {B = TagSpec} tags (λ t. t.spec) in
    rw e (omega arith)

pub as_many : (tags : List PlacedTag) (specs : List TagSpec) (paths : List Txt) → specs ≡ map (λ t. t.spec) tags
    → paths ≡ map (λ t. t.path) tags → length paths ≡ length specs
as_many tags specs paths e f =
    let n : length (map (λ t. t.spec) tags) ≡ length tags = length-map {A = PlacedTag} {B = TagSpec} tags (λ t. t.spec) in
    let m : length (map (λ t. t.path) tags) ≡ length tags = length-map {A = PlacedTag} {B = Txt} tags (λ t. t.path) in
    rw (e, f) (omega arith)
