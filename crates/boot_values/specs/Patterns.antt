-- A pattern over names (Envoy's reference on `StringMatcher`; the limit is this project's own): an object with exactly
-- one of the texts `exact`, `prefix`, `suffix` and `contains` and the object `safe_regex`, which has a text `regex`.
-- Its text has at most 1,024 bytes. `ignore_case` may stand beside it and must be false. It is looked at in this order:
-- the choice of its member, the object of `safe_regex`, the text, `ignore_case`.
use Rattle.std.specs.Prelude.{ℕ, nat_le, length, Bool, true, false, List, [], codes, Option, Some, None, Result, Ok}
use Rattle.std.specs.Prelude.{Err, if◌then◌else◌}
use Rattle.stat_defs.specs.declared.configs.TheConstants.{MAX_PATTERN_BYTES}
use Rattle.stat_defs.specs.declared.configs.Pattern.{Pattern}
use Rattle.stat_defs.specs.declared.configs.Pattern.TheVariants as pattern
use Rattle.serde_json.specs.Data.{Data, boolean, string}
use Rattle.boot_values.specs.declared.fault.BootFault.{BootFault}
use Rattle.boot_values.specs.declared.fault.BootFault.TheVariants.{BadKey, OutOfRange}
use Rattle.boot_values.specs.declared.patterns.Shape.{Shape}
use Rattle.boot_values.specs.declared.patterns.Shape.TheVariants.{Exact, Prefix, Suffix, Contains, SafeRegex}
use Rattle.boot_values.specs.declared.place.Place.{Place}
use Rattle.boot_values.specs.Agrees.{and_then}
use Rattle.boot_values.specs.Paths.{path_of}
use Rattle.boot_values.specs.Values.{member, has}

-- which of five members is there alone
abbrev pub only_of : Bool → Bool → Bool → Bool → Bool → Option Shape
only_of true false false false false = Some Exact
only_of false true false false false = Some Prefix
only_of false false true false false = Some Suffix
only_of false false false true false = Some Contains
only_of false false false false true = Some SafeRegex
only_of _ _ _ _ _ = None

unfoldable pub shape_of : Data → Option Shape
shape_of d = only_of (has d (codes "exact")) (has d (codes "prefix")) (has d (codes "suffix"))
    (has d (codes "contains")) (has d (codes "safe_regex"))

abbrev pub text_at : Place → List ℕ → Option Data → Result (List ℕ) BootFault
text_at place part (Some (string text)) =
    if nat_le (length text) MAX_PATTERN_BYTES then Ok text else Err (OutOfRange (path_of place part))
text_at place part _ = Err (BadKey (path_of place part))

-- the text of a `safe_regex`, which holds the path where it is no object or lacks its `regex`
abbrev pub regex_text_at : Place → Option Data → Result (List ℕ) BootFault
regex_text_at place None = Err (BadKey (path_of place (codes ".safe_regex")))
regex_text_at place (Some regex) = text_at place (codes ".safe_regex.regex") (Some regex)

unfoldable pub shaped_at : Place → Data → Shape → Result Pattern BootFault
shaped_at place d Exact = and_then (text_at place (codes ".exact") (member (Some d) (codes "exact")))
    (λ t. Ok (pattern.Exact t))
shaped_at place d Prefix = and_then (text_at place (codes ".prefix") (member (Some d) (codes "prefix")))
    (λ t. Ok (pattern.Prefix t))
shaped_at place d Suffix = and_then (text_at place (codes ".suffix") (member (Some d) (codes "suffix")))
    (λ t. Ok (pattern.Suffix t))
shaped_at place d Contains = and_then (text_at place (codes ".contains") (member (Some d) (codes "contains")))
    (λ t. Ok (pattern.Contains t))
shaped_at place d SafeRegex =
    and_then (regex_text_at place (member (member (Some d) (codes "safe_regex")) (codes "regex")))
    (λ t. Ok (pattern.SafeRegex t))

abbrev pub is_case_kept : Option Data → Bool
is_case_kept None = true
is_case_kept (Some (boolean false)) = true
is_case_kept (Some _) = false

abbrev pub chosen_at : Place → Data → Option Shape → Result Pattern BootFault
chosen_at place d None = Err (BadKey (path_of place []))
chosen_at place d (Some shape) = and_then (shaped_at place d shape) (λ p.
    if is_case_kept (member (Some d) (codes "ignore_case")) then Ok p
    else Err (BadKey (path_of place (codes ".ignore_case"))))

unfoldable pub pattern_at : Place → Data → Result Pattern BootFault
pattern_at place d = chosen_at place d (shape_of d)
