-- The names and labels of Prometheus's text format: what stands for a byte that is not allowed, and how a label's value
-- is escaped (the Prometheus exposition format; the prefix, the byte that stands for others, and the order of labels
-- are this project's own).
use Rattle.std.specs.Prelude.{ℕ, Bool, false, not, ◌==◌, ◌&&◌, ◌||◌, nat_le, if◌then◌else◌, List, [], ◌∷◌, ◌++◌, map}
use Rattle.std.specs.Prelude.{codes}
use Rattle.std.specs.List.{flat_map, join_by}
use Rattle.stat_defs.specs.Names.{is_label_byte}
use Rattle.stat_defs.specs.declared.metrics.Tag.{Tag}

-- a letter, a digit and `_` stand as they are, and `_` stands for every other byte
abbrev pub printed_byte : ℕ → ℕ
printed_byte b = if is_label_byte b then b else 95

-- the name of a metric: `envoy_`, and the name that is left when its tags were taken out
abbrev pub printed_name : List ℕ → List ℕ
printed_name extracted = codes "envoy_" ++ map printed_byte extracted

abbrev pub begins_with_digit : List ℕ → Bool
begins_with_digit [] = false
begins_with_digit (b ∷ bs) = nat_le 48 b && nat_le b 57

-- the name of a label does not begin with a digit
abbrev pub label_name : List ℕ → List ℕ
label_name name = if begins_with_digit name then 95 ∷ map printed_byte name else map printed_byte name

-- a backslash, a quotation mark and a newline are written `\\`, `\"` and `\n`
abbrev pub escaped_byte : ℕ → List ℕ
escaped_byte b =
    if b == 92 then 92 ∷ 92 ∷ []
    else if b == 34 then 92 ∷ 34 ∷ []
    else if b == 10 then 92 ∷ 110 ∷ []
    else b ∷ []

abbrev pub escaped : List ℕ → List ℕ
escaped value = flat_map escaped_byte value

-- a byte that is written as it is
abbrev pub is_plain_byte : ℕ → Bool
is_plain_byte b = not (b == 92 || (b == 34 || b == 10))

-- `name="value"`
abbrev pub label : Tag → List ℕ
label tag = label_name tag.name ++ (codes "=\"" ++ (escaped tag.value ++ codes "\""))

-- `le="BOUND"`
abbrev pub bound_label : List ℕ → List ℕ
bound_label bound = codes "le=\"" ++ (bound ++ codes "\"")

-- labels in braces, parted by commas
abbrev pub braced : List (List ℕ) → List ℕ
braced labels = 123 ∷ (join_by (λ text. text) (codes ",") labels ++ 125 ∷ [])
