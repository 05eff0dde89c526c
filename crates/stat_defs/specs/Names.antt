-- Labels, names, prefixes and tokens (Envoy's design note on statistics; the bytes allowed in them are this project's
-- own).
use Rattle.std.specs.Prelude.{◌≡◌, ◌≤◌, ◌-◌, ℕ, Bool, true, if◌then◌else◌, ◌||◌, ◌&&◌, ◌==◌, nat_le, List, [], ◌∷◌}
use Rattle.std.specs.Prelude.{◌++◌, length, take}
use Rattle.std.specs.List.{list_all, slice_split, ends_with}
use Rattle.stat_defs.specs.declared.events.TheConstants.{MAX_LABEL_BYTES, MAX_NAME_BYTES}

-- a letter, a digit or a low line
abbrev pub is_label_byte : ℕ → Bool
is_label_byte b = (nat_le 48 b && nat_le b 57) || (nat_le 65 b && nat_le b 90) || (nat_le 97 b && nat_le b 122)
    || b == 95

-- printable, and no space
abbrev pub is_name_byte : ℕ → Bool
is_name_byte b = nat_le 33 b && nat_le b 126

-- a space or another printable byte
abbrev pub is_printable_byte : ℕ → Bool
is_printable_byte b = nat_le 32 b && nat_le b 126

-- a scope's label has 1 to 32 letters, digits and low lines
pub record IsLabel (label : List ℕ) : Type 0 where
  pub not_empty : 1 ≤ length label
  pub short : length label ≤ MAX_LABEL_BYTES
  pub bytes : list_all is_label_byte label ≡ true

-- a metric's name in its scope has 1 to 255 printable bytes without spaces; so have a tag's name and the prefix of
-- StatsD lines
pub record IsLocalName (name : List ℕ) : Type 0 where
  pub not_empty : 1 ≤ length name
  pub short : length name ≤ MAX_NAME_BYTES
  pub bytes : list_all is_name_byte name ≡ true

-- a scope's prefix has at most 255 of these bytes
pub record IsScopePrefix (prefix : List ℕ) : Type 0 where
  pub short : length prefix ≤ MAX_NAME_BYTES
  pub bytes : list_all is_name_byte prefix ≡ true

-- a metric's full name has 1 to 511 of these bytes
pub record IsFullName (name : List ℕ) : Type 0 where
  pub not_empty : 1 ≤ length name
  pub short : length name ≤ 511
  pub bytes : list_all is_name_byte name ≡ true

-- without one final dot
abbrev pub without_dot : List ℕ → List ℕ
without_dot text = if ends_with ◌==◌ text (46 ∷ []) then take (length text - 1) text else text

-- the full name: prefix, dot, name; the name alone where the prefix is empty
abbrev pub full : List ℕ → List ℕ → List ℕ
full [] name = name
full (b ∷ bs) name = (b ∷ bs) ++ 46 ∷ name

-- a full name is cut at every dot; a token may be empty
abbrev pub tokens : List ℕ → List (List ℕ)
tokens name = slice_split (λ b. b == 46) name
