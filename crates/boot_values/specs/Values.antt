-- The values of a bootstrap. It is a JSON text (RFC 8259) as the library `serde_json` reads it: UTF-8, nested at most
-- 127 deep; an object has each key once, with its last value. Keys that no definition names are passed over.
use Rattle.std.specs.Prelude.{ℕ, suc, ◌&&◌, nat_le, Bool, true, false, List, Option, Some, None, option_and_then}
use Rattle.std.specs.Prelude.{is_some, Result, Ok, Err, if◌then◌else◌}
use Rattle.std.specs.Str.{is_utf8}
use Rattle.serde_json.specs.Data.{Items, no_items, item, Data, null, boolean, number, array, object, unsigned, negative}
use Rattle.serde_json.specs.Read as json
use Rattle.serde_json.specs.Find.{get}
use Rattle.boot_values.specs.declared.fault.BootFault.{BootFault}
use Rattle.boot_values.specs.declared.fault.BootFault.TheVariants.{BadKey, OutOfRange}
use Rattle.boot_values.specs.declared.json.Limits.{Limits}

-- the value of the bytes, where they are one JSON text
abbrev pub json_of : List ℕ → Option Data
json_of bytes = if is_utf8 bytes then json.read bytes else None

-- a null counts as absent
abbrev pub unless_null : Data → Option Data
unless_null null = None
unless_null d = Some d

-- the member of a section, where the section is there and has it; a value that is no object has no members
abbrev pub member : Option Data → List ℕ → Option Data
member section name = option_and_then unless_null (option_and_then (get name) section)

abbrev pub has : Data → List ℕ → Bool
has d name = is_some (member (Some d) name)

-- an object; absent is empty
abbrev pub is_section : Option Data → Bool
is_section None = true
is_section (Some (object ms)) = true
is_section (Some _) = false

abbrev pub section_at : List ℕ → Option Data → Result (Option Data) BootFault
section_at path found = if is_section found then Ok found else Err (BadKey path)

-- true or false; absent is true
abbrev pub switch_at : List ℕ → Option Data → Result Bool BootFault
switch_at path None = Ok true
switch_at path (Some (boolean b)) = Ok b
switch_at path (Some _) = Err (BadKey path)

-- A whole number within limits. Whole is what the library holds as an integer: 2^64 - 1 and every number from -2^63 to
-- -1 are outside each range, while -0, 1.0 and 1e2 are no whole numbers, nor are integers beyond 64 bits.
abbrev pub whole_at : List ℕ → Limits → Option Data → Result ℕ BootFault
whole_at path limits None = Ok limits.absent
whole_at path limits (Some (number (unsigned n))) =
    if nat_le limits.least n && nat_le n limits.most then Ok n else Err (OutOfRange path)
whole_at path limits (Some (number (negative z))) = Err (OutOfRange path)
whole_at path limits (Some _) = Err (BadKey path)

abbrev pub item_count : Items → ℕ
item_count no_items = 0
item_count (item d ds) = suc (item_count ds)

-- a list, which is looked at before its members; absent is empty; a null in it keeps its place
abbrev pub items_at : List ℕ → ℕ → Option Data → Result Items BootFault
items_at path most None = Ok no_items
items_at path most (Some (array ds)) = if nat_le (item_count ds) most then Ok ds else Err (OutOfRange path)
items_at path most (Some _) = Err (BadKey path)
