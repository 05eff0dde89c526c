-- Facts about the value of a text, and about its lists.
use Rattle.std.proofs.Common.{◌≡◌, ℕ, suc, Bool, true, false, cond, List, [], ◌∷◌, length, Option, Some, None, option_and_then, refl, ap, IsUtf8}
use Rattle.std.proofs.lemmas.Str.{is_utf8-from_IsUtf8, IsUtf8-from_is_utf8}
use Rattle.std.specs.Str.{is_utf8}
use Rattle.serde_json.specs.Data.{Data, null, boolean, number, string, array, object, unsigned, negative, float}
use Rattle.serde_json.specs.Find.{as_number, as_u64}
use Rattle.serde_json.specs.Read.{read}
use Rattle.serde_json.specs.View.{items_of, items_view}
use Rattle.serde_json.specs.declared.value.Value.{Value}
use Rattle.boot_values.specs.BucketSettings.{natural_of}
use Rattle.boot_values.specs.Values.{item_count, json_of}

count_of : (ds : List Data) → item_count (items_of ds) ≡ length ds
count_of [] = refl
count_of (d ∷ ds) = ap suc (count_of ds)

pub item_count_of_view : (vs : List Value) → item_count (items_view vs) ≡ length vs
item_count_of_view [] = refl
item_count_of_view (v ∷ vs) = ap suc (item_count_of_view vs)

pub json_of-read : (bytes : List ℕ) (d : Data) → IsUtf8 bytes → read bytes ≡ Some d → json_of bytes ≡ Some d
json_of-read bytes d text e = rw (is_utf8-from_IsUtf8 bytes text) e

by_test : (b : Bool) (o : Option Data) → (b ≡ true → o ≡ None) → cond b o None ≡ None
by_test true o h = h refl
by_test false o h = refl

pub json_of-none : (bytes : List ℕ) → (IsUtf8 bytes → read bytes ≡ None) → json_of bytes ≡ None
json_of-none bytes h = by_test (is_utf8 bytes) (read bytes) (λ e. h (IsUtf8-from_is_utf8 bytes e))

pub natural_of_number : (d : Data) → option_and_then as_u64 (as_number d) ≡ natural_of d
natural_of_number null = refl
natural_of_number (boolean b) = refl
natural_of_number (number (unsigned n)) = refl
natural_of_number (number (negative z)) = refl
natural_of_number (number (float x)) = refl
natural_of_number (string s) = refl
natural_of_number (array ds) = refl
natural_of_number (object ms) = refl
