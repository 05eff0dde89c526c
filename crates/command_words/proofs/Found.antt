-- What is read of the matches that were found.
use Rattle.std.proofs.Common.{◌≡◌, Bool, true, false, List, [], ◌∷◌, Option, Some, None, map, codes, refl, ap, sym, ◌∙◌}
use Rattle.std.specs.Prelude.{option_map, option_and_then, slice_get}
use Rattle.std.specs.List.{find}
use Rattle.std.specs.Str.{bytes_eq}
use Rattle.clap.specs.Facts.{Entry}
use Rattle.clap.specs.Matches.{first_value, matched_of, one_text, raw_values}
use Rattle.clap.specs.Words.{Row, Text, all_of, first_of, one_of, rows_of}
use Rattle.clap.specs.Walk.{row_of, row_text}
use Rattle.clap.specs.declared.parser.matches.Found.{Found}
use Rattle.clap.specs.declared.builder.value_parser.Reading.{Reading}
use Rattle.clap.specs.Values.{bool_text, read_as}
use Rattle.std.specs.Borrow.{Bor}

found_row : (id : Text) (es : List Entry) → find (λ r. bytes_eq r.id id) (map row_of es) ≡ option_map row_of (find (λ e. bytes_eq e.0.now id) es)
found_row id [] = refl
found_row id (e ∷ es) = go (bytes_eq e.0.now id) refl (found_row id es)
  where
    go : (b : Bool) → bytes_eq e.0.now id ≡ b → find (λ r. bytes_eq r.id id) (map row_of es) ≡ option_map row_of (find (λ x. bytes_eq x.0.now id) es)
        → find (λ r. bytes_eq r.id id) (map row_of (e ∷ es)) ≡ option_map row_of (find (λ x. bytes_eq x.0.now id) (e ∷ es))
    go true same rest = rw same refl
    go false same rest = rw same rest

pub all_found : (f : Found) (id : Text) → option_map raw_values (matched_of f id) ≡ all_of id (rows_of f)
all_found f id = by (find (λ e. bytes_eq e.0.now id) f.entries.items) ∙ sym (ap (λ (o : Option Row). option_map (λ r. r.values) o) (found_row id f.entries.items))
  where
    by : (o : Option Entry) → option_map raw_values (option_map (λ e. e.1) o) ≡ option_map (λ (r : Row). r.values) (option_map row_of o)
    by None = refl
    by (Some e) = refl

one_found : (f : Found) (id : Text) → one_text f id ≡ one_of id (rows_of f)
one_found f id = by (find (λ e. bytes_eq e.0.now id) f.entries.items) ∙ sym (ap (λ (o : Option Row). option_and_then row_text o) (found_row id f.entries.items))
  where
    by : (o : Option Entry) → option_and_then (λ a. option_map (λ s. read_as a.reading s.now) (slice_get a.vals.items 0)) (option_map (λ e. e.1) o)
        ≡ option_and_then row_text (option_map row_of o)
    by None = refl
    by (Some e) = first e.1.vals.items e.1.reading
      where
        first : (vs : List (Bor Text)) (how : Reading) → option_map (λ s. read_as how s.now) (slice_get vs 0) ≡ option_map (read_as how) (slice_get (map (λ s. s.now) vs) 0)
        first [] how = refl
        first (v ∷ vs) how = refl

-- what a flag is read as
pub flag_is : (f : Found) (id : Text) (b r : Bool) → (one_text f id ≡ Some (codes "true") → r ≡ true) → (one_text f id ≡ Some (codes "false") → r ≡ false)
    → one_of id (rows_of f) ≡ Some (bool_text b) → r ≡ b
flag_is f id true r set unset is = set (one_found f id ∙ is)
flag_is f id false r set unset is = unset (one_found f id ∙ is)

-- the first value of an argument
pub first_found : (f : Found) (id : Text) → first_value f id ≡ first_of id (rows_of f)
first_found f id =
    by (find (λ e. bytes_eq e.0.now id) f.entries.items) ∙ sym (ap (λ (o : Option Row). option_and_then (λ r. slice_get r.values 0) o) (found_row id f.entries.items))
  where
    by : (o : Option Entry) → option_and_then (λ a. option_map (λ s. s.now) (slice_get a.vals.items 0)) (option_map (λ e. e.1) o)
        ≡ option_and_then (λ (r : Row). slice_get r.values 0) (option_map row_of o)
    by None = refl
    by (Some e) = first e.1.vals.items
      where
        first : (vs : List (Bor Text)) → option_map (λ s. s.now) (slice_get vs 0) ≡ slice_get (map (λ s. s.now) vs) 0
        first [] = refl
        first (v ∷ vs) = refl
