-- What the matches have of an argument.
use Rattle.std.proofs.Common.{◌≡◌, Bool, true, false, List, [], ◌∷◌, ◌++◌, Option, Some, None, is_some, refl, ap, ◌∙◌}
use Rattle.std.specs.List.{find}
use Rattle.std.specs.Str.{bytes_eq}
use Rattle.std.proofs.lemmas.Slice.Eq.{bytes_eq-Decides}
use Rattle.clap.specs.Words.{Row, Text}
use Rattle.clap.specs.Walk.{with_values, without, has_row}
use Rattle.clap.specs.declared.builder.value_parser.Reading.TheVariants.{AsWritten}
use Rattle.clap.specs.declared.parser.matches.ValueSource.{ValueSource}
use Rattle.clap.specs.declared.parser.matches.ValueSource.TheVariants.{CommandLine}

abbrev pub row_at : Text → List Row → Option Row
row_at id rows = find (λ r. bytes_eq r.id id) rows

-- a row of these values
abbrev pub row_from : Text → ValueSource → List Text → Row
row_from id source values = record { id = id; values = values; count = None; source = Some source; reading = AsWritten }

-- the row of an argument that has these values so far
abbrev pub held_row : Text → List Text → Option Row
held_row id [] = None
held_row id (v ∷ vs) = Some (row_from id CommandLine (v ∷ vs))

pub put_new : (id : Text) (s : ValueSource) (vs : List Text) (rows : List Row) → bytes_eq id id ≡ true → row_at id rows ≡ None
    → row_at id (with_values id AsWritten s vs rows) ≡ Some (row_from id s vs)
put_new id s vs [] own none = rw own refl
put_new id s vs (r ∷ rs) own none = go (bytes_eq r.id id) refl (put_new id s vs rs own)
  where
    go : (b : Bool) → bytes_eq r.id id ≡ b
        → (row_at id rs ≡ None → row_at id (with_values id AsWritten s vs rs) ≡ Some (row_from id s vs))
        → row_at id (with_values id AsWritten s vs (r ∷ rs)) ≡ Some (row_from id s vs)
    go true e next = let bad : Some r ≡ None = rw e at none in absurd cc
    go false e next = rw (e, e) (next (rw e at none))

-- one value more
pub put_more : (id : Text) (v : Text) (u : Text) (us : List Text) (rows : List Row) → bytes_eq id id ≡ true → row_at id rows ≡ held_row id (u ∷ us)
    → row_at id (with_values id AsWritten CommandLine (v ∷ []) rows) ≡ held_row id ((u ∷ us) ++ v ∷ [])
put_more id v u us [] own is = absurd cc
put_more id v u us (r ∷ rs) own is = go (bytes_eq r.id id) refl (put_more id v u us rs own)
  where
    go : (b : Bool) → bytes_eq r.id id ≡ b
        → (row_at id rs ≡ held_row id (u ∷ us) → row_at id (with_values id AsWritten CommandLine (v ∷ []) rs) ≡ held_row id ((u ∷ us) ++ v ∷ []))
        → row_at id (with_values id AsWritten CommandLine (v ∷ []) (r ∷ rs)) ≡ held_row id ((u ∷ us) ++ v ∷ [])
    go true e next =
        let same : Some r ≡ held_row id (u ∷ us) = rw e at is in
        let row : r ≡ row_from id CommandLine (u ∷ us) = cc in
        rw (row, own, own) refl
    go false e next = rw (e, e) (next (rw e at is))

pub put_value : (id : Text) (v : Text) (vs : List Text) (rows : List Row) → bytes_eq id id ≡ true → row_at id rows ≡ held_row id vs
    → row_at id (with_values id AsWritten CommandLine (v ∷ []) rows) ≡ held_row id (vs ++ v ∷ [])
put_value id v [] rows own is = put_new id CommandLine (v ∷ []) rows own is
put_value id v (u ∷ us) rows own is = put_more id v u us rows own is

-- other arguments have what they had
pub put_other : (id other : Text) (s : ValueSource) (vs : List Text) (rows : List Row) → bytes_eq id other ≡ false
    → row_at other (with_values id AsWritten s vs rows) ≡ row_at other rows
put_other id other s vs [] apart = rw apart refl
put_other id other s vs (r ∷ rs) apart = go (bytes_eq r.id id) refl (put_other id other s vs rs apart)
  where
    go : (b : Bool) → bytes_eq r.id id ≡ b → row_at other (with_values id AsWritten s vs rs) ≡ row_at other rs
        → row_at other (with_values id AsWritten s vs (r ∷ rs)) ≡ row_at other (r ∷ rs)
    go true e next =
        let differs : bytes_eq r.id other ≡ false = ap (λ t. bytes_eq t other) ((bytes_eq-Decides r.id id).0 e) ∙ apart in
        rw (e, differs) refl
    go false e next = rw (e, next) refl

pub nothing_to_take : (id : Text) (rows : List Row) → row_at id rows ≡ None → without id rows ≡ rows
nothing_to_take id [] none = refl
nothing_to_take id (r ∷ rs) none = go (bytes_eq r.id id) refl (nothing_to_take id rs)
  where
    go : (b : Bool) → bytes_eq r.id id ≡ b → (row_at id rs ≡ None → without id rs ≡ rs) → without id (r ∷ rs) ≡ r ∷ rs
    go true e next = let bad : Some r ≡ None = rw e at none in absurd cc
    go false e next = rw e (ap (λ (l : List Row). r ∷ l) (next (rw e at none)))

pub has_row_is : (id : Text) (rows : List Row) → has_row id rows ≡ is_some (row_at id rows)
has_row_is id [] = refl
has_row_is id (r ∷ rs) = go (bytes_eq r.id id) refl (has_row_is id rs)
  where
    go : (b : Bool) → bytes_eq r.id id ≡ b → has_row id rs ≡ is_some (row_at id rs) → has_row id (r ∷ rs) ≡ is_some (row_at id (r ∷ rs))
    go true e next = rw e refl
    go false e next = rw e next
