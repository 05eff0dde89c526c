-- Views as lists of parts, one part for each seat that a table was made with (this project's own).
-- The part of a seat that steps alone is the one part of its view. A seat that took others in has theirs behind its
-- own, and a seat that was taken in has none.
-- So each part stands in exactly one view, however seats are split and joined, and a sum over all parts of all views
-- speaks of all seats that the table was made with.
use Rattle.std.specs.Prelude.{ℕ, ◌+◌, List, [], ◌∷◌, ◌++◌, All}
use Rattle.std.specs.List.{Any}
use Rattle.seat_parts.specs.declared.Parts.{Parts}

-- the sum of f over a list
abbrev pub total : {A : Type 0} → (A → ℕ) → List A → ℕ
total f [] = 0
total f (x ∷ xs) = f x + total f xs

-- the sum of f over all parts of all views
abbrev pub parts_total : {P : Type 0} → (P → ℕ) → List (Parts P) → ℕ
parts_total f views = total (λ view. total f view.parts) views

-- a fact of each part of each view
abbrev pub AllParts : {P : Type 0} → (P → Type 0) → List (Parts P) → Type 0
AllParts F views = All (λ view. All F view.parts) views

-- a fact of some part of some view
abbrev pub AnyPart : {P : Type 0} → (P → Type 0) → List (Parts P) → Type 0
AnyPart F views = Any (λ view. Any F view.parts) views

-- the view with this own part, before the parts of others
abbrev pub led_by : {P : Type 0} → P → List P → Parts P
led_by p ps = record { parts = p ∷ ps }

-- the own part of a view that has one, and else the part that is given
abbrev pub first_or : {P : Type 0} → P → List P → P
first_or blank [] = blank
first_or blank (p ∷ ps) = p

-- the parts behind the own part: those of the seats that were taken in
abbrev pub others_of : {P : Type 0} → List P → List P
others_of [] = []
others_of (p ∷ ps) = ps

abbrev pub first_of : {P : Type 0} → List P → List P
first_of [] = []
first_of (p ∷ ps) = p ∷ []

abbrev pub first_changed : {P : Type 0} → (P → P) → List P → List P
first_changed f [] = []
first_changed f (p ∷ ps) = f p ∷ ps

-- the view whose own part has become f of it
abbrev pub own_changed : {P : Type 0} → (P → P) → Parts P → Parts P
own_changed f view = record { parts = first_changed f view.parts }

-- a split: the new seat has the first part, and the old one keeps the others
abbrev pub dealt : {P : Type 0} → Parts P → Parts P
dealt view = record { parts = first_of view.parts }

abbrev pub undealt : {P : Type 0} → Parts P → Parts P
undealt view = record { parts = others_of view.parts }

-- a join: the parts of the one seat, and behind them those of the other, which has none left
abbrev pub joined : {P : Type 0} → Parts P → Parts P → Parts P
joined view other = record { parts = view.parts ++ other.parts }

abbrev pub spent : {P : Type 0} → Parts P
spent = record { parts = [] }
