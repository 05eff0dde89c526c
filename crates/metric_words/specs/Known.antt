-- What a seat of a bank knows (this project's own). Its own calls alone change it.
use Rattle.std.specs.Prelude.{List, [], ◌∷◌, ◌++◌}
use Rattle.atomic_table.specs.Seated.{TableId}
use Rattle.atomic_table.specs.Table.{Me}
use Rattle.seat_parts.specs.declared.Parts.{Parts}
use Rattle.seat_parts.specs.Parts.{first_or, others_of}

-- its bank, its own part, and the parts of the seats that it took in, in order
pub record SeatKnown (P : Type 0) : Type 0 where
  pub bank : TableId
  pub own : P
  pub taken : List P

module _ {P : Type 0} where
  -- of a seat that has no part, which there is not, the own part is `blank`
  abbrev pub known_of : P → TableId → Me (Unit {0}) (Parts P) → SeatKnown P
  known_of blank bank m = record { bank = bank; own = first_or blank m.0.parts; taken = others_of m.0.parts }

  -- a seat that has taken none in
  abbrev pub new_known : TableId → P → SeatKnown P
  new_known bank own = record { bank = bank; own = own; taken = [] }

  -- the same, whose own part is now what f makes of it
  abbrev pub own_after : (P → P) → SeatKnown P → SeatKnown P
  own_after f k = record { bank = k.bank; own = f k.own; taken = k.taken }

  -- its own part, and behind it those of the seats that it took in
  abbrev pub all_of : SeatKnown P → List P
  all_of k = k.own ∷ k.taken

  -- the same with these parts behind those taken in before
  abbrev pub with_parts : List P → SeatKnown P → SeatKnown P
  with_parts ps k = record { bank = k.bank; own = k.own; taken = k.taken ++ ps }
