-- Values in which no byte is escaped.
use Rattle.std.proofs.Common.{◌≡◌, ◌≢◌, ℕ, Bool, true, false, not, ◌==◌, ◌||◌, List, [], ◌∷◌, ◌++◌, refl, ap, sym, ◌∙◌, arith}
use Rattle.std.specs.List.{list_all}
use Rattle.std.proofs.lemmas.Bool.{and_parts}
use Rattle.prom_text.specs.Labels.{escaped_byte, escaped, is_plain_byte}

plain_alone : (b : ℕ) → is_plain_byte b ≡ true → escaped_byte b ≡ b ∷ []
plain_alone b plain = grind (arith, plain)

pub escaped_plain : (value : List ℕ) → list_all is_plain_byte value ≡ true → escaped value ≡ value
escaped_plain [] plain = refl
escaped_plain (b ∷ bs) plain =
    let parts = and_parts _ _ plain in
    rw (plain_alone b parts.0) (ap (λ (l : List ℕ). b ∷ l) (escaped_plain bs parts.1))
