-- What is read of an escaped value.
use Rattle.std.proofs.Common.{◌≡◌, ℕ, true, false, ◌==◌, if◌then◌else◌, List, [], ◌∷◌, ◌++◌, refl, sym, ap, ◌∙◌, subst, append_assoc, inl, inr}
use Rattle.std.proofs.lemmas.Bool.Decides.{eqb_tells}
use Rattle.prom_text.specs.Labels.{escaped_byte, escaped}
use Rattle.prom_text.specs.Values.{read_more, read_value}

abbrev IsReadByte : List ℕ → ℕ → Type 0
IsReadByte more b = read_value false (escaped_byte b ++ more) ≡ read_more b (read_value false more)

plain_byte_read : (more : List ℕ) (b : ℕ) → (b == 92) ≡ false → (b == 34) ≡ false → (b == 10) ≡ false → IsReadByte more b
plain_byte_read more b p q r =
    let text : escaped_byte b ≡ b ∷ [] =
    ap (λ t. if t then 92 ∷ 92 ∷ [] else if b == 34 then 92 ∷ 34 ∷ [] else if b == 10 then 92 ∷ 110 ∷ [] else b ∷ []) p
    ∙ ap (λ t. if t then 92 ∷ 34 ∷ [] else if b == 10 then 92 ∷ 110 ∷ [] else b ∷ []) q
    ∙ ap (λ t. if t then 92 ∷ 110 ∷ [] else b ∷ []) r in
    ap (λ l. read_value false (l ++ more)) text
    ∙ ap (λ t. if t then (record { value = []; rest = more }) else if b == 92 then read_value true more else read_more b (read_value false more)) q
    ∙ ap (λ t. if t then read_value true more else read_more b (read_value false more)) p

byte_read : (more : List ℕ) (b : ℕ) → IsReadByte more b
byte_read more b =
    elim (eqb_tells b 92) [
      | inl h ↦ subst (IsReadByte more) (sym h.1) refl
      | inr h ↦ elim (eqb_tells b 34) [
        | inl k ↦ subst (IsReadByte more) (sym k.1) refl
        | inr k ↦ elim (eqb_tells b 10) [
          | inl l ↦ subst (IsReadByte more) (sym l.1) refl
          | inr l ↦ plain_byte_read more b h.0 k.0 l.0
        ]
      ]
    ]

pub value_read : (value rest : List ℕ) → read_value false (escaped value ++ 34 ∷ rest) ≡ record { value = value; rest = rest }
value_read [] rest = refl
value_read (b ∷ bs) rest =
    ap (λ l. read_value false l) (append_assoc (escaped_byte b) (escaped bs) (34 ∷ rest)) ∙ byte_read (escaped bs ++ 34 ∷ rest) b
    ∙ ap (read_more b) (value_read bs rest)
