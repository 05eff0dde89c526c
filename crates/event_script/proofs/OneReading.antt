-- A file has one list of events and one end.
use Rattle.std.proofs.Common.{◌≡◌, ◌<◌, ◌+◌, ℕ, List, [], ◌∷◌, inl, inr, ⊎_elim, length, get_or, refl, sym, ap, ◌∙◌, arith}
use Rattle.std.proofs.lemmas.Bool.{cases_lt}
use Rattle.stat_defs.specs.declared.events.Event.{Event}
use Rattle.stat_defs.specs.declared.reports.FileEnd.{FileEnd}
use Rattle.stats_io.specs.declared.pulling.Pulled.{Pulled}
use Rattle.stats_io.specs.declared.pulling.Pulled.TheVariants.{End}
use Rattle.event_script.specs.declared.limits.TheConstants.{MAX_FILE_BYTES}
use Rattle.event_script.specs.Grammar.{IsLineOf, IsPassedOver}
use Rattle.event_script.specs.EventIn.{word_bytes, event_in}
use Rattle.event_script.specs.declared.words.Word.{Word}
use Rattle.event_script.specs.declared.words.Word.TheVariants as word
use Rattle.event_script.specs.Script.{LinesGive, FileFrom}
use Rattle.event_script.proofs.EventLines.{found_in, begins}
use Rattle.std.proofs.lemmas.List.{get_or_append_left}

-- a line says one event
pub one_event : (line : List ℕ) (e e' : Event) → IsLineOf line e → IsLineOf line e' → e ≡ e'
one_event line e e' is is' = let same = sym (found_in line e is) ∙ found_in line e' is' in cc

first_byte : (w : Word) → 35 < get_or (word_bytes w) 0 0
first_byte word.Inc = omega arith
first_byte word.Add = omega arith
first_byte word.Sub = omega arith
first_byte word.Set = omega arith
first_byte word.Rec = omega arith
first_byte word.Text = omega arith
first_byte word.Open = omega arith
first_byte word.Release = omega arith

some_byte : (w : Word) → 0 < length (word_bytes w)
some_byte word.Inc = omega arith
some_byte word.Add = omega arith
some_byte word.Sub = omega arith
some_byte word.Set = omega arith
some_byte word.Rec = omega arith
some_byte word.Text = omega arith
some_byte word.Open = omega arith
some_byte word.Release = omega arith

-- an event's line is not passed over
pub not_both : (line : List ℕ) (e : Event) → IsLineOf line e → IsPassedOver line → ⊥
not_both line e is passed = by line refl passed
  where
    by : (l : List ℕ) → line ≡ l → IsPassedOver l → ⊥
    by [] same passed = let found = sym (found_in line e is) ∙ ap event_in same in absurd cc
    by (b ∷ bs) same passed =
        let w = begins line e is in
        let first : get_or (b ∷ bs) 0 0 ≡ get_or (word_bytes w.0) 0 0 =
        ap (λ (l : List ℕ). get_or l 0 0) (sym same ∙ w.2) ∙ get_or_append_left (word_bytes w.0) (32 ∷ w.1) 0 0 (some_byte w.0) in
        omega (arith, first_byte w.0, first, passed)

reads_single : (number given : ℕ) (lines : List (List ℕ)) (stop : Pulled) (events others : List Event) (end other : FileEnd) → LinesGive number given lines stop events end
    → LinesGive number given lines stop others other → (events ≡ others) × (end ≡ other)
reads_single number given [] stop events others end other r s = (r.0 ∙ sym s.0, r.1 ∙ sym s.1)
reads_single number given (l ∷ ls) stop events others end other (inl r) (inl s) = (r.1 ∙ sym s.1, r.2 ∙ sym s.2)
reads_single number given (l ∷ ls) stop events others end other (inl r) (inr s) = absurd (omega (arith, r.0, s.0))
reads_single number given (l ∷ ls) stop events others end other (inr r) (inl s) = absurd (omega (arith, r.0, s.0))
reads_single number given (l ∷ ls) stop events others end other (inr (f, inl r)) (inr (g, inl s)) = reads_single (number + 1) given ls stop events others end other r.1 s.1
reads_single number given (l ∷ ls) stop events others end other (inr (f, inl r)) (inr (g, inr (inl s))) = absurd (not_both l s.0 s.1 r.0)
reads_single number given (l ∷ ls) stop events others end other (inr (f, inl r)) (inr (g, inr (inr s))) = absurd (s.0.not_passed r.0)
reads_single number given (l ∷ ls) stop events others end other (inr (f, inr (inl r))) (inr (g, inl s)) = absurd (not_both l r.0 r.1 s.0)
reads_single number given (l ∷ ls) stop events others end other (inr (f, inr (inl (e, is, inl r)))) (inr (g, inr (inl (e', is', inl s)))) =
    let same = one_event l e e' is is' in
    let rest = reads_single (number + 1) (given + 1) ls stop r.0 s.0 end other r.3 s.3 in
    (r.2 ∙ rw (same, rest.0) refl ∙ sym s.2, rest.1)
reads_single number given (l ∷ ls) stop events others end other (inr (f, inr (inl (e, is, inl r)))) (inr (g, inr (inl (e', is', inr s)))) = absurd (omega (arith, r.1, s.0))
reads_single number given (l ∷ ls) stop events others end other (inr (f, inr (inl (e, is, inr r)))) (inr (g, inr (inl (e', is', inl s)))) = absurd (omega (arith, r.0, s.1))
reads_single number given (l ∷ ls) stop events others end other (inr (f, inr (inl (e, is, inr r)))) (inr (g, inr (inl (e', is', inr s)))) = (r.1 ∙ sym s.1, r.2 ∙ sym s.2)
reads_single number given (l ∷ ls) stop events others end other (inr (f, inr (inl r))) (inr (g, inr (inr s))) = absurd (s.0.no_event r.0 r.1)
reads_single number given (l ∷ ls) stop events others end other (inr (f, inr (inr r))) (inr (g, inl s)) = absurd (r.0.not_passed s.0)
reads_single number given (l ∷ ls) stop events others end other (inr (f, inr (inr r))) (inr (g, inr (inl s))) = absurd (r.0.no_event s.0 s.1)
reads_single number given (l ∷ ls) stop events others end other (inr (f, inr (inr r))) (inr (g, inr (inr s))) = (r.1 ∙ sym s.1, r.2 ∙ sym s.2)

from_single : (number given offset : ℕ) (bytes : List ℕ) (stop : Pulled) (events others : List Event) (end other : FileEnd) → FileFrom number given offset bytes stop events end
    → FileFrom number given offset bytes stop others other → (events ≡ others) × (end ≡ other)
from_single number given offset bytes stop events others end other r s =
    ⊎_elim (λ big. reads_single _ _ _ _ events others end other (r.1 big) (s.1 big)) (λ fits. reads_single _ _ _ _ events others end other (r.0 fits) (s.0 fits)) (cases_lt MAX_FILE_BYTES (offset + length bytes))

pub file_single : (bytes : List ℕ) (events others : List Event) (end other : FileEnd) → FileFrom 1 0 0 bytes End events end → FileFrom 1 0 0 bytes End others other
    → (events ≡ others) × (end ≡ other)
file_single bytes events others end other r s = from_single 1 0 0 bytes End events others end other r s
