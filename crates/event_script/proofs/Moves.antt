-- Readings, one behind another.
use Rattle.std.proofs.Common.{ℕ, List, ◌++◌, refl, ◌∙◌, arith, append_assoc}
use Rattle.std.proofs.lemmas.List.{length-append}
use Rattle.std.proofs.KnownBytes.{Consumes-trans}
use Rattle.stat_defs.specs.declared.events.Event.{Event}
use Rattle.stats_io.specs.States.{SourceState, IsLater}
use Rattle.event_script.specs.Reader.{Reading, Moves}

pub later_trans : (a b c : SourceState) → IsLater a b → IsLater b c → IsLater a c
later_trans a b c p q = record { origin = q.origin ∙ p.origin; count = omega (arith, p.count, q.count) }

pub later_same : (a : SourceState) → IsLater a a
later_same a = record { origin = refl; count = omega arith }

-- two moves in a row
pub moves_trans : {S : Type 0} (state : S → SourceState) (a b c : Reading S) (got more : List ℕ) (events others : List Event)
    → Moves state a b got events → Moves state b c more others → Moves state a c (got ++ more) (events ++ others)
moves_trans state a b c got more events others p q = record {
  consumed = Consumes-trans (state a.source).left (state b.source).left (state c.source).left got more p.consumed q.consumed;
  later = later_trans (state a.source) (state b.source) (state c.source) p.later q.later;
  first = q.first ∙ p.first;
  taken = omega (arith, p.taken, q.taken, length-append got more);
  given = omega (arith, p.given, q.given, length-append events others);
  follows = λ rest last may. rw (append_assoc got more rest) (p.follows (more ++ rest) last (q.follows rest last may));
  answers = λ rest last later end may comes.
      rw (append_assoc got more rest, append_assoc events others later) (p.answers (more ++ rest) last (others ++ later) end (q.follows rest last may) (q.answers rest last later end may comes));
}
