-- What contracts see of a flusher, where some of its parts are as they were.
use Rattle.std.proofs.Common.{◌≡◌, ◌⊎◌, Option, Some, None, List, refl, ap, sym, ◌∙◌, inl, inr, arith}
use Rattle.std.specs.Prelude.{option_map, ℕ, ◌++◌, ◌∷◌, [], map, length}
use Rattle.std.proofs.lemmas.List.{map-append}
use Rattle.seat_parts.specs.Parts.{first_or}
use Rattle.stat_defs.specs.declared.reports.FlushRecord.{FlushRecord}
use Rattle.merge_round.specs.Rounds.{after_round}
use Rattle.metric_words.specs.CounterLedger.{CounterKnown, flush_known}
use Rattle.metric_words.specs.GaugeLedger.{GaugeKnown, gauge_known}
use Rattle.locked_book.specs.declared.listing.Listing.{Listing}
use Rattle.flush_words.specs.Words.{after_latches, after_gauge_loads}
use Rattle.flush_words.proofs.Appending.{latches-keep}
use Rattle.admin_side.proofs.Readings.{gauge_loads-bank}
use Rattle.locked_book.specs.declared.shared.LockedBook.{LockedBook}
use Rattle.locked_book.specs.Sharing.{known_by}
use Rattle.flush_cells.specs.declared.tokens.FlushCell.{FlushCell}
use Rattle.run_ledger.specs.Told.{FlushTold}
use Rattle.store_parts.specs.Ids.{lock_of}
use Rattle.flusher.specs.declared.parts.FlusherParts.{FlusherParts}
use Rattle.flusher.specs.Parts.{ids_by}
use Rattle.flusher.specs.declared.flusher.FlushNote.{FlushNote}
use Rattle.flusher.specs.declared.flusher.RoundNote.{RoundNote}
use Rattle.flusher.specs.FlusherKept.{round_in, no_round, told_by}
use Rattle.flusher.specs.Flusher.{FlusherKnown, Begun, begun_by, told_of, round_by}

-- what is seen of these parts, with these flushes and this round
abbrev pub seen : FlusherParts → List FlushTold → Option Begun → FlusherKnown
seen parts flushes round = record {
  of = ids_by parts;
  seat = known_by parts.seat;
  counters = flush_known parts.counters;
  gauges = gauge_known parts.gauges;
  tokens = parts.cells.tokens.items;
  parents = parts.cells.parents;
  flushes = flushes;
  round = round;
}

-- a seat of the same book, and the same words and values
pub same-words : (parts parts' : FlusherParts) (tokens : List FlushCell) (flushes : List FlushTold) (round round' : Option Begun) → lock_of parts'.seat ≡ lock_of parts.seat
    → (parts'.counters ≡ parts.counters) × (parts'.gauges ≡ parts.gauges) × (parts'.cells.parents ≡ parts.cells.parents) → parts'.cells.tokens.items ≡ tokens → round' ≡ round
    → record {
      of = ids_by parts;
      seat = known_by parts'.seat;
      counters = flush_known parts.counters;
      gauges = gauge_known parts.gauges;
      tokens = tokens;
      parents = parts.cells.parents;
      flushes = flushes;
      round = round;
    } ≡ seen parts' flushes round'
same-words parts parts' tokens flushes round round' lock words same begun = λ i. record {
  of = record { lock = sym lock i; counters = (flush_known (sym words.0 i)).bank; gauges = (gauge_known (sym words.1 i)).bank };
  seat = known_by parts'.seat;
  counters = flush_known (sym words.0 i);
  gauges = gauge_known (sym words.1 i);
  tokens = sym same i;
  parents = sym words.2 i;
  flushes = flushes;
  round = sym begun i;
}

-- after the latches and the loads of a flush, in a new round
pub flushed-words : (parts parts' : FlusherParts) (shown : FlushRecord) (flushes flushes' : List FlushTold)
    → (parts'.seat ≡ parts.seat) × (parts'.cells.tokens ≡ parts.cells.tokens) → flush_known parts'.counters ≡ after_latches shown.deltas (flush_known parts.counters)
    → gauge_known parts'.gauges ≡ after_gauge_loads shown.gauges (gauge_known parts.gauges) → parts'.cells.parents ≡ after_round parts.cells.parents → flushes' ≡ flushes
    → record {
      of = ids_by parts;
      seat = known_by parts.seat;
      counters = after_latches shown.deltas (flush_known parts.counters);
      gauges = after_gauge_loads shown.gauges (gauge_known parts.gauges);
      tokens = parts.cells.tokens.items;
      parents = after_round parts.cells.parents;
      flushes = flushes;
      round = None;
    } ≡ seen parts' flushes' None
flushed-words parts parts' shown flushes flushes' rest latched loaded round told =
    let counters = ap (λ (z : CounterKnown). z.bank) latched ∙ (latches-keep shown.deltas (flush_known parts.counters)).2 in
    let gauges = ap (λ (z : GaugeKnown). z.bank) loaded ∙ gauge_loads-bank shown.gauges (gauge_known parts.gauges) in
    (λ i. record {
      of = record { lock = lock_of (sym rest.0 i); counters = sym counters i; gauges = sym gauges i };
      seat = known_by (sym rest.0 i);
      counters = sym latched i;
      gauges = sym loaded i;
      tokens = (sym rest.1 i).items;
      parents = sym round i;
      flushes = sym told i;
      round = None;
    })

-- the notes of the flushes tell one more
pub note-told : (notes notes' : List FlushNote) (shown : FlushRecord) (rounds : List RoundNote) (parts : FlusherParts) (listing : Listing)
    → notes' ≡ notes ++ record { shown = shown; round = first_or no_round rounds } ∷ [] → rounds ≡ round_in parts listing ∷ []
    → map told_by notes' ≡ map told_by notes ++ told_of (begun_by (known_by parts.seat) listing) shown (round_by (length parts.cells.tokens.items) parts.cells.parents) ∷ []
note-told notes notes' shown rounds parts listing more is =
    ap (map told_by) more
    ∙ (map-append told_by notes (record { shown = shown; round = first_or no_round rounds } ∷ [])
    ∙ ap (λ (l : List RoundNote). map told_by notes ++ told_by (record { shown = shown; round = first_or no_round l }) ∷ []) is)

pub found-or-same : {C : Type 0} (seat seat' : LockedBook) → (seat' ≡ seat) ⊎ C → (known_by seat' ≡ known_by seat) ⊎ C
found-or-same seat seat' (inl same) = inl (ap known_by same)
found-or-same seat seat' (inr found) = inr found

abbrev count_in : {X : Type 0} → Option X → ℕ
count_in None = 0
count_in (Some x) = 1

-- a round that is not begun is not, whatever the seat knows
pub still-none : {X Y : Type 0} (f g : X → Y) (o : Option X) → option_map f o ≡ None → option_map g o ≡ option_map f o
still-none f g None none = refl
still-none f g (Some x) none = absurd (let k : 1 ≡ 0 = ap count_in none in omega (arith, k))
