-- What a flusher keeps.
use Rattle.std.specs.Prelude.{[], length, map, option_map}
use Rattle.stat_defs.specs.declared.history.Call.TheVariants as call
use Rattle.stat_defs.specs.declared.history.Reply.TheVariants as reply
use Rattle.metric_words.specs.CounterLedger.{flush_known}
use Rattle.metric_words.specs.GaugeLedger.{gauge_known}
use Rattle.locked_book.specs.Sharing.{known_by}
use Rattle.locked_book.specs.declared.listing.Listing.{Listing}
use Rattle.run_ledger.specs.Told.{FlushTold}
use Rattle.flusher.specs.declared.flusher.FlushNote.{FlushNote}
use Rattle.flusher.specs.declared.flusher.RoundNote.{RoundNote}
use Rattle.flusher.specs.declared.flusher.Flusher.TheInside.{Inside}
use Rattle.flusher.specs.declared.parts.FlusherParts.{FlusherParts}
use Rattle.flusher.specs.Flusher.{FlusherKnown, FlusherAccounts, begun_by, round_by}
use Rattle.flusher.specs.Parts.{ids_by}

-- the round of this listing, which was begun
abbrev pub round_in : FlusherParts → Listing → RoundNote
round_in parts listing = record {
  found = (begun_by (known_by parts.seat) listing).found;
  sweep = (begun_by (known_by parts.seat) listing).sweep;
  halves = round_by (length parts.cells.tokens.items) parts.cells.parents;
}

-- what stands for the round of a list without one, which there is not
abbrev pub no_round : RoundNote
no_round = record { found = []; sweep = record { seat = 0; call = call.Sweep; reply = reply.Swept 0 }; halves = [] }

abbrev pub told_by : FlushNote → FlushTold
told_by note = record {
  shown = note.shown;
  found = note.round.found;
  sweep = note.round.sweep;
  halves = note.round.halves;
}

abbrev pub shown : Inside → FlusherKnown
shown f = record {
  of = ids_by f.parts;
  seat = known_by f.parts.seat;
  counters = flush_known f.parts.counters;
  gauges = gauge_known f.parts.gauges;
  tokens = f.parts.cells.tokens.items;
  parents = f.parts.cells.parents;
  flushes = map told_by f.flushes.items;
  round = option_map (begun_by (known_by f.parts.seat)) f.round;
}

abbrev pub IsKept : Inside → Type 0
IsKept f = FlusherAccounts (shown f)
