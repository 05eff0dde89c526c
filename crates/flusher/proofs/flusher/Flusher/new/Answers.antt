use Rattle.std.proofs.Common.{ap, sym, subst, map}
use Rattle.metric_words.specs.CounterLedger.{flush_known}
use Rattle.metric_words.specs.GaugeLedger.{gauge_known}
use Rattle.std.proofs.Common.{None}
use Rattle.locked_book.specs.Sharing.{known_by}
use Rattle.flusher.specs.Parts.{ids_by}
use Rattle.flusher.specs.Flusher.{FlusherAccounts}
use Rattle.flusher.specs.FlusherKept.{told_by}
use Rattle.flusher.proofs.Accounts.{new-accounts}
use Rattle.flusher.proofs.flusher.Flusher.new.Goals as goal

pub invariant_of-result : goal.invariant_of-result
invariant_of-result c =
    let a = c.args in let of = ids_by (record { seat = a.seat; counters = a.counters; gauges = a.gauges; cells = a.cells }) in
    subst FlusherAccounts
    (λ i. record {
      of = of;
      seat = known_by a.seat;
      counters = flush_known a.counters;
      gauges = gauge_known a.gauges;
      tokens = a.cells.tokens.items;
      parents = sym c.requires.cells.0 i;
      flushes = sym (ap (map told_by) c.new.ensures) i;
      round = None;
    })
    (new-accounts of (known_by a.seat) (flush_known a.counters) (gauge_known a.gauges) a.cells.tokens.items c.requires.seat c.requires.counters c.requires.gauges c.requires.cells.1 c.requires.workers c.requires.sized)
