use Rattle.std.proofs.Common.{◌≡◌, List, [], ◌∷◌, ◌++◌, map, ap, sym, ◌∙◌, subst}
use Rattle.std.proofs.lemmas.List.{map-append}
use Rattle.stat_defs.specs.declared.history.NameOp.{NameOp}
use Rattle.stat_defs.specs.Changes.{GoesOnLater}
use Rattle.book_lock.specs.Seats.{seat_lock}
use Rattle.book_lock.proofs.Standing.{later-not, later-then}
use Rattle.metric_words.specs.CounterLedger.{read_known}
use Rattle.metric_words.specs.GaugeLedger.{gauge_known}
use Rattle.locked_book.specs.Sharing.{part_of, names_by}
use Rattle.admin_side.specs.declared.words.ReadWords.{ReadWords}
use Rattle.admin_side.specs.Shown.{Shows}
use Rattle.admin_side.specs.Reader.{ReaderKnown, ReaderAccounts, Reads}
use Rattle.admin_side.specs.ReaderKept.{shown, named_by}
use Rattle.admin_side.proofs.Readings.{reader-looked, reader-read, same_lock, loads-bank, gauge_loads-bank}
use Rattle.admin_side.proofs.admin.Admin.read.Goals as goal

pub invariant_of-self : goal.invariant_of-self
invariant_of-self c =
    let was = c.self.inside in let seat = c.bring_up.new.seat in let on = c.in_err-bring_up.ensures.looks.tells.known in record {
      accounts = reader-looked (shown was) (seat_lock seat.seat) (part_of seat) on c.self.invariant.accounts;
      names = subst (λ (l : List NameOp). GoesOnLater l (names_by seat)) (sym c.in_err-bring_up.ensures.err)
          (later-then was.names (names_by was.seat) (names_by seat) c.self.invariant.names on);
    }

pub invariant_of-self-in_err-shown : goal.invariant_of-self-in_err-shown
invariant_of-self-in_err-shown c =
    let was = c.self.inside in let seat = c.bring_up.new.seat in let up = c.in_ok-bring_up.ensures in record {
      accounts = subst (λ (w : ReadWords). ReaderAccounts (record {
        lock = seat_lock seat.seat;
        part = part_of seat;
        counters = read_known w.counters;
        gauges = gauge_known w.gauges;
        reads = map named_by was.reads.items;
      })) (sym c.in_err-shown.ensures.err) (reader-looked (shown was) (seat_lock seat.seat) (part_of seat) up.steps.tells.known c.self.invariant.accounts);
      names = subst (λ (l : List NameOp). GoesOnLater l (names_by seat)) (sym up.ok) (later-not (names_by seat));
    }

pub invariant_of-self-2 : goal.invariant_of-self-2
invariant_of-self-2 c =
    let was = c.self.inside in let seat = c.bring_up.new.seat in let up = c.in_ok-bring_up.ensures in let read_shown = c.in_ok-shown.shown in let step = c.in_ok-shown.ensures in
    let reads : map named_by c.with_read-self-inside.result.items ≡ map named_by was.reads.items ++ record { shown = read_shown; names = names_by seat } ∷ [] =
    ap (map named_by) c.with_read-self-inside.ensures ∙ (map-append named_by was.reads.items (_ ∷ []) ∙ ap (λ (n : List NameOp). map named_by was.reads.items ++ record { shown = read_shown; names = n } ∷ []) up.ok) in record {
      accounts = subst ReaderAccounts (λ i. record {
        lock = seat_lock seat.seat;
        part = part_of seat;
        counters = sym step.counters i;
        gauges = sym step.gauges i;
        reads = sym reads i;
      }) (reader-read (shown was) (seat_lock seat.seat) (part_of seat) read_shown up.steps.tells (subst (λ (n : List NameOp). Shows n read_shown) up.ok step.shows) c.self.invariant.accounts);
      names = subst (λ (l : List NameOp). GoesOnLater l (names_by seat)) (sym up.ok) (later-not (names_by seat));
    }

pub returns-clause-own : goal.returns-clause-own
returns-clause-own c = let step = c.in_ok-shown.ensures in record {
  lock = c.in_ok-bring_up.ensures.seat;
  counters_bank = ap (λ z. z.bank) step.counters ∙ (loads-bank c.in_ok-shown.shown.counters (read_known c.self.inside.words.counters) ∙ (ap (λ z. z.counters.bank) c.self.view_is ∙ c.requires.own.counters_bank));
  gauges_bank = ap (λ z. z.bank) step.gauges ∙ (gauge_loads-bank c.in_ok-shown.shown.gauges (gauge_known c.self.inside.words.gauges) ∙ (ap (λ z. z.gauges.bank) c.self.view_is ∙ c.requires.own.gauges_bank));
  sizes = c.requires.own.sizes;
}

pub returns-clause-ok : goal.returns-clause-ok
returns-clause-ok c =
    let was = c.self.inside in let seat = c.bring_up.new.seat in let up = c.in_ok-bring_up.ensures in let read_shown = c.in_ok-shown.shown in let step = c.in_ok-shown.ensures in
    let reads : map named_by c.with_read-self-inside.result.items ≡ map named_by was.reads.items ++ record { shown = read_shown; names = names_by seat } ∷ [] =
    ap (map named_by) c.with_read-self-inside.ensures ∙ (map-append named_by was.reads.items (_ ∷ []) ∙ ap (λ (n : List NameOp). map named_by was.reads.items ++ record { shown = read_shown; names = n } ∷ []) up.ok) in
    let after : ReaderKnown = record {
      lock = seat_lock seat.seat;
      part = part_of seat;
      counters = read_known c.read.new.self.counters;
      gauges = gauge_known c.read.new.self.gauges;
      reads = map named_by c.with_read-self-inside.result.items;
    } in
    subst (λ (k : ReaderKnown). Reads read_shown k after) c.self.view_is (record {
      had = was.names;
      changes = up.steps;
      shows = subst (λ (n : List NameOp). Shows n read_shown) up.ok step.shows;
      told = λ i. record {
        lock = same_lock (shown was) c.args.self.now c.self.view_is c.requires.own.lock up.seat i;
        part = part_of seat;
        counters = step.counters i;
        gauges = step.gauges i;
        reads = reads i;
      };
    })
