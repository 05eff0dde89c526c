-- The parties of a store that came to its end account for what they did.
use Rattle.std.proofs.Common.{◌≡◌, ◌==◌, ◌<◌, ◌≤◌, ℕ, suc, Bool, true, false, None, List, [], ◌∷◌, ◌++◌, map, length, refl, ap, sym, ◌∙◌, subst, arith, append-nil, append_assoc}
use Rattle.std.specs.List.{AllByRecursion}
use Rattle.std.specs.List.Sorted.{IsStrictlyIncreasing, IsNonDecreasing}
use Rattle.std.proofs.lemmas.List.{length-map, length-append, map-append}
use Rattle.std.proofs.lemmas.List.Elements.{recursion_from_All}
use Rattle.std.proofs.lemmas.Simd.{map-map}
use Rattle.stat_defs.specs.Books.{BookHistory}
use Rattle.stat_defs.specs.declared.history.Call.TheVariants as call
use Rattle.stat_defs.specs.declared.history.Reply.TheVariants as reply
use Rattle.stat_defs.specs.declared.history.Entry.{Entry}
use Rattle.stat_defs.specs.declared.ids.Kind.TheVariants.{Counter, Gauge}
use Rattle.stat_defs.specs.declared.ids.MetricId.{MetricId}
use Rattle.stat_defs.specs.declared.reports.Delta.{Delta}
use Rattle.stat_defs.specs.declared.reports.FlushRecord.{FlushRecord}
use Rattle.stat_defs.specs.declared.reports.LastFlush.{LastFlush}
use Rattle.stat_defs.specs.declared.reports.ReadRecord.{ReadRecord}
use Rattle.seat_history.specs.History.{SeatHistory, entries_by, past, with_log}
use Rattle.book_state.specs.declared.limits.TheConstants.{MAX_METRICS}
use Rattle.book_state.specs.State.{NameRules, State}
use Rattle.book_state.specs.Step.{overdue_in}
use Rattle.book_state.specs.Log.{openings, replay, Legal}
use Rattle.stat_book.specs.Calls.{rules_of, state_of, IsLegal, name_rules}
use Rattle.stat_book.specs.NameChanges.{names_of}
use Rattle.stat_defs.specs.Changes.{GoesOnLater}
use Rattle.name_changes.specs.Changes.{changes_in}
use Rattle.stat_book.specs.NameChanges.{changes_of}
use Rattle.book_lock.specs.History.{IsOneHistory}
use Rattle.locked_book.specs.declared.listing.Listing.{Listing}
use Rattle.locked_book.specs.Sharing.{first_of, seat_count, known_by}
use Rattle.locked_book.specs.Lists.{SweepsListed}
use Rattle.locked_book.proofs.OfKind.{few_metrics}
use Rattle.metric_words.specs.declared.counter_view.CountPart.{CountPart}
use Rattle.metric_words.specs.declared.gauge_view.GaugePart.{GaugePart}
use Rattle.metric_words.specs.Counters.{latches}
use Rattle.metric_words.specs.CounterLaws.{IsCounterEnd}
use Rattle.flush_cells.specs.Taken.{HalfValues}
use Rattle.cells_end.specs.declared.end.CellEnd.{CellEnd}
use Rattle.cells_end.specs.LastRound.{IsLastRound, halves_at_end}
use Rattle.ledger.specs.Flushes.{ids_made, id_of_delta, id_of_reading, flushed}
use Rattle.ledger.specs.Ledger.{plan_of}
use Rattle.ledger.specs.Lists.{EachNumbered}
use Rattle.ledger.proofs.Members.{all_as, all_mapped, all_parts, each_as, each_mapped}
use Rattle.run_ledger.specs.Told.{WorkerTold, FlushTold, ReadTold, RunTold, all_flushes, halves_of, halves_at}
use Rattle.run_ledger.specs.Accounts.{StoreAccounts, WorkerAccounts, FollowsEvents, FlushAccounts, ReadAccounts, CountersAccount, CounterAtEnd, IsLatched, IsLogOf, IsTold, LeftBy, listed}
use Rattle.run_ledger.proofs.Grows.{run_grows}
use Rattle.run_ledger.proofs.Ends.{run_ends}
use Rattle.store_parts.specs.declared.store.Store.{Store}
use Rattle.recorder.specs.declared.ended.Ended.{Ended}
use Rattle.recorder.specs.Ending.{told_at_end}
use Rattle.recorder.specs.Tied.{HasFollowedToEnd}
use Rattle.admin_side.specs.Reader.{ReaderKnown, ReaderAccounts}
use Rattle.admin_side.specs.Telling.{told_at}
use Rattle.admin_side.proofs.Listed.{listed-is}
use Rattle.admin_side.proofs.Readings.{words-told}
use Rattle.admin_side.proofs.Told.{reads-account}
use Rattle.flusher.proofs.Accounts.{are-latches}
use Rattle.flusher.proofs.Rising.{rises-more}
use Rattle.flusher.specs.Flusher.{FlusherKnown, FlusherAccounts, sweeps_of}
use Rattle.store_closing.specs.Closes.{HaveEnded, Closes, EachFollows, IsEmptied, told_of, plan_told, events_told, report_told}
use Rattle.store_closing.specs.Pieces.{EndsCounters, seats_at_end, counts_at_end, gauges_at_end}
use Rattle.store_closing.proofs.Reports.{apart_own, flushes_on, each_and_last}
use Rattle.store_closing.proofs.Pending.{AddsTo, none_pending}
use Rattle.store_closing.proofs.Parties.{workers_account, workers_follow, workers_add}

-- the sweep that the book logged last
abbrev sweep_entry : BookHistory → Entry
sweep_entry found = record { seat = 0; call = call.Sweep; reply = reply.Swept (length (overdue_in (state_of found))) }

abbrev shown_at : FlushTold → ℕ
shown_at flush = flush.shown.at

-- the members of two lists with the same notes and halves
each_end : (P : ℕ → HalfValues → Type 0) (n : ℕ) (ends : List CellEnd) (ended : List Ended) → map halves_at_end ends ≡ map (λ (e : Ended). (told_at_end e).turned ++ (told_at_end e).active ∷ []) ended
    → EachNumbered (λ w end. P w (halves_at_end end)) n ends → EachNumbered (λ w (e : Ended). P w ((told_at_end e).turned ++ (told_at_end e).active ∷ [])) n ended
each_end P n ends ended same each = from_mapped n ended (subst (EachNumbered P n) same (each_mapped halves_at_end P n ends each))
  where
    from_mapped : (k : ℕ) (xs : List Ended) → EachNumbered P k (map (λ (e : Ended). (told_at_end e).turned ++ (told_at_end e).active ∷ []) xs)
        → EachNumbered (λ w (e : Ended). P w ((told_at_end e).turned ++ (told_at_end e).active ∷ [])) k xs
    from_mapped k [] is = tt
    from_mapped k (x ∷ xs) is = (is.0, from_mapped (suc k) xs is.1)

module _ (store : Store) (ended : List Ended) (flusher : FlusherKnown) (reader : ReaderKnown) (found : BookHistory) (listing : Listing) (shown : FlushRecord)
    (ends : List CellEnd) where
  abbrev first : BookHistory
  first = first_of store.book

  abbrev R : NameRules
  R = (plan_of first.config).rules

  abbrev W : ℕ
  W = first.workers

  abbrev log : List Entry
  log = found.log ++ sweep_entry found ∷ []

  module _ (have : HaveEnded store ended) (none : flusher.round ≡ None) (number : flusher.seat.number ≡ 0) (fa : FlusherAccounts flusher) (ra : ReaderAccounts reader)
      (new : first.log ≡ openings 0 first.config.scopes)
      (history : IsOneHistory first (seat_count store.book) (seats_at_end flusher.seat ended reader.part.seat) found)
      (last : BookHistory) (sweeps : SweepsListed listing 0 found last) (legal : IsLegal last)
      (known : GoesOnLater reader.part.names (changes_of (with_log last.log first)))
      (at : shown.at ≡ listing.at) (deltas : map id_of_delta shown.deltas ≡ ids_made Counter (state_of last))
      (counters : EndsCounters (counts_at_end ended) flusher.counters reader.counters shown.deltas)
      (gauges : map id_of_reading shown.gauges ≡ listing.gauges)
      (words : AllByRecursion (λ r. LeftBy r.id.0 (gauges_at_end ended) r.word) shown.gauges)
      (same : map halves_at_end ends ≡ map (λ (e : Ended). (told_at_end e).turned ++ (told_at_end e).active ∷ []) ended)
      (round : IsLastRound flusher.tokens flusher.parents ends shown.parts) where
    abbrev flush : FlushTold
    flush = record { shown = shown; found = found.log; sweep = sweep_entry found; halves = round.halves }

    abbrev told : RunTold
    told = told_of ended flusher reader flush

    -- the seats' histories
    all_seats : AllByRecursion (SeatHistory first found.log) (seats_at_end flusher.seat ended reader.part.seat)
    all_seats = recursion_from_All (SeatHistory first found.log) (seats_at_end flusher.seat ended reader.part.seat) history.each

    by_flusher : SeatHistory first found.log flusher.seat
    by_flusher = all_seats.0

    behind_it : AllByRecursion (SeatHistory first found.log) (map (λ (e : Ended). known_by e.seat) ended) × AllByRecursion (SeatHistory first found.log) (reader.part.seat ∷ [])
    behind_it = all_parts (SeatHistory first found.log) (map (λ (e : Ended). known_by e.seat) ended) (reader.part.seat ∷ []) all_seats.1

    by_workers : AllByRecursion (λ (e : Ended). SeatHistory first found.log (known_by e.seat)) ended
    by_workers = unmapped ended behind_it.0
      where
        unmapped : (xs : List Ended) → AllByRecursion (SeatHistory first found.log) (map (λ (e : Ended). known_by e.seat) xs) → AllByRecursion (λ (e : Ended). SeatHistory first found.log (known_by e.seat)) xs
        unmapped [] is = tt
        unmapped (x ∷ xs) is = (is.0, unmapped xs is.1)

    -- how many workers there are
    count : length told.workers ≡ W
    count = length-map ended told_at_end ∙ have.all

    ends_count : length ends ≡ W
    ends_count =
        let a = length-map ends halves_at_end in
        let b = length-map ended (λ (e : Ended). (told_at_end e).turned ++ (told_at_end e).active ∷ []) in
        let c = ap (λ (l : List HalfValues). length l) same in
        let d = have.all in
        omega (arith, a, b, c, d)

    -- the book that the sweep found and left
    found_rules : rules_of found ≡ R
    found_rules = λ i. name_rules (history.config i).matcher (history.config i).tags

    last_is : last ≡ record { config = first.config; workers = W; log = log }
    last_is = sweeps.step.logged ∙ (λ i. record { config = history.config i; workers = history.workers i; log = log })

    found_state : state_of found ≡ replay R W found.log
    found_state = λ i. replay (found_rules i) (history.workers i) found.log

    last_state : state_of last ≡ replay R W log
    last_state = ap state_of last_is

    legal_log : Legal R first.config.scopes W log
    legal_log = subst IsLegal last_is legal

    -- the last flush
    last_accounts : FlushAccounts R W log true flush
    last_accounts = record {
      behind = [];
      whole = refl;
      at = at ∙ sweeps.lists.at;
      sweep = (refl, refl);
      counters = deltas ∙ ap (λ (s : State). ids_made Counter s) last_state;
      gauges = gauges ∙ (sweeps.lists.gauges ∙ (listed-is Gauge (state_of found) ∙ ap (λ (s : State). listed Gauge s) found_state));
      each = round.each ∙ ends_count;
      parts = round.are;
    }

    -- the flushes before it
    known_more : List Entry
    known_more = by_flusher.known.0 ++ sweep_entry found ∷ []

    log_more : log ≡ flusher.seat.known ++ known_more
    unfolding known_more
    log_more = ap (λ (l : List Entry). l ++ sweep_entry found ∷ []) by_flusher.known.1 ∙ append_assoc flusher.seat.known by_flusher.known.0 (sweep_entry found ∷ [])

    flushes_known : AllByRecursion (FlushAccounts R W flusher.seat.known false) flusher.flushes
    flushes_known =
        subst (λ (n : ℕ). AllByRecursion (FlushAccounts R n flusher.seat.known false) flusher.flushes) (ap (λ (h : BookHistory). h.workers) by_flusher.made_with)
        (subst (λ (rules : NameRules). AllByRecursion (FlushAccounts rules flusher.seat.workers flusher.seat.known false) flusher.flushes) (ap rules_of by_flusher.made_with) fa.each)

    flushes_account : AllByRecursion (FlushAccounts R W log false) flusher.flushes
    flushes_account = flushes_on R W flusher.seat.known log known_more flusher.flushes log_more flushes_known

    each_flush : EachNumbered (λ k f. FlushAccounts R W log (suc k == length (all_flushes told)) f) 0 (all_flushes told)
    each_flush =
        each_and_last (λ (b : Bool) f. FlushAccounts R W log b f) 0 flusher.flushes flush (length (all_flushes told))
        (let long = length-append flusher.flushes (flush ∷ []) in omega (arith, long)) flushes_account last_accounts

    -- the readings
    known_log : GoesOnLater reader.part.names (changes_in R W log)
    known_log = subst (λ (h : BookHistory). GoesOnLater reader.part.names (changes_of (with_log h.log first))) last_is known

    each_read : AllByRecursion (ReadAccounts R W log) told.reads
    each_read = reads-account R first.config.scopes W log legal_log reader.part.names reader.reads known_log ra.each

    -- the places of flushes rise
    below_last : AllByRecursion (λ f. shown_at f < shown.at) flusher.flushes
    below_last =
        all_as (FlushAccounts R W flusher.seat.known false) (λ f. shown_at f < shown.at) flusher.flushes (λ f is.
        let place = is.at in
        let whole = ap (λ (l : List Entry). length l) is.whole in
        let parts = length-append f.found (f.sweep ∷ is.behind) in
        let known = ap (λ (l : List Entry). length l) by_flusher.known.1 in
        let more = length-append flusher.seat.known by_flusher.known.0 in
        let here = at ∙ sweeps.lists.at in
        omega (arith, place, whole, parts, known, more, here)) flushes_known

    flush_places : map (λ (f : FlushRecord). f.at) (map (λ (f : FlushTold). f.shown) (all_flushes told)) ≡ map shown_at flusher.flushes ++ shown.at ∷ []
    flush_places = map-map (λ (f : FlushRecord). f.at) (λ (f : FlushTold). f.shown) (all_flushes told) ∙ map-append shown_at flusher.flushes (flush ∷ [])

    -- the store's entries are the sweeps
    made_sweeps : flusher.seat.made ≡ map (λ (f : FlushTold). f.sweep) flusher.flushes
    made_sweeps = fa.sweeps ∙ (λ i. map (λ (f : FlushTold). f.sweep) flusher.flushes ++ sweeps_of (none i)) ∙ append-nil (map (λ (f : FlushTold). f.sweep) flusher.flushes)

    store_entries : entries_by 0 (past (openings 0 first.config.scopes) log) ≡ map (λ (f : FlushTold). f.sweep) (all_flushes told)
    store_entries =
        let by_number : entries_by flusher.seat.number (past first.log log) ≡ flusher.seat.made ++ sweep_entry found ∷ [] = run_ends.sweep first found.log history.log.0 flusher.seat (sweep_entry found) history.log.1 by_flusher (sym number) in
        (λ i. entries_by (sym number i) (past (sym new i) log)) ∙ by_number ∙ ap (λ (l : List Entry). l ++ sweep_entry found ∷ []) made_sweeps
        ∙ sym (map-append (λ (f : FlushTold). f.sweep) flusher.flushes (flush ∷ []))

    -- the halves of each worker
    each_half : EachNumbered (λ w (worker : WorkerTold). halves_of w (all_flushes told) ≡ worker.turned ++ worker.active ∷ []) 1 told.workers
    each_half =
        each_mapped told_at_end (λ w (worker : WorkerTold). halves_of w (all_flushes told) ≡ worker.turned ++ worker.active ∷ []) 1 ended
        (each_as (λ w (e : Ended). halves_of w flusher.flushes ++ halves_at round.halves w ≡ (told_at_end e).turned ++ (told_at_end e).active ∷ [])
        (λ w (e : Ended). halves_of w (all_flushes told) ≡ (told_at_end e).turned ++ (told_at_end e).active ∷ []) 1 ended
        (λ w e low is. run_grows.halves w flusher.flushes flush ∙ is)
        (each_end (λ w (l : HalfValues). halves_of w flusher.flushes ++ halves_at round.halves w ≡ l) 1 ends ended same
        (round.whole (λ w. halves_of w flusher.flushes) fa.halves)))

    -- the workers
    each_account : EachNumbered (WorkerAccounts found.log) 1 told.workers
    each_account = workers_account store found.log 1 ended have.each by_workers

    each_follows : EachFollows (plan_told first.config told) told ended
    each_follows =
        subst (λ (n : ℕ). EachNumbered (λ w (e : Ended). HasFollowedToEnd e → FollowsEvents R n w (told_at_end e)) 1 ended) (sym count)
        (workers_follow store found.log 1 ended have.each by_workers)

    -- the counters
    abbrev counts : List CountPart
    counts = map (λ (w : WorkerTold). w.counts) told.workers

    counts_are : counts_at_end ended ≡ counts
    counts_are = sym (map-map (λ (w : WorkerTold). w.counts) told_at_end ended)

    at_end : (id : ℕ) → id < MAX_METRICS → CounterAtEnd told id
    at_end id within =
        let is = counters.each id within in
        record {
          value = is.value;
          pending = is.pending;
          end = subst (λ (l : List CountPart). IsCounterEnd id l told.flusher told.reader is.value is.pending) counts_are is.end;
          rises = is.rises;
        }

    few : length (replay R W log).metrics ≤ MAX_METRICS
    few = subst (λ (s : State). length s.metrics ≤ MAX_METRICS) last_state (few_metrics last legal)

    all_latched : AllByRecursion (IsLatched counts told.flusher) (ids_made Counter (replay R W log))
    all_latched =
        subst (λ (l : List MetricId). AllByRecursion (IsLatched counts told.flusher) l) (deltas ∙ ap (λ (s : State). ids_made Counter s) last_state)
        (all_mapped id_of_delta (IsLatched counts told.flusher) shown.deltas
        (subst (λ (l : List CountPart). AllByRecursion (λ (d : Delta). IsLatched l told.flusher d.id) shown.deltas) counts_are counters.latched))

    flushes_shown : map (λ (f : FlushTold). f.shown) (all_flushes told) ≡ map (λ (f : FlushTold). f.shown) flusher.flushes ++ shown ∷ []
    flushes_shown = map-append (λ (f : FlushTold). f.shown) flusher.flushes (flush ∷ [])

    latched_is : (id : ℕ) → latches id told.flusher ≡ flushed id (map (λ (f : FlushTold). f.shown) (all_flushes told))
    latched_is id =
        run_grows.latches id (map (λ (f : FlushTold). f.shown) flusher.flushes) shown flusher.counters.own.steps told.flusher (fa.latched id) (are-latches shown.deltas flusher.counters)
        ∙ ap (λ (l : List FlushRecord). flushed id l) (sym flushes_shown)

    counters_account : CountersAccount (plan_told first.config told) told (report_told told log)
    counters_account = record {
      latched = latched_is;
      loaded = λ id. ra.loaded id ∙ sym (words-told log id reader.reads);
      counted = λ id within.
          let here = few in
          let same_count = ap (λ (n : ℕ). length (replay R n log).metrics) count in
          at_end id (omega (arith, within, here, same_count));
      all_latched = subst (λ (n : ℕ). AllByRecursion (IsLatched counts told.flusher) (ids_made Counter (replay R n log))) (sym count) all_latched;
    }

    log_is : IsLogOf (plan_told first.config told) told (report_told told log)
    log_is = record {
      legal = subst (λ (n : ℕ). Legal R first.config.scopes n log) (sym count) legal_log;
      last_sweep = refl;
      sweeps = store_entries;
      flushes_rise = subst IsStrictlyIncreasing (sym flush_places) (rises-more shown_at flusher.flushes shown.at below_last fa.rise);
      reads_rise = subst IsNonDecreasing (sym (map-map (λ (r : ReadRecord). r.at) (λ (r : ReadTold). r.shown) told.reads ∙ map-map (λ (r : ReadTold). r.shown.at) (told_at log) reader.reads)) ra.rise;
    }

    told_is : IsTold (plan_told first.config told) (events_told told) told (report_told told log)
    told_is = record { works = apart_own told.workers; flushes = refl; reads = refl; flush_number = refl; read_number = refl }

    accounts : StoreAccounts (plan_told first.config told) (events_told told) told (report_told told log)
    accounts = record {
      told_is = told_is;
      log_is = log_is;
      each_worker = each_account;
      each_flush = subst (λ (n : ℕ). EachNumbered (λ k f. FlushAccounts R n log (suc k == length (all_flushes told)) f) 0 (all_flushes told)) (sym count) each_flush;
      each_read = subst (λ (n : ℕ). AllByRecursion (ReadAccounts R n log) told.reads) (sym count) each_read;
      halves = each_half;
      counters = counters_account;
      words = subst (λ (l : List GaugePart). AllByRecursion (λ r. LeftBy r.id.0 l r.word) shown.gauges) (sym (map-map (λ (w : WorkerTold). w.gauges) told_at_end ended)) words;
    }

    -- nothing is pending under any number
    emptied : (id : ℕ) → id < MAX_METRICS → IsEmptied told (record { 0 = id })
    emptied id within =
        let is = at_end id within in
        let adds : AllByRecursion (AddsTo (replay R W log) id) counts =
        subst (λ (l : List CountPart). AllByRecursion (AddsTo (replay R W log) id) l) counts_are (workers_add store found.log (sweep_entry found) id 1 ended have.each by_workers) in
        let none = none_pending (replay R W log) counts told.flusher told.reader all_latched id is.value is.pending adds is.end in
        record { value = is.value; end = subst (λ (n : ℕ). IsCounterEnd id counts told.flusher told.reader is.value n) none is.end }

    pub closes : (lastflush : LastFlush) → lastflush ≡ record { last = shown; log = last.log; names = names_of last } → Closes store ended flusher reader lastflush
    closes lastflush is =
        subst (λ (l : LastFlush). Closes store ended flusher reader l) (sym (is ∙ (λ i. record { last = shown; log = (last_is i).log; names = names_of (last_is i) })))
        (record { flush = flush; shown = refl; accounts = accounts; follow = each_follows; emptied = emptied; names = refl })
