-- What the parties tell, after one call more of each.
use Rattle.std.proofs.Common.{◌≡◌, ◌==◌, ◌+◌, ℕ, cond, Bool, true, false, None, Some, List, [], ◌∷◌, ◌++◌, map, reverse, refl, ap, sym, ◌∙◌, arith, append-nil, append_assoc}
use Rattle.std.specs.Prelude.{sum_by, filter, option_to_list}
use Rattle.std.proofs.lemmas.List.{reverse-append}
use Rattle.std.proofs.lemmas.List.Concat.{flat_map-append}
use Rattle.std.proofs.lemmas.List.Sums.{sum_by-cons, sum_by_push}
use Rattle.stat_defs.specs.declared.events.Event.{Event}
use Rattle.stat_defs.specs.declared.events.Event.TheVariants as event
use Rattle.stat_defs.specs.declared.events.GaugeOp.{GaugeOp}
use Rattle.stat_defs.specs.declared.events.GaugeOp.TheVariants as op
use Rattle.stat_defs.specs.declared.history.Entry.{Entry}
use Rattle.stat_defs.specs.declared.history.Verdict.{Verdict}
use Rattle.stat_defs.specs.declared.history.Verdict.TheVariants as verdict
use Rattle.stat_defs.specs.declared.reports.Delta.{Delta}
use Rattle.stat_defs.specs.declared.reports.Reading.{Reading}
use Rattle.stat_defs.specs.declared.reports.FlushRecord.{FlushRecord}
use Rattle.metric_words.specs.declared.counter_view.CountKind.TheVariants as count
use Rattle.metric_words.specs.declared.counter_view.CountStep.{CountStep}
use Rattle.metric_words.specs.declared.gauge_view.GaugeStep.{GaugeStep}
use Rattle.metric_words.specs.Counters.{when, step_of, seconds, latches}
use Rattle.metric_words.specs.CounterLaws.{loads_of}
use Rattle.ledger.specs.Work.{Work, Recording, units_in, units_by, recording_in, recordings}
use Rattle.ledger.specs.Gauges.{GaugeMove, move_in, moves_of}
use Rattle.ledger.specs.Flushes.{delta_on, flushed_in, flushed}
use Rattle.ledger.proofs.Words.{one_option}
use Rattle.run_ledger.specs.Told.{WorkerTold, FlushTold, ReadTold, move_by, moves_made, values_in, halves_at, halves_of, words_on, words_read, words_loaded}
use Rattle.run_ledger.specs.Accounts.{DidItsWork}
use Rattle.run_ledger.specs.Grows.{Adds, kind_of, Moves, Records, Decides, Turns, Latches, Loads, RunGrows}

one_when : (b : Bool) (n : ℕ) → when b n ≡ cond b n 0
one_when true n = refl
one_when false n = refl

none_more : (old new : List CountStep) (id : ℕ) → new ≡ old → seconds id new ≡ seconds id old + 0
none_more old new id e = let same = ap (λ (l : List CountStep). seconds id l) e in omega (arith, same)

-- the adds of an event are its units
adds_units : (id : ℕ) (told : Event × Verdict) (old new : List CountStep) → Adds told old new → seconds id new ≡ seconds id old + units_in id told
adds_units id (event.Inc label name n, verdict.Accepted given) old new made =
    let same = ap (λ (l : List CountStep). seconds id l) made.2 in
    let one = one_when (given.0 == id) n in
    omega (arith, same, one)
adds_units id (event.Inc label name n, verdict.Opened given) old new made = none_more old new id made
adds_units id (event.Inc label name n, verdict.Released given) old new made = none_more old new id made
adds_units id (event.Inc label name n, verdict.LabelTaken) old new made = none_more old new id made
adds_units id (event.Inc label name n, verdict.NoScope) old new made = none_more old new id made
adds_units id (event.Inc label name n, verdict.Rejected) old new made = none_more old new id made
adds_units id (event.Inc label name n, verdict.OverLimit) old new made = none_more old new id made
adds_units id (event.Inc label name n, verdict.NoRoom) old new made = none_more old new id made
adds_units id (event.Gauge label name mode how n, v) old new made = none_more old new id made
adds_units id (event.Rec label name n, v) old new made = none_more old new id made
adds_units id (event.SetText label name text, v) old new made = none_more old new id made
adds_units id (event.OpenScope label prefix, v) old new made = none_more old new id made
adds_units id (event.Release label, v) old new made = none_more old new id made

-- the step of a gauge event is its move
same_move : (how : GaugeOp) (n : ℕ) → move_by (kind_of how) n ≡ (how, n) ∷ []
same_move op.Add n = refl
same_move op.Sub n = refl
same_move op.Set n = refl

one_move : (b : Bool) (how : GaugeOp) (n : ℕ) → cond b (move_by (kind_of how) n) [] ≡ option_to_list (cond b (Some (how, n)) None)
one_move true how n = same_move how n
one_move false how n = refl

no_move : (id : ℕ) (old new : List GaugeStep) → new ≡ old → moves_made id new ≡ moves_made id old ++ []
no_move id old new e = ap (λ (l : List GaugeStep). moves_made id l) e ∙ sym (append-nil (moves_made id old))

moves_on : (id : ℕ) (told : Event × Verdict) (old new : List GaugeStep) → Moves told old new → moves_made id new ≡ moves_made id old ++ option_to_list (move_in id told)
moves_on id (event.Gauge label name mode how n, verdict.Accepted given) old new made =
    ap (λ (l : List GaugeStep). moves_made id l) made.1 ∙ ap (λ (l : List GaugeMove). moves_made id old ++ l) (one_move (given.0 == id) how n)
moves_on id (event.Gauge label name mode how n, verdict.Opened given) old new made = no_move id old new made
moves_on id (event.Gauge label name mode how n, verdict.Released given) old new made = no_move id old new made
moves_on id (event.Gauge label name mode how n, verdict.LabelTaken) old new made = no_move id old new made
moves_on id (event.Gauge label name mode how n, verdict.NoScope) old new made = no_move id old new made
moves_on id (event.Gauge label name mode how n, verdict.Rejected) old new made = no_move id old new made
moves_on id (event.Gauge label name mode how n, verdict.OverLimit) old new made = no_move id old new made
moves_on id (event.Gauge label name mode how n, verdict.NoRoom) old new made = no_move id old new made
moves_on id (event.Inc label name n, v) old new made = no_move id old new made
moves_on id (event.Rec label name n, v) old new made = no_move id old new made
moves_on id (event.SetText label name text, v) old new made = no_move id old new made
moves_on id (event.OpenScope label prefix, v) old new made = no_move id old new made
moves_on id (event.Release label, v) old new made = no_move id old new made

-- a recording goes to the end of the active half
no_value : (old new : List Recording) → new ≡ old → new ≡ old ++ []
no_value old new e = e ∙ sym (append-nil old)

records_on : (told : Event × Verdict) (old new : List Recording) → Records told old new → new ≡ old ++ option_to_list (recording_in told)
records_on (event.Rec label name v, verdict.Accepted given) old new made = made
records_on (event.Rec label name v, verdict.Opened given) old new made = no_value old new made
records_on (event.Rec label name v, verdict.Released given) old new made = no_value old new made
records_on (event.Rec label name v, verdict.LabelTaken) old new made = no_value old new made
records_on (event.Rec label name v, verdict.NoScope) old new made = no_value old new made
records_on (event.Rec label name v, verdict.Rejected) old new made = no_value old new made
records_on (event.Rec label name v, verdict.OverLimit) old new made = no_value old new made
records_on (event.Rec label name v, verdict.NoRoom) old new made = no_value old new made
records_on (event.Inc label name n, v) old new made = no_value old new made
records_on (event.Gauge label name mode how n, v) old new made = no_value old new made
records_on (event.SetText label name text, v) old new made = no_value old new made
records_on (event.OpenScope label prefix, v) old new made = no_value old new made
records_on (event.Release label, v) old new made = no_value old new made

values_pushed : (turned : List (List Recording)) (last : List Recording) → values_in (turned ++ last ∷ []) ≡ values_in turned ++ last
values_pushed turned last = flat_map-append (λ (half : List Recording). half) turned (last ∷ []) ∙ ap (λ (l : List Recording). values_in turned ++ l) (append-nil last)

module _ (old : WorkerTold) (told : Event × Verdict) (new : WorkerTold) (did : DidItsWork old) (is : Decides old told new) where
  decided : DidItsWork new
  decided = record {
    adds = λ id.
        let one = adds_units id told old.counts.steps new.counts.steps is.adds in
        let before = did.adds id in
        let whole = sum_by_push (units_in id) old.work told in
        let work = ap (λ (l : Work). units_by id l) is.work in
        omega (arith, one, before, whole, work);
    moves = λ id.
        moves_on id told old.gauges.steps new.gauges.steps is.moves
        ∙ ap (λ (l : List GaugeMove). l ++ option_to_list (move_in id told)) (did.moves id)
        ∙ sym (one_option (move_in id) old.work told)
        ∙ ap (λ (l : Work). moves_of id l) (sym is.work);
    values = ap (λ (l : List (List Recording)). values_in (l ++ new.active ∷ [])) is.turned
        ∙ values_pushed old.turned new.active
        ∙ ap (λ (l : List Recording). values_in old.turned ++ l) (records_on told old.active new.active is.records)
        ∙ sym (append_assoc (values_in old.turned) old.active (option_to_list (recording_in told)))
        ∙ ap (λ (l : List Recording). l ++ option_to_list (recording_in told)) (sym (values_pushed old.turned old.active) ∙ did.values)
        ∙ sym (one_option recording_in old.work told)
        ∙ ap recordings (sym is.work);
  }

turned : (old new : WorkerTold) → DidItsWork old → Turns old new → DidItsWork new
turned old new did is = record {
  adds = λ id. ap (λ (l : List CountStep). seconds id l) is.counts ∙ did.adds id ∙ ap (λ (l : Work). units_by id l) (sym is.work);
  moves = λ id. ap (λ (l : List GaugeStep). moves_made id l) is.gauges ∙ did.moves id ∙ ap (λ (l : Work). moves_of id l) (sym is.work);
  values = ap (λ (l : List Recording). values_in (new.turned ++ l ∷ [])) is.active
      ∙ ap (λ (l : List (List Recording)). values_in (l ++ [] ∷ [])) is.turned
      ∙ values_pushed (old.turned ++ old.active ∷ []) []
      ∙ append-nil (values_in (old.turned ++ old.active ∷ []))
      ∙ did.values
      ∙ ap recordings (sym is.work);
}

latches_on : (id : ℕ) (deltas : List Delta) (old new : List CountStep) → Latches deltas old new → latches id new ≡ latches id old + sum_by (delta_on id) deltas
latches_on id [] old new made = let same = ap (λ (l : List CountStep). latches id l) made in omega (arith, same)
latches_on id (d ∷ ds) old new made =
    let rest = latches_on id ds (step_of count.Latch d.id.0 0 d.n ∷ old) new made in
    let one = one_when (d.id.0 == id) d.n in
    let whole = sum_by-cons (delta_on id) d ds in
    omega (arith, rest, one, whole)

latched : (id : ℕ) (flushes : List FlushRecord) (flush : FlushRecord) (old new : List CountStep) → latches id old ≡ flushed id flushes → Latches flush.deltas old new
    → latches id new ≡ flushed id (flushes ++ flush ∷ [])
latched id flushes flush old new before made =
    let one = latches_on id flush.deltas old new made in
    let whole = sum_by_push (flushed_in id) flushes flush in
    omega (arith, one, before, whole)

one_word : (id : ℕ) (r : Reading) (steps : List CountStep) → words_loaded id (step_of count.Load r.id.0 0 r.word ∷ steps) ≡ words_loaded id steps ++ words_on id (r ∷ [])
one_word id r steps = by_case (r.id.0 == id) where
  by_case : (b : Bool) → reverse (cond b (r.word ∷ loads_of id steps) (loads_of id steps)) ≡ words_loaded id steps ++ map (λ (x : Reading). x.word) (cond b (r ∷ []) [])
  by_case true = reverse-append (r.word ∷ []) (loads_of id steps)
  by_case false = sym (append-nil (words_loaded id steps))

words_pushed : (id : ℕ) (r : Reading) (rs : List Reading) → words_on id (r ∷ rs) ≡ words_on id (r ∷ []) ++ words_on id rs
words_pushed id r rs = by_case (r.id.0 == id) where
  by_case : (b : Bool) → map (λ (x : Reading). x.word) (cond b (r ∷ filter (λ x. x.id.0 == id) rs) (filter (λ x. x.id.0 == id) rs)) ≡ map (λ (x : Reading). x.word) (cond b (r ∷ []) []) ++ words_on id rs
  by_case true = refl
  by_case false = refl

loads_on : (id : ℕ) (readings : List Reading) (old new : List CountStep) → Loads readings old new → words_loaded id new ≡ words_loaded id old ++ words_on id readings
loads_on id [] old new made = ap (λ (l : List CountStep). words_loaded id l) made ∙ sym (append-nil (words_loaded id old))
loads_on id (r ∷ rs) old new made =
    loads_on id rs (step_of count.Load r.id.0 0 r.word ∷ old) new made
    ∙ ap (λ (l : List ℕ). l ++ words_on id rs) (one_word id r old)
    ∙ append_assoc (words_loaded id old) (words_on id (r ∷ [])) (words_on id rs)
    ∙ ap (λ (l : List ℕ). words_loaded id old ++ l) (sym (words_pushed id r rs))

loaded : (id : ℕ) (reads : List ReadTold) (read : ReadTold) (old new : List CountStep) → words_loaded id old ≡ words_read id reads → Loads read.shown.counters old new
    → words_loaded id new ≡ words_read id (reads ++ read ∷ [])
loaded id reads read old new before made =
    loads_on id read.shown.counters old new made
    ∙ ap (λ (l : List ℕ). l ++ words_on id read.shown.counters) before
    ∙ ap (λ (l : List ℕ). words_read id reads ++ l) (sym (append-nil (words_on id read.shown.counters)))
    ∙ sym (flat_map-append (λ (r : ReadTold). words_on id r.shown.counters) reads (read ∷ []))

more_halves : (w : ℕ) (flushes : List FlushTold) (flush : FlushTold) → halves_of w (flushes ++ flush ∷ []) ≡ halves_of w flushes ++ halves_at flush.halves w
more_halves w flushes flush =
    flat_map-append (λ (f : FlushTold). halves_at f.halves w) flushes (flush ∷ [])
    ∙ ap (λ (l : List (List Recording)). halves_of w flushes ++ l) (append-nil (halves_at flush.halves w))

pub run_grows : RunGrows
run_grows = record {
  event = λ old told new did is. decided old told new did is;
  turn = turned;
  latches = latched;
  halves = more_halves;
  loads = loaded;
  flush = λ rules workers log more flush is. record {
    behind = is.behind ++ more;
    whole = ap (λ (l : List Entry). l ++ more) is.whole ∙ append_assoc flush.found (flush.sweep ∷ is.behind) more;
    at = is.at;
    sweep = is.sweep;
    counters = is.counters;
    gauges = is.gauges;
    each = is.each;
    parts = is.parts;
  };
  read = λ rules workers log more read is. record {
    behind = is.behind ++ more;
    whole = ap (λ (l : List Entry). l ++ more) is.whole ∙ append_assoc read.found is.behind more;
    at = is.at;
    counters = is.counters;
    gauges = is.gauges;
  };
}
