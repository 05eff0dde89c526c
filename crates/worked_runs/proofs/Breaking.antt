-- The worked report is a ledger, and the broken ones are none.
use Rattle.std.proofs.Common.{◌≡◌, ◌≢◌, ◌<◌, ℕ, zero, suc, Bool, true, false, Option, None, Some, cond, [], ◌∷◌, List, map, refl, sym, ap, ◌∙◌, arith, inl, true≢false, drop}
use Rattle.std.specs.Prelude.{◌++◌, slice_index_or}
use Rattle.std.proofs.lemmas.Cmp.{nat_eq_equiv}
use Rattle.std.proofs.lemmas.List.Elements.{All-from_recursion, recursion_from_All}
use Rattle.std.proofs.lemmas.Map.Views.{list_any-from_Contains}
use Rattle.std.specs.Fmt.{digits}
use Rattle.stat_defs.specs.declared.history.Entry.{Entry}
use Rattle.stat_defs.specs.declared.history.Call.{Call}
use Rattle.stat_defs.specs.declared.events.GaugeOp.TheVariants.{Set}
use Rattle.stat_defs.specs.declared.reports.FileEnd.TheVariants as file
use Rattle.stat_defs.specs.declared.reports.FlushRecord.{FlushRecord}
use Rattle.stat_defs.specs.declared.reports.ReadRecord.{ReadRecord}
use Rattle.stat_defs.specs.declared.reports.Part.{Part}
use Rattle.stat_defs.specs.declared.bins.BinCount.{BinCount}
use Rattle.loglinear_bins.specs.Counts.{bins_of}
use Rattle.merge_round.specs.Halves.{bins_by}
use Rattle.merge_round.specs.Rounds.{ArePartsOf, HasPart, IsBefore}
use Rattle.event_script.specs.FileEvents.{AreEventsOf}
use Rattle.book_state.specs.Follows.{Own, own, Follows}
use Rattle.book_state.specs.Log.{empty, is_sweep, Legal}
use Rattle.book_state.specs.SeatLaws.{is_end}
use Rattle.book_state.specs.Worked.{plain, root_alone}
use Rattle.ledger.specs.Ledger.{AreRead, HasHistory, Account, AreShown}
use Rattle.ledger.specs.Segments.{bins_by_worker, segments_at}
use Rattle.ledger.specs.Work.{Recording}
use Rattle.ledger.specs.Worked.{file_of}
use Rattle.ledger.proofs.Lists.{nil_cons, number_apart}
use Rattle.ledger.proofs.WorkedParts.{bins_of_7, read_whole, rec_7, inc_a, moves_g}
use Rattle.run_ledger.proofs.Accounts.{run_accounts}
use Rattle.worked_runs.proofs.Seats.{legal_with}
use Rattle.worked_runs.specs.Run.{log_of_run, plan_of_run, events_of_run, files_of_run, first_events, second_events, second_verdicts, flushes_of_run, reads_of_run, report_with, report_of_run, told_of_run, early_read, part_of, IsLedgerOfRun}
use Rattle.worked_runs.specs.Broken.{SecondAloneBroken, ThirdAloneBroken, FourthAloneBroken, FifthAloneBroken, log_without_end, end_left_out, flushes_exchanged, plan_of_more, counted_twice, part_moved, value_lost, value_fallen, place_fallen, reading_left_out, flushes_joined, plan_of_fewer, gauge_too_early, word_unset, units_made_up, delta_left_out, counter_left_out, gauge_read_too_early, place_behind_the_log, part_of_8, value_in_another_bin, beside_its_sweep, works_in}
use Rattle.worked_runs.proofs.Accounted.{two_account, three_rise, rise_by}

first_read : AreEventsOf (file_of first_events) file.Whole 0 first_events
unfolding digits
first_read = read_whole first_events (rec_7, (inc_a 3 (omega arith) refl, (moves_g Set 5 (omega arith) refl, (inc_a 2 (omega arith) refl, tt)))) refl refl

second_read : AreEventsOf (file_of second_events) file.Whole 0 second_events
unfolding digits
second_read = read_whole second_events (inc_a 4 (omega arith) refl, (rec_7, (moves_g Set 9 (omega arith) refl, tt))) refl refl

is_read : (flushes : List FlushRecord) (reads : List ReadRecord) → AreRead files_of_run events_of_run (report_with flushes reads)
is_read flushes reads = record { an_end_each = refl; verdicts_each = refl; a_verdict_each = refl; read = (first_read, (second_read, tt)); counted = (refl, (refl, tt)) }

pub ledger : IsLedgerOfRun report_of_run
ledger = run_accounts files_of_run events_of_run plan_of_run told_of_run report_of_run (is_read flushes_of_run reads_of_run) two_account

-- what another report has of the worked one
module _ (flushes : List FlushRecord) (reads : List ReadRecord) where
  same_history : HasHistory plan_of_run (works_in (report_with flushes reads)) (report_with flushes reads)
  same_history = let h = ledger.history in record { legal = h.legal; follows = h.follows }

same_account : (reads : List ReadRecord) → Account plan_of_run (works_in report_of_run) (report_with flushes_of_run reads)
same_account reads = let a = ledger.account in record { flushes = a.flushes; units = a.units; values = a.values; words = a.words }

same_shown : (flushes : List FlushRecord) → AreShown plan_of_run (works_in report_of_run) (report_with flushes reads_of_run)
same_shown flushes = let s = ledger.shown in record { number = s.number; never_falls = s.never_falls; each = s.each; rising = s.rising }

-- each flush fits at another place too, since each worker has one value
pub exchanged : ThirdAloneBroken plan_of_run flushes_exchanged
exchanged = let a = ledger.account in record {
  read = is_read _ _;
  history = same_history _ _;
  not_swept = λ swept. let low = swept.rising 0 (omega arith) in absurd (omega (arith, low));
  account = record { flushes = (a.flushes.1.0, (a.flushes.0, a.flushes.1.1)); units = a.units; values = a.values; words = a.words };
  shown = same_shown _;
}

-- no other part speaks of how many flushes were asked for
pub fewer_flushes : ThirdAloneBroken plan_of_more report_of_run
fewer_flushes = let h = ledger.history in let a = ledger.account in let s = ledger.shown in record {
  read = is_read _ _;
  history = record { legal = h.legal; follows = h.follows };
  not_swept = λ swept. let number = swept.number in absurd (omega (arith, number));
  account = record { flushes = a.flushes; units = a.units; values = a.values; words = a.words };
  shown = record { number = s.number; never_falls = s.never_falls; each = s.each; rising = s.rising };
}

-- what the joined flush took of both workers, a value of each
abbrev taken_of_both : List (List Recording)
taken_of_both = ((0, 7) ∷ []) ∷ ((0, 7) ∷ []) ∷ []

abbrev IsHeldPart : Part → Type 0
IsHeldPart part = (part.bins ≡ bins_by_worker taken_of_both part.worker part.id.0) × (part.bins ≢ [])

no_other : (id : ℕ) → bins_by ((0, 7) ∷ []) (suc id) ≡ []
no_other id = ap (λ (t : Bool). bins_of (map (λ (p : ℕ × ℕ). p.1) (cond t ((0, 7) ∷ []) []))) (number_apart 0 (suc id) (λ e. omega (arith, e)))

both_have_7 : (w id : ℕ) → bins_by_worker taken_of_both w id ≢ [] → HasPart (part_of 1 ∷ part_of 2 ∷ []) w id
both_have_7 zero id some = absurd (some refl)
both_have_7 (suc zero) zero some = (0, part_of 1, omega arith, refl, (refl, refl))
both_have_7 (suc zero) (suc id) some = absurd (some (no_other id))
both_have_7 (suc (suc zero)) zero some = (1, part_of 2, omega arith, refl, (refl, refl))
both_have_7 (suc (suc zero)) (suc id) some = absurd (some (no_other id))
both_have_7 (suc (suc (suc w))) id some = absurd (some refl)

both_parts : ArePartsOf (bins_by_worker taken_of_both) (part_of 1 ∷ part_of 2 ∷ [])
both_parts = record {
  held = All-from_recursion IsHeldPart (part_of 1 ∷ part_of 2 ∷ [])
      ((sym bins_of_7, λ e. nil_cons _ [] (sym e)), ((sym bins_of_7, λ e. nil_cons _ [] (sym e)), tt));
  whole = both_have_7;
  order = λ i j d low below. by_place i j d low below;
} where
  parts : List Part
  parts = part_of 1 ∷ part_of 2 ∷ []

  by_place : (i j : ℕ) (d : Part) → i < j → j < 2
      → IsBefore (slice_index_or parts i d).worker (slice_index_or parts i d).id.0 (slice_index_or parts j d).worker (slice_index_or parts j d).id.0
  by_place zero (suc zero) d low below = inl (omega arith)
  by_place zero zero d low below = absurd (omega (arith, low))
  by_place (suc i) zero d low below = absurd (omega (arith, low))
  by_place (suc i) (suc zero) d low below = absurd (omega (arith, low))
  by_place i (suc (suc j)) d low below = absurd (omega (arith, below))

pub joined : ThirdAloneBroken plan_of_fewer flushes_joined
joined = let h = ledger.history in let a = ledger.account in let s = ledger.shown in record {
  read = is_read _ _;
  history = record { legal = h.legal; follows = h.follows };
  not_swept = λ swept. let sweeps = swept.sweeps in absurd (omega (arith, sweeps));
  account = record {
    flushes = (record { sweep = refl; deltas = refl; gauges = refl; parts = both_parts }, (a.flushes.1.1.0, tt));
    units = (omega arith, tt);
    values = (refl, (refl, tt));
    words = a.words;
  };
  shown = record { number = s.number; never_falls = s.never_falls; each = s.each; rising = s.rising };
}

pub twice : FourthAloneBroken counted_twice
twice = record {
  read = is_read _ _;
  history = same_history _ _;
  swept = record { number = refl; sweeps = refl; rising = three_rise; ended = refl };
  no_account = λ account. let units = account.units.0 in absurd (omega (arith, units));
  shown = same_shown _;
}

pub moved : FourthAloneBroken part_moved
moved = record {
  read = is_read _ _;
  history = same_history _ _;
  swept = record { number = refl; sweeps = refl; rising = three_rise; ended = refl };
  no_account = λ account. nil_cons _ [] account.values.0;
  shown = same_shown _;
}

pub lost : FourthAloneBroken value_lost
lost = record {
  read = is_read _ _;
  history = same_history _ _;
  swept = record { number = refl; sweeps = refl; rising = three_rise; ended = refl };
  no_account = λ account. nil_cons _ [] account.values.0;
  shown = same_shown _;
}

pub early_gauge : FourthAloneBroken gauge_too_early
early_gauge = record {
  read = is_read _ _;
  history = same_history _ _;
  swept = record { number = refl; sweeps = refl; rising = three_rise; ended = refl };
  no_account = λ account. nil_cons _ [] (sym account.flushes.0.gauges);
  shown = same_shown _;
}

pub unset : FourthAloneBroken word_unset
unset = record {
  read = is_read _ _;
  history = same_history _ _;
  swept = record { number = refl; sweeps = refl; rising = three_rise; ended = refl };
  no_account = λ account. true≢false (sym (list_any-from_Contains nat_eq_equiv 4 (5 ∷ 9 ∷ []) (account.words.0.last_sets (omega arith) refl)));
  shown = same_shown _;
}

pub made_up : FifthAloneBroken units_made_up
made_up = record {
  read = is_read _ _;
  history = same_history _ _;
  swept = record { number = refl; sweeps = refl; rising = three_rise; ended = refl };
  account = same_account _;
  not_shown = λ shown. let low = shown.each.1.0.at_most.0 in absurd (omega (arith, low));
}

pub fallen : FifthAloneBroken value_fallen
fallen = record {
  read = is_read _ _;
  history = same_history _ _;
  swept = record { number = refl; sweeps = refl; rising = three_rise; ended = refl };
  account = same_account _;
  not_shown = λ shown. let low = (shown.rising 0 1 (early_read 7) (omega arith) (omega arith)).0.0 refl in absurd (omega (arith, low));
}

pub displaced : FifthAloneBroken place_fallen
displaced = record {
  read = is_read _ _;
  history = same_history _ _;
  swept = record { number = refl; sweeps = refl; rising = three_rise; ended = refl };
  account = same_account _;
  not_shown = λ shown. let low = shown.never_falls 0 1 0 (omega arith) (omega arith) in absurd (omega (arith, low));
}

pub fewer_reads : FifthAloneBroken reading_left_out
fewer_reads = record {
  read = is_read _ _;
  history = same_history _ _;
  swept = record { number = refl; sweeps = refl; rising = three_rise; ended = refl };
  account = same_account _;
  not_shown = λ shown. let number = shown.number in absurd (omega (arith, number));
}

pub without_delta : FourthAloneBroken delta_left_out
without_delta = record {
  read = is_read _ _;
  history = same_history _ _;
  swept = record { number = refl; sweeps = refl; rising = three_rise; ended = refl };
  no_account = λ account. nil_cons _ [] account.flushes.0.deltas;
  shown = same_shown _;
}

pub without_counter : FifthAloneBroken counter_left_out
without_counter = record {
  read = is_read _ _;
  history = same_history _ _;
  swept = record { number = refl; sweeps = refl; rising = three_rise; ended = refl };
  account = same_account _;
  not_shown = λ shown. nil_cons _ [] shown.each.0.counters;
}

pub gauge_early : FifthAloneBroken gauge_read_too_early
gauge_early = record {
  read = is_read _ _;
  history = same_history _ _;
  swept = record { number = refl; sweeps = refl; rising = three_rise; ended = refl };
  account = same_account _;
  not_shown = λ shown. nil_cons _ [] (sym shown.each.0.gauges);
}

pub behind_the_log : FifthAloneBroken place_behind_the_log
behind_the_log = record {
  read = is_read _ _;
  history = same_history _ _;
  swept = record { number = refl; sweeps = refl; rising = three_rise; ended = refl };
  account = same_account _;
  not_shown = λ shown. let within = shown.each.1.0.within in absurd (omega (arith, within));
}

-- the first two digits of the first bin
abbrev first_digits : List BinCount → ℕ
first_digits [] = 0
first_digits (c ∷ cs) = c.bin.val

-- the part that a flush has alone has the bins of its worker's segment
held_alone : (segs : List (List Recording)) (part : Part) → ArePartsOf (bins_by_worker segs) (part ∷ []) → part.bins ≡ bins_by_worker segs part.worker part.id.0
held_alone segs part parts =
    let held = recursion_from_All (λ (p : Part). (p.bins ≡ bins_by_worker segs p.worker p.id.0) × (p.bins ≢ [])) (part ∷ []) parts.held in
    held.0.0

pub another_bin : FourthAloneBroken value_in_another_bin
another_bin = record {
  read = is_read _ _;
  history = same_history _ _;
  swept = record { number = refl; sweeps = refl; rising = three_rise; ended = refl };
  no_account = λ account.
      let held = held_alone (segments_at 0 1 (works_in value_in_another_bin) value_in_another_bin.flushes) part_of_8 account.flushes.0.parts in
      let digits_are : 80 ≡ 70 = ap first_digits (held ∙ bins_of_7) in
      absurd (omega (arith, digits_are));
  shown = same_shown _;
}

-- whether there is a call and it sweeps
abbrev sweeps_there : Option Call → Bool
sweeps_there None = false
sweeps_there (Some c) = is_sweep c

pub beside : FourthAloneBroken beside_its_sweep
beside = record {
  read = is_read _ _;
  history = same_history _ _;
  swept = record { number = refl; sweeps = refl; rising = rise_by 4 11 (omega arith) (omega arith); ended = refl };
  no_account = λ account. true≢false (sym (ap sweeps_there account.flushes.0.sweep));
  shown = same_shown _;
}

-- whether the last of these entries is an end
abbrev ends_last : List Own → Bool
ends_last [] = false
ends_last (o ∷ []) = is_end o.call
ends_last (o ∷ (next ∷ rest)) = ends_last (next ∷ rest)

last_is : (front : List Own) (o : Own) → ends_last (front ++ o ∷ []) ≡ is_end o.call
last_is [] o = refl
last_is (x ∷ []) o = refl
last_is (x ∷ (y ∷ rest)) o = last_is (y ∷ rest) o

ends_by_an_end : (log : List Entry) → Follows plain 2 2 second_events second_verdicts log → ends_last (own plain 2 (empty 2) log) ≡ true
ends_by_an_end log h = ap ends_last h.own_are ∙ last_is h.entries h.last ∙ ap is_end h.ends

legal_without_end : Legal plain root_alone 2 log_without_end
legal_without_end = legal_with (drop 10 log_of_run) refl ((refl, tt), ((refl, refl), tt))

pub without_end : SecondAloneBroken end_left_out
without_end = let a = ledger.account in let s = ledger.shown in record {
  read = record { an_end_each = refl; verdicts_each = refl; a_verdict_each = refl; read = (first_read, (second_read, tt)); counted = (refl, (refl, tt)) };
  legal = legal_without_end;
  no_history = λ history. true≢false (sym (ends_by_an_end log_without_end history.follows.1.0));
  swept = record { number = refl; sweeps = refl; rising = rise_by 3 10 (omega arith) (omega arith); ended = refl };
  account = record {
    flushes = (
      record { sweep = refl; deltas = refl; gauges = refl; parts = a.flushes.0.parts },
      (
        record { sweep = refl; deltas = refl; gauges = refl; parts = a.flushes.1.0.parts },
        (record { sweep = refl; deltas = refl; gauges = refl; parts = a.flushes.1.1.0.parts }, tt),
      ),
    );
    units = a.units;
    values = a.values;
    words = a.words;
  };
  shown = record {
    number = s.number;
    never_falls = s.never_falls;
    each = (
      record { within = omega arith; counters = refl; gauges = refl; at_most = s.each.0.at_most },
      (record { within = omega arith; counters = refl; gauges = refl; at_most = s.each.1.0.at_most }, tt),
    );
    rising = s.rising;
  };
}
