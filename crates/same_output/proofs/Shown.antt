-- What the last flush of a report of independent files shows, by name.
use Rattle.std.proofs.Common.{◌≡◌, ◌&&◌, ◌||◌, ◌+◌, ◌<◌, ◌^◌, append-nil, ℕ, zero, suc, cond, not, Bool, true, false, Option, Some, List, [], ◌∷◌, ◌++◌, map, length, take, slice_get, refl, ap, sym, ◌∙◌, subst, arith}
use Rattle.std.specs.Prelude.{sum_by, option_map, nat_lt}
use Rattle.std.specs.Option.{option_map_or}
use Rattle.std.specs.List.{AllByRecursion, flat_map, list_any}
use Rattle.std.proofs.lemmas.List.Sums.{sum_by-cons}
use Rattle.stat_defs.specs.declared.bins.Bound.{Bound}
use Rattle.stat_defs.specs.declared.events.Event.{Event}
use Rattle.stat_defs.specs.declared.ids.Kind.{Kind}
use Rattle.stat_defs.specs.declared.ids.Kind.TheVariants.{Counter, Gauge, Histogram}
use Rattle.stat_defs.specs.declared.ids.MetricId.{MetricId}
use Rattle.stat_defs.specs.declared.metrics.Life.{Life}
use Rattle.stat_defs.specs.declared.metrics.Life.TheVariants.{Live}
use Rattle.stat_defs.specs.declared.metrics.Metric.{Metric}
use Rattle.stat_defs.specs.declared.reports.FlushRecord.{FlushRecord}
use Rattle.stat_defs.specs.declared.reports.Report.{Report}
use Rattle.stat_defs.specs.declared.reports.Reading.{Reading}
use Rattle.stat_defs.specs.declared.views.CounterRow.{CounterRow}
use Rattle.stat_defs.specs.declared.views.GaugeRow.{GaugeRow}
use Rattle.std.specs.Int.{w64, cast_signed}
use Rattle.stat_defs.specs.Keys.{same_kind}
use Rattle.book_state.specs.State.{Row, State, is_gone, metrics_of, ids_from}
use Rattle.book_state.specs.Log.{replay}
use Rattle.book_state.proofs.Lists.{not_some, some_same, get_map}
use Rattle.ledger.specs.Flushes.{Fits, ids_not_gone, id_of_reading, flushed, flushed_in}
use Rattle.ledger.specs.Gauges.{word_of_moves, GaugeFits}
use Rattle.ledger.specs.Lists.{OfLast}
use Rattle.ledger.specs.Readings.{word_on}
use Rattle.ledger.specs.Segments.{segments_at}
use Rattle.ledger.specs.Ledger.{RunPlan, IsReportOf}
use Rattle.ledger.specs.Work.{Work, events_in, recordings, units_of}
use Rattle.ledger.specs.OneReport.{is_not_gone}
use Rattle.flush_view.specs.ByName.{by_name}
use Rattle.flush_view.specs.Views.{state_before, last_state, has_not_gone, has_counter_row, counter_row, gauge_row, metrics_shown, view_of, has_histogram_row, histogram_row, merged_parts, parts_on, is_part_on}
use Rattle.flush_view.proofs.Ends.{ends_of_workers}
use Rattle.all_accepted.specs.Admitted.{NamedKind}
use Rattle.same_output.specs.Independent.{AreIndependent}
use Rattle.all_accepted.proofs.InLists.{In}
use Rattle.all_accepted.proofs.States.{pair_of, pairs_in, same_kind_is}
use Rattle.all_accepted.proofs.Accepted.{EventFits}
use Rattle.all_accepted.proofs.Named.{all_hit}
use Rattle.all_accepted.proofs.Tight.{all_events}
use Rattle.same_output.proofs.Sorting.{itself}
use Rattle.all_accepted.proofs.Runs.{IsSettledReport, settled_report, fits_last}
use Rattle.same_output.proofs.Rows.{rows_by_name, names_shown}
use Rattle.same_output.proofs.Tags.{all_get, all_tags, HasTags}
use Rattle.same_output.proofs.Moves.{Lonely, moves_named, word_is}
use Rattle.same_output.proofs.Readings.{word_read}
use Rattle.same_output.proofs.Values.{values_named, works_values}
use Rattle.merge_round.specs.Halves.{values_on}
use Rattle.loglinear_bins.specs.Counts.{count_of, bins_of}
use Rattle.loglinear_bins.proofs.Values.{AreBinsOf-bins_of, IsBinList-bins_of}
use Rattle.std.proofs.lemmas.List.Elements.{All-from_recursion}
use Rattle.stat_defs.specs.declared.reports.Part.{Part}
use Rattle.stat_defs.specs.declared.views.HistRow.{HistRow}
use Rattle.flush_view.specs.Showing.{HasLawfulParts}
use Rattle.flush_view.proofs.BinsShown.{flush_lawful}
use Rattle.flush_view.proofs.Cumulative.{cumulative}
use Rattle.flush_view.proofs.Intervals.{count_in}
use Rattle.flush_view.proofs.LawfulParts.{lawful_parts, segments_fit}
use Rattle.flush_view.proofs.Recorded.{LawfulWork, all_values_fit}
use Rattle.loglinear_bins.proofs.MergedBins.{sums_rise}
use Rattle.loglinear_bins.proofs.SameBins.{same_bins}
use Rattle.same_output.proofs.Units.{Hits, units_named, works_units}
use Rattle.all_accepted.proofs.Members.{IsUsed}

-- what holds of the numbers of some metrics holds at each such metric
pub at_each : (holds : Metric → Bool) (P : ℕ → Type 0) (n : ℕ) (metrics : List Metric) → AllByRecursion (λ (i : MetricId). P i.0) (ids_from holds n metrics)
    → (j k : ℕ) (m : Metric) → k ≡ n + j → slice_get metrics j ≡ Some m → holds m ≡ true → P k
at_each holds P n [] held j k m at there is = absurd (not_some m there)
at_each holds P n (x ∷ metrics) held zero k m at there is =
    let here : holds x ≡ true = ap holds (some_same x m there) ∙ is in
    let rest : List MetricId = ids_from holds (n + 1) metrics in
    let own = subst (λ (b : Bool). AllByRecursion (λ (i : MetricId). P i.0) (cond b (record { 0 = n } ∷ rest) rest)) here held in
    subst P (omega (arith, at)) own.0
at_each holds P n (x ∷ metrics) held (suc j) k m at there is =
    at_each holds P (n + 1) metrics (by_case (holds x) held) j k m (omega (arith, at)) there is where
      by_case : (b : Bool) → AllByRecursion (λ (i : MetricId). P i.0) (cond b (record { 0 = n } ∷ ids_from holds (n + 1) metrics) (ids_from holds (n + 1) metrics))
          → AllByRecursion (λ (i : MetricId). P i.0) (ids_from holds (n + 1) metrics)
      by_case true all = all.1
      by_case false all = all

-- the row of a counter of this name
abbrev pub counter_named : RunPlan → List Event → List ℕ → CounterRow
counter_named plan es z = record {
  name = z;
  tagged = plan.rules.tagged z;
  delta = units_named plan (Counter, z) es;
  total = units_named plan (Counter, z) es;
}

-- the row of a gauge of this name
abbrev pub gauge_named : RunPlan → List Event → List ℕ → GaugeRow
gauge_named plan es z = record {
  name = z;
  tagged = plan.rules.tagged z;
  value = cast_signed w64 (word_of_moves (moves_named plan (Gauge, z) es));
}

-- the row of a histogram of this name
abbrev pub histogram_named : RunPlan → (List ℕ → List Bound) → List Event → List ℕ → HistRow
histogram_named plan bounds es z = record {
  name = z;
  tagged = plan.rules.tagged z;
  interval = bins_of (values_named plan (Histogram, z) es);
  cumulative = bins_of (values_named plan (Histogram, z) es);
  bounds = bounds z;
}

-- a segment of each worker
as_many : (k w : ℕ) (works : List Work) (flushes : List FlushRecord) → length (segments_at k w works flushes) ≡ length works
as_many k w [] flushes = refl
as_many k w (work ∷ works) flushes = ap suc (as_many k (suc w) works flushes)

module _ (plan : RunPlan) (events : List (List Event)) (free : AreIndependent plan events) (from : (n : NamedKind) → In free.room.names n → IsUsed plan events free.room (all_events events) n)
    (contents : List (Option (List ℕ))) (works : List Work) (report : Report) (is : IsReportOf contents events plan works report)
    (fits : AllByRecursion (λ (work : Work). AllByRecursion (EventFits plan events free.room) (events_in work)) works)
    (flat : flat_map events_in works ≡ all_events events) where
  pub p : IsSettledReport plan events free.room works report
  p = settled_report plan events free.room contents works report is fits free.no_flush

  abbrev pub book : State
  book = replay plan.rules (length works) report.log

  abbrev pub before : State
  before = state_before plan.rules report.log p.flush

  pub last_is : last_state plan.rules report.log ≡ book
  last_is = ap (λ (k : ℕ). replay plan.rules k report.log) (ends_of_workers plan works report is.history)

  pub before_is : before ≡ book
  before_is = ap (λ (k : ℕ). replay plan.rules k (take p.flush.at report.log)) (ends_of_workers plan works report is.history) ∙ p.same

  pub not_gone : (id : ℕ) (row : Row) → slice_get book.metrics id ≡ Some row → has_not_gone before id ≡ true
  not_gone id row there =
      ap (λ (s : State). option_map_or is_not_gone (slice_get s.metrics id) false) before_is
      ∙ ap (λ (o : Option Row). option_map_or is_not_gone o false) there
      ∙ ap (λ (l : Life). not (is_gone l)) (all_get (λ (r : Row). r.metric.life ≡ Live) book.metrics id row p.state.lives there)

  pub pair_at : (kind : Kind) (id : ℕ) (row : Row) → slice_get book.metrics id ≡ Some row → same_kind row.metric.kind kind ≡ true → slice_get (pairs_in book) id ≡ Some (kind, row.metric.name)
  pair_at kind id row there is =
      let is_kind = same_kind_is row.metric.kind kind is in
      get_map pair_of book.metrics id ∙ ap (λ (o : Option Row). option_map pair_of o) there ∙ (λ i. Some (is_kind i, row.metric.name))

  pub hits : (id : ℕ) (n : NamedKind) → slice_get (pairs_in book) id ≡ Some n → AllByRecursion (Hits plan id n) works
  hits id n at = all_hit plan events free.room (pairs_in book) p.state.once id n at works p.named p.taken

  pub tags_at : (id : ℕ) (row : Row) → slice_get book.metrics id ≡ Some row → row.metric.tagged ≡ plan.rules.tagged row.metric.name
  tags_at id row there = all_get (HasTags plan.rules) book.metrics id row (all_tags plan.rules (length works) report.log) there

  metric_at : (id : ℕ) (row : Row) → slice_get book.metrics id ≡ Some row → slice_get (metrics_of book) id ≡ Some row.metric
  metric_at id row there = get_map (λ (r : Row). r.metric) book.metrics id ∙ ap (λ (o : Option Row). option_map (λ (r : Row). r.metric) o) there

  -- the units of a counter are those of the events that name it
  units_are : (id : ℕ) (row : Row) → slice_get book.metrics id ≡ Some row → same_kind row.metric.kind Counter ≡ true
      → flushed id (p.flush ∷ []) ≡ units_named plan (Counter, row.metric.name) (all_events events)
  units_are id row there is_counter =
      ap (λ (l : List FlushRecord). flushed id l) (sym p.flushes)
      ∙ at_each (λ (m : Metric). same_kind m.kind Counter) (λ (k : ℕ). flushed k report.flushes ≡ units_of k works) 0 (metrics_of book) is.account.units id id row.metric (omega arith) (metric_at id row there) is_counter
      ∙ works_units plan id (Counter, row.metric.name) works (hits id (Counter, row.metric.name) (pair_at Counter id row there is_counter))
      ∙ ap (λ (es : List Event). units_named plan (Counter, row.metric.name) es) flat

  counter_is : (id : ℕ) (row : Row) → slice_get book.metrics id ≡ Some row → same_kind row.metric.kind Counter ≡ true
      → counter_row p.flush (p.flush ∷ []) (id, row.metric) ≡ counter_named plan (all_events events) row.metric.name
  counter_is id row there is_counter =
      let total = units_are id row there is_counter in
      let one = sum_by-cons (flushed_in id) p.flush [] in
      let delta : flushed_in id p.flush ≡ units_named plan (Counter, row.metric.name) (all_events events) = omega (arith, total, one) in
      let tags = tags_at id row there in
      λ i. record { name = row.metric.name; tagged = tags i; delta = delta i; total = total i }

  pub counter_passes : (id : ℕ) (row : Row) → slice_get book.metrics id ≡ Some row → has_counter_row before p.flush id ≡ true
  counter_passes id row there = ap (λ (t : Bool). t || nat_lt 0 (flushed_in id p.flush)) (not_gone id row there)

  pub counters : (bounds : List ℕ → List Bound) → (view_of (record { names = plan.rules; bounds = bounds }) report.log p.flush (p.flush ∷ [])).counters
      ≡ map (counter_named plan (all_events events)) (by_name itself (names_shown Counter (has_counter_row before p.flush) book))
  counters bounds =
      ap (λ (s : State). map (counter_row p.flush (p.flush ∷ [])) (metrics_shown Counter (has_counter_row before p.flush) s)) last_is
      ∙ rows_by_name Counter (has_counter_row before p.flush) (counter_row p.flush (p.flush ∷ [])) (counter_named plan (all_events events)) book counter_is

  pub fits_flush : Fits plan.rules report.log true (segments_at 0 1 works (p.flush ∷ [])) p.flush
  fits_flush = fits_last plan events free.room contents works report is fits p.flush p.flushes

  -- histograms
  module _ (lawful : AllByRecursion LawfulWork works) where
    parts_lawful : HasLawfulParts p.flush
    parts_lawful = lawful_parts (segments_at 0 1 works (p.flush ∷ [])) (segments_fit 0 1 works (p.flush ∷ []) lawful) p.flush fits_flush.parts

    bins_are : (id : ℕ) (row : Row) → slice_get book.metrics id ≡ Some row → same_kind row.metric.kind Histogram ≡ true
        → merged_parts (parts_on id p.flush) ≡ bins_of (values_named plan (Histogram, row.metric.name) (all_events events))
    bins_are id row there is_histogram =
        let n : NamedKind = (Histogram, row.metric.name) in
        let values : List ℕ = values_named plan n (all_events events) in
        let all : flat_map (λ (work : Work). values_on id (recordings work)) works ≡ values =
        works_values plan id n works (hits id n (pair_at Histogram id row there is_histogram)) ∙ ap (λ (es : List Event). values_named plan n es) flat in
        let small = subst (λ (vs : List ℕ). AllByRecursion (λ (v : ℕ). v < 2 ^ 64) vs) all (all_values_fit id works lawful) in
        let alone : flat_map (parts_on id) report.flushes ≡ parts_on id p.flush = ap (λ (l : List FlushRecord). flat_map (parts_on id) l) p.flushes ∙ append-nil (parts_on id p.flush) in
        same_bins (merged_parts (parts_on id p.flush)) (bins_of values)
        (sums_rise (parts_on id p.flush) (flush_lawful id p.flush parts_lawful))
        (IsBinList-bins_of values (All-from_recursion (λ (v : ℕ). v < 2 ^ 64) values small))
        (λ bin.
        ap (λ (parts : List Part). count_of (merged_parts parts) bin) (sym alone)
        ∙ cumulative id bin plan works report is.account
        ∙ ap (λ (vs : List ℕ). count_in bin vs) all
        ∙ sym ((AreBinsOf-bins_of values).each bin))

    histogram_is : (bounds : List ℕ → List Bound) (id : ℕ) (row : Row) → slice_get book.metrics id ≡ Some row → same_kind row.metric.kind Histogram ≡ true
        → histogram_row bounds p.flush (p.flush ∷ []) (id, row.metric) ≡ histogram_named plan bounds (all_events events) row.metric.name
    histogram_is bounds id row there is_histogram =
        let bins = bins_are id row there is_histogram in
        let all = ap (λ (parts : List Part). merged_parts parts) (append-nil (parts_on id p.flush)) ∙ bins in
        let tags = tags_at id row there in
        λ i. record { name = row.metric.name; tagged = tags i; interval = bins i; cumulative = all i; bounds = bounds row.metric.name }

    pub histograms : (bounds : List ℕ → List Bound) → (view_of (record { names = plan.rules; bounds = bounds }) report.log p.flush (p.flush ∷ [])).histograms
        ≡ map (histogram_named plan bounds (all_events events)) (by_name itself (names_shown Histogram (has_histogram_row before p.flush) book))
    histograms bounds =
        ap (λ (s : State). map (histogram_row bounds p.flush (p.flush ∷ [])) (metrics_shown Histogram (has_histogram_row before p.flush) s)) last_is
        ∙ rows_by_name Histogram (has_histogram_row before p.flush) (histogram_row bounds p.flush (p.flush ∷ [])) (histogram_named plan bounds (all_events events)) book (histogram_is bounds)

  pub histogram_passes : (id : ℕ) (row : Row) → slice_get book.metrics id ≡ Some row → has_histogram_row before p.flush id ≡ true
  histogram_passes id row there = ap (λ (t : Bool). t || list_any (is_part_on id) p.flush.parts) (not_gone id row there)

  -- gauges
  module _ (alone : Lonely plan (map events_in works)) where
    gauges_read : map id_of_reading p.flush.gauges ≡ ids_not_gone Gauge book
    gauges_read =
        fits_flush.gauges
        ∙ ap (λ (k : ℕ). ids_not_gone Gauge (replay plan.rules k (take p.flush.at report.log))) (as_many 0 1 works (p.flush ∷ []))
        ∙ ap (λ (s : State). ids_not_gone Gauge s) p.same

    words_fit : AllByRecursion (λ (r : Reading). GaugeFits r.id.0 r.word works) p.flush.gauges
    words_fit = subst (λ (l : List FlushRecord). OfLast (λ last. AllByRecursion (λ (r : Reading). GaugeFits r.id.0 r.word works) last.gauges) l) p.flushes is.account.words

    gauge_word_is : (id : ℕ) (row : Row) → slice_get book.metrics id ≡ Some row → same_kind row.metric.kind Gauge ≡ true
        → sum_by (word_on id) p.flush.gauges ≡ word_of_moves (moves_named plan (Gauge, row.metric.name) (all_events events))
    gauge_word_is id row there is_gauge =
        let n : NamedKind = (Gauge, row.metric.name) in
        let hit = hits id n (pair_at Gauge id row there is_gauge) in
        let lists : flat_map (λ (es : List Event). es) (map events_in works) ≡ all_events events = flat_mapped works ∙ flat in
        let word : ℕ = word_of_moves (moves_named plan n (all_events events)) in
        let live : is_gone row.metric.life ≡ false = ap is_gone (all_get (λ (r : Row). r.metric.life ≡ Live) book.metrics id row p.state.lives there) in
        let passes : (same_kind row.metric.kind Gauge && not (is_gone row.metric.life)) ≡ true = ap (λ (t : Bool). t && not (is_gone row.metric.life)) is_gauge ∙ ap not live in
        word_read id (λ (m : Metric). same_kind m.kind Gauge && not (is_gone m.life)) (metrics_of book) row.metric word p.flush.gauges gauges_read (metric_at id row there) passes
        (each p.flush.gauges words_fit (λ r own fit. word_is plan id n r.word works hit refl alone (subst (λ (k : ℕ). GaugeFits k r.word works) own fit) ∙ ap (λ (es : List Event). word_of_moves (moves_named plan n es)) lists)) where
          each : (rs : List Reading) → AllByRecursion (λ (r : Reading). GaugeFits r.id.0 r.word works) rs
              → ((r : Reading) → r.id.0 ≡ id → GaugeFits r.id.0 r.word works → r.word ≡ word_of_moves (moves_named plan (Gauge, row.metric.name) (all_events events)))
              → AllByRecursion (λ (r : Reading). r.id.0 ≡ id → r.word ≡ word_of_moves (moves_named plan (Gauge, row.metric.name) (all_events events))) rs
          each [] all one = tt
          each (r ∷ rs) all one = ((λ own. one r own all.0), each rs all.1 one)

          flat_mapped : (ws : List Work) → flat_map (λ (es : List Event). es) (map events_in ws) ≡ flat_map events_in ws
          flat_mapped [] = refl
          flat_mapped (w ∷ ws) = ap (λ (es : List Event). events_in w ++ es) (flat_mapped ws)

    gauge_is : (id : ℕ) (row : Row) → slice_get book.metrics id ≡ Some row → same_kind row.metric.kind Gauge ≡ true → gauge_row p.flush (id, row.metric) ≡ gauge_named plan (all_events events) row.metric.name
    gauge_is id row there is_gauge =
        let word = gauge_word_is id row there is_gauge in
        let tags = tags_at id row there in
        λ i. record { name = row.metric.name; tagged = tags i; value = cast_signed w64 (word i) }

    pub gauges : (bounds : List ℕ → List Bound) → (view_of (record { names = plan.rules; bounds = bounds }) report.log p.flush (p.flush ∷ [])).gauges
        ≡ map (gauge_named plan (all_events events)) (by_name itself (names_shown Gauge (has_not_gone before) book))
    gauges bounds =
        ap (λ (s : State). map (gauge_row p.flush) (metrics_shown Gauge (has_not_gone before) s)) last_is
        ∙ rows_by_name Gauge (has_not_gone before) (gauge_row p.flush) (gauge_named plan (all_events events)) book gauge_is
