-- Worked views and outputs of the worked reports, computed from the definitions. This project's own.
use Rattle.std.specs.Prelude.{◌≡◌, ℕ, ℤ, pos, negsuc, ◌-◌, ◌^◌, true, false, None, Some, List, [], ◌∷◌, ◌++◌, codes}
use Rattle.stat_defs.specs.declared.bins.BinCount.{BinCount}
use Rattle.stat_defs.specs.declared.metrics.Tagged.{Tagged}
use Rattle.stat_defs.specs.declared.reports.Report.{Report}
use Rattle.stat_defs.specs.declared.views.CounterRow.{CounterRow}
use Rattle.stat_defs.specs.declared.views.FlushView.{FlushView}
use Rattle.stat_defs.specs.declared.views.GaugeRow.{GaugeRow}
use Rattle.stat_defs.specs.declared.views.HistRow.{HistRow}
use Rattle.tag_rules.specs.Bounds.{default_bounds}
use Rattle.book_state.specs.Worked.{plain}
use Rattle.ledger.specs.Worked.{of_two}
use Rattle.flush_view.specs.Views.{ViewRules, view, views}
use Rattle.flush_view.specs.Output.{ViewText, output}

-- no tags, and the default bounds
abbrev pub plain_view : ViewRules
plain_view = record { names = plain; bounds = λ name. default_bounds }

abbrev pub untagged : List ℕ → Tagged
untagged name = record { extracted = name; tags = [] }

abbrev pub counter_with : List ℕ → ℕ → ℕ → CounterRow
counter_with name delta total = record { name = name; tagged = untagged name; delta = delta; total = total }

abbrev pub gauge_at : List ℕ → ℤ → GaugeRow
gauge_at name value = record { name = name; tagged = untagged name; value = value }

abbrev pub histogram_with : List ℕ → List BinCount → List BinCount → HistRow
histogram_with name interval cumulative = record {
  name = name;
  tagged = untagged name;
  interval = interval;
  cumulative = cumulative;
  bounds = default_bounds;
}

-- one value of 7
abbrev pub one_7 : List BinCount
one_7 = record { bin = record { val = 70; exp = pos 0 }; count = 1 } ∷ []

abbrev pub no_rows : FlushView
no_rows = record { counters = []; gauges = []; texts = []; histograms = [] }

-- the one flush of a report shows this, whatever its text is, and these stand behind it: symbols where they
-- are asked for, and workers' lines
pub record IsShown (report : Report) (shown : FlushView) (symbols workers : List ℕ) : Type 0 where
  pub shows : view plain_view report.log report.flushes 0 ≡ Some shown
  pub none_behind : view plain_view report.log report.flushes 1 ≡ None
  pub written : (text : ViewText)
      → output text plain_view false report ≡ codes "# last\n" ++ (text shown ++ workers)
  pub with_symbols : (text : ViewText)
      → output text plain_view true report
      ≡ codes "# last\n" ++ (text shown ++ (codes "# symbols\n" ++ (symbols ++ workers)))

abbrev pub view_of_increments : FlushView
view_of_increments = record no_rows { counters = counter_with (codes "a") 7 7 ∷ [] }

abbrev pub view_of_subtraction : FlushView
view_of_subtraction = record no_rows { gauges = gauge_at (codes "g") (negsuc 4) ∷ [] }

-- the least signed number
abbrev pub view_of_gauge_moves : FlushView
view_of_gauge_moves = record no_rows { gauges = gauge_at (codes "g") (negsuc (2 ^ 63 - 1)) ∷ [] }

abbrev pub view_of_released : FlushView
view_of_released = record no_rows { counters = counter_with (codes "t.u") 1 1 ∷ [] }

abbrev pub view_of_shared : FlushView
view_of_shared = record no_rows { counters = counter_with (codes "cluster.c.n") 7 7 ∷ [] }

abbrev pub view_of_values_and_texts : FlushView
view_of_values_and_texts = record no_rows {
  texts = record { name = codes "t"; text = codes "all off" } ∷ [];
  histograms = histogram_with (codes "h") one_7 one_7 ∷ [];
}

abbrev pub symbols_of_values_and_texts : List ℕ
symbols_of_values_and_texts = codes "h histogram - 0101 1=h\n" ++ codes "t text - 0102 2=t\n"

abbrev pub first_of_two : FlushView
first_of_two = record no_rows { histograms = histogram_with (codes "h") one_7 one_7 ∷ [] }

abbrev pub last_of_two : FlushView
last_of_two = record {
  counters = counter_with (codes "a") 7 7 ∷ [];
  gauges = gauge_at (codes "g") (pos 9) ∷ [];
  texts = [];
  histograms = histogram_with (codes "h") [] one_7 ∷ [];
}

abbrev pub symbols_of_two : List ℕ
symbols_of_two =
    codes "a counter - 0102 2=a\n"
    ++ (codes "g gauge acc 0103 3=g\n"
    ++ codes "h histogram - 0101 1=h\n")

abbrev pub lines_of_two : List ℕ
lines_of_two = codes "# worker 1: 3 accepted, 0 dropped\n" ++ codes "# worker 2: 2 accepted, 0 dropped\n"

-- the two workers' report: the gauge stands at 9, and the reading shows 3
pub record TwoShown : Type 0 where
  pub shows : views plain_view (of_two 9 3).log (of_two 9 3).flushes ≡ first_of_two ∷ last_of_two ∷ []
  pub written : (text : ViewText) → output text plain_view false (of_two 9 3)
      ≡ codes "# flush 1\n" ++ (text first_of_two
      ++ (codes "# last\n" ++ (text last_of_two
      ++ (codes "# read 1: 1 counters, 3 units\n" ++ lines_of_two))))
  pub with_symbols : (text : ViewText) → output text plain_view true (of_two 9 3)
      ≡ codes "# flush 1\n" ++ (text first_of_two
      ++ (codes "# last\n" ++ (text last_of_two
      ++ (codes "# read 1: 1 counters, 3 units\n"
      ++ (codes "# symbols\n" ++ (symbols_of_two ++ lines_of_two))))))
