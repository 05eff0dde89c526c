-- Worked cases of rows, computed from the definitions. This project's own.
use Rattle.std.specs.Prelude.{◌≡◌, ℕ, pos, List, [], ◌∷◌, ◌++◌, take, codes}
use Rattle.std.specs.List.{flat_map}
use Rattle.stat_defs.specs.declared.bins.BinCount.{BinCount}
use Rattle.stat_defs.specs.declared.bins.Bound.{Bound}
use Rattle.stat_defs.specs.declared.configs.Pattern.TheVariants.{Suffix}
use Rattle.stat_defs.specs.declared.configs.Rule.TheVariants.{Fixed}
use Rattle.stat_defs.specs.declared.events.Key.{Key}
use Rattle.stat_defs.specs.declared.history.Call.TheVariants as call
use Rattle.stat_defs.specs.declared.history.Entry.{Entry}
use Rattle.stat_defs.specs.declared.history.Reply.TheVariants as reply
use Rattle.stat_defs.specs.declared.ids.Kind.TheVariants.{Counter, Gauge, Histogram, Text}
use Rattle.stat_defs.specs.declared.ids.Mode.TheVariants.{Uninit, Never}
use Rattle.stat_defs.specs.declared.metrics.Tagged.{Tagged}
use Rattle.stat_defs.specs.declared.reports.FlushRecord.{FlushRecord}
use Rattle.stat_defs.specs.declared.reports.Part.{Part}
use Rattle.stat_defs.specs.declared.reports.Reading.{Reading}
use Rattle.stat_defs.specs.declared.views.FlushView.{FlushView}
use Rattle.tag_rules.specs.Bounds.{bounds_for}
use Rattle.tag_rules.specs.Tagging.{tagged}
use Rattle.book_state.specs.Follows.{key_in}
use Rattle.book_state.specs.Log.{openings, replay, Legal}
use Rattle.book_state.specs.Worked.{plain, root_alone, opens, makes, releases, acks, ends, sweeps}
use Rattle.ledger.specs.Worked.{delta, reading, makes_key, finds_key}
use Rattle.flush_view.specs.Views.{ViewRules, last_state, views}
use Rattle.flush_view.specs.Symbols.{live_metrics, symbol_line}
use Rattle.flush_view.specs.Worked.{plain_view, no_rows, counter_with, gauge_at}

-- a counter is gone in the first sweep, and one of its name is made behind it
abbrev pub made_again : List Entry
made_again = openings 0 root_alone
    ++ opens 1 (codes "s") (codes "t") 1
    ∷ makes 1 (codes "s") (codes "u") 0 (1 ∷ 2 ∷ [])
    ∷ releases 1 (codes "s") 1
    ∷ acks 1 1
    ∷ sweeps 1
    ∷ opens 1 (codes "s") (codes "t") 2
    ∷ makes 1 (codes "s") (codes "u") 1 (1 ∷ 2 ∷ [])
    ∷ ends 1
    ∷ sweeps 0
    ∷ []

-- the first flush has 1 unit of the counter that it makes gone, and the last so many more, and 3 of the other
abbrev pub flushes_again : ℕ → List FlushRecord
flushes_again left = record { at = 5; deltas = delta 0 1 ∷ []; gauges = []; parts = [] }
    ∷ record { at = 9; deltas = delta 0 left ∷ delta 1 3 ∷ []; gauges = []; parts = [] }
    ∷ []

abbrev pub first_again : FlushView
first_again = record no_rows { counters = counter_with (codes "t.u") 1 1 ∷ [] }

pub record GoneAndMadeAgain : Type 0 where
  pub legal : Legal plain root_alone 1 made_again
  -- a counter that is gone has a row where it has units, before the later one of its name, and else none
  pub units_left : views plain_view made_again (flushes_again 2)
      ≡ first_again
      ∷ record no_rows { counters = counter_with (codes "t.u") 2 3 ∷ counter_with (codes "t.u") 3 3 ∷ [] }
      ∷ []
  pub no_units_left : views plain_view made_again (flushes_again 0)
      ≡ first_again
      ∷ record no_rows { counters = counter_with (codes "t.u") 3 3 ∷ [] }
      ∷ []

abbrev pub sets_readout : ℕ → List ℕ → Entry
sets_readout id text = record {
  seat = 1;
  call = call.SetText (record { 0 = id }) text;
  reply = reply.TextSet;
}

abbrev pub makes_numbered : Key → ℕ → List ℕ → Entry
makes_numbered key id numbers = record {
  seat = 1;
  call = call.Find key;
  reply = reply.Made (record { 0 = id }) numbers;
}

-- a gauge is retired before the first sweep; its worker acknowledges behind it, and the second makes it gone
abbrev pub gauge_retired : List Entry
gauge_retired = openings 0 root_alone
    ++ opens 1 (codes "s") (codes "t") 1
    ∷ makes_numbered (key_in (codes "s") Gauge Never (codes "g")) 0 (1 ∷ 2 ∷ [])
    ∷ releases 1 (codes "s") 1
    ∷ sweeps 0
    ∷ acks 1 1
    ∷ sweeps 1
    ∷ ends 1
    ∷ sweeps 0
    ∷ []

abbrev pub gauge_record : ℕ → List Reading → FlushRecord
gauge_record at gauges = record { at = at; deltas = []; gauges = gauges; parts = [] }

abbrev pub flushes_of_retired : List FlushRecord
flushes_of_retired = gauge_record 4 (reading 0 5 ∷ [])
    ∷ gauge_record 6 (reading 0 5 ∷ [])
    ∷ gauge_record 8 []
    ∷ []

abbrev pub retired_shown : FlushView
retired_shown = record no_rows { gauges = gauge_at (codes "t.g") (pos 5) ∷ [] }

-- a retired gauge has a row, also in the flush whose sweep makes it gone, and none behind that
pub record RetiredShown : Type 0 where
  pub legal : Legal plain root_alone 1 gauge_retired
  pub shows : views plain_view gauge_retired flushes_of_retired ≡ retired_shown ∷ retired_shown ∷ no_rows ∷ []
  -- it has no row of symbols while it is retired
  pub no_symbol : live_metrics (replay plain 1 (take 4 gauge_retired)) ≡ []

-- a text is set before a sweep and behind it, and a histogram is made behind it
abbrev pub two_texts : List Entry
two_texts = openings 0 root_alone
    ++ makes_key 1 (key_in (codes "root") Text Uninit (codes "r")) 0 1
    ∷ sets_readout 0 (codes "x")
    ∷ sweeps 0
    ∷ makes_key 1 (key_in (codes "root") Histogram Uninit (codes "h_ms")) 1 2
    ∷ finds_key 2 (key_in (codes "root") Histogram Uninit (codes "h_ms")) 1
    ∷ sets_readout 0 (codes "y")
    ∷ ends 1
    ∷ ends 2
    ∷ sweeps 0
    ∷ []

abbrev pub bin_count : ℕ → ℕ → BinCount
bin_count val count = record { bin = record { val = val; exp = pos 0 }; count = count }

-- a part of the histogram
abbrev pub part_by : ℕ → List BinCount → Part
part_by worker bins = record { worker = worker; id = record { 0 = 1 }; bins = bins }

abbrev pub first_parts : List Part
first_parts = part_by 1 (bin_count 70 1 ∷ []) ∷ part_by 2 (bin_count 10 1 ∷ bin_count 70 2 ∷ []) ∷ []

-- both workers' values came behind the first sweep and were taken by its flush
abbrev pub flushes_with_parts : List FlushRecord
flushes_with_parts = record { at = 3; deltas = []; gauges = []; parts = first_parts }
    ∷ record { at = 9; deltas = []; gauges = []; parts = part_by 2 (bin_count 20 4 ∷ []) ∷ [] }
    ∷ []

abbrev pub one_bound : List Bound
one_bound = record { halves = 20 } ∷ []

-- one tag of a fixed value
abbrev pub region_tagged : List ℕ → Tagged
region_tagged = tagged (record { tag_name = codes "region"; rule = Fixed (codes "eu-1") } ∷ [])

-- that tag, and a bound for names that end in `_ms`
abbrev pub with_settings : ViewRules
with_settings = record {
  names = record plain { tagged = region_tagged };
  bounds = bounds_for (record { pattern = Suffix (codes "_ms"); bounds = one_bound } ∷ []);
}

abbrev pub in_region : List ℕ → Tagged
in_region name = record {
  extracted = name;
  tags = record { name = codes "region"; value = codes "eu-1" } ∷ [];
}

abbrev pub text_and_bins : List ℕ → List BinCount → List BinCount → FlushView
text_and_bins text interval cumulative = record no_rows {
  texts = record { name = codes "r"; text = text } ∷ [];
  histograms = record {
    name = codes "h_ms";
    tagged = in_region (codes "h_ms");
    interval = interval;
    cumulative = cumulative;
    bounds = one_bound;
  } ∷ [];
}

-- The first flush shows the text that was set before its sweep, and the histogram that was made behind it, as
-- it has parts of it; the parts of two workers are one sum. The last flush shows the later text, and all
-- bins, rising.
pub record TextsAndParts : Type 0 where
  pub legal : Legal with_settings.names root_alone 2 two_texts
  pub shows : views with_settings two_texts flushes_with_parts
      ≡ text_and_bins (codes "x")
      (bin_count 10 1 ∷ bin_count 70 3 ∷ []) (bin_count 10 1 ∷ bin_count 70 3 ∷ [])
      ∷ text_and_bins (codes "y")
      (bin_count 20 4 ∷ []) (bin_count 10 1 ∷ bin_count 20 4 ∷ bin_count 70 3 ∷ [])
      ∷ []

-- three kinds have one name
abbrev pub of_one_name : List Entry
of_one_name = openings 0 root_alone
    ++ makes_numbered (key_in (codes "root") Text Uninit (codes "a")) 0 (1 ∷ [])
    ∷ makes_numbered (key_in (codes "root") Gauge Never (codes "a")) 1 (1 ∷ [])
    ∷ makes_numbered (key_in (codes "root") Counter Uninit (codes "b")) 2 (2 ∷ [])
    ∷ makes_numbered (key_in (codes "root") Counter Uninit (codes "a")) 3 (1 ∷ [])
    ∷ makes_numbered (key_in (codes "root") Histogram Uninit (codes "a.b")) 4 (1 ∷ 2 ∷ [])
    ∷ ends 1
    ∷ sweeps 0
    ∷ []

abbrev pub flush_of_one_name : List FlushRecord
flush_of_one_name = record {
  at = 7;
  deltas = delta 2 5 ∷ delta 3 0 ∷ [];
  gauges = reading 1 4 ∷ [];
  parts = [];
} ∷ []

pub record NamesInOrder : Type 0 where
  pub legal : Legal plain root_alone 1 of_one_name
  -- rows stand by name; a counter without units has a row, as it is not gone
  pub counters : (shown : FlushView) → views plain_view of_one_name flush_of_one_name ≡ shown ∷ []
      → shown.counters ≡ counter_with (codes "a") 0 0 ∷ counter_with (codes "b") 5 5 ∷ []
  -- symbols stand by name, and of one name by kind
  pub symbols : flat_map symbol_line (live_metrics (last_state plain of_one_name))
      ≡ codes "a counter - 0101 1=a\n"
      ++ (codes "a gauge never 0101 1=a\n"
      ++ (codes "a text - 0101 1=a\n"
      ++ (codes "a.b histogram - 020102 1=a 2=b\n"
      ++ codes "b counter - 0102 2=b\n")))
