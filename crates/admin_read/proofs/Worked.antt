-- Worked texts.
use Rattle.std.proofs.Common.{◌≡◌, ℕ, pos, negsuc, List, [], ◌∷◌, refl, codes}
use Rattle.std.specs.Fmt.{digits}
use Rattle.stat_defs.specs.declared.bins.BinCount.{BinCount}
use Rattle.stat_defs.specs.declared.metrics.Tagged.{Tagged}
use Rattle.stat_defs.specs.declared.views.HistRow.{HistRow}
use Rattle.stat_defs.specs.declared.views.FlushView.{FlushView}
use Rattle.loglinear_bins.specs.Bins.{low_thousandths, width_thousandths}
use Rattle.admin_read.specs.Admin.{admin_text}

abbrev bare : List ℕ → Tagged
bare name = record { extracted = name; tags = [] }

abbrev three_numbers : FlushView
three_numbers = record {
  counters = (record { name = codes "a.b"; tagged = bare (codes "a.b"); delta = 1; total = 1 })
      ∷ (record { name = codes "a:b"; tagged = bare (codes "a:b"); delta = 2; total = 2 }) ∷ [];
  gauges = (record { name = codes "a.b"; tagged = bare (codes "a.b"); value = negsuc 2 }) ∷ [];
  texts = [];
  histograms = [];
}

pub counter_first : admin_text three_numbers ≡ codes "a.b: 1\na.b: -3\na:b: 2\n"
unfolding digits
counter_first = refl

abbrev bin : ℕ → ℕ → ℕ → BinCount
bin val exp count = record { bin = record { val = val; exp = pos exp }; count = count }

abbrev histogram : List BinCount → List BinCount → HistRow
histogram interval cumulative = record {
  name = codes "h";
  tagged = bare (codes "h");
  interval = interval;
  cumulative = cumulative;
  bounds = [];
}

abbrev texts_and_histograms : FlushView
texts_and_histograms = record {
  counters = (record { name = codes "a"; tagged = bare (codes "a"); delta = 0; total = 0 }) ∷ [];
  gauges = [];
  texts = (record { name = codes "v"; text = codes "1.30 \"beta" }) ∷ [];
  histograms = histogram [] [] ∷ histogram [] (bin 70 0 2 ∷ bin 10 2 1 ∷ []) ∷ [];
}

pub every_kind : admin_text texts_and_histograms
    ≡ codes "v: \"1.30 \"beta\"\na: 0\nh: No recorded values\nh: P0(nan,7) P25(nan,7.05) P50(nan,7.1) P75(nan,110) P90(nan,110) P95(nan,110) P99(nan,110) P99.5(nan,110) P99.9(nan,110) P100(nan,110)\n"
unfolding digits low_thousandths width_thousandths
every_kind = refl
