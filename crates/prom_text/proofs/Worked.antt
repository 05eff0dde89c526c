-- Worked texts.
use Rattle.std.proofs.Common.{◌≡◌, ℕ, pos, negsuc, List, [], ◌∷◌, refl, codes}
use Rattle.stat_defs.specs.declared.bins.BinCount.{BinCount}
use Rattle.stat_defs.specs.declared.bins.Bound.{Bound}
use Rattle.stat_defs.specs.declared.metrics.Tag.{Tag}
use Rattle.stat_defs.specs.declared.metrics.Tagged.{Tagged}
use Rattle.stat_defs.specs.declared.views.FlushView.{FlushView}
use Rattle.std.specs.Fmt.{digits}
use Rattle.loglinear_bins.specs.Bins.{largest_whole, mark_twentieths}
use Rattle.prom_text.specs.Labels.{label}
use Rattle.prom_text.specs.Prometheus.{prom_text}

abbrev bare : List ℕ → Tagged
bare name = record { extracted = name; tags = [] }

abbrev tag : List ℕ → List ℕ → Tag
tag name value = record { name = name; value = value }

abbrev two_counters : FlushView
two_counters = record {
  counters = (record { name = codes "a.b"; tagged = bare (codes "a.b"); delta = 1; total = 1 })
      ∷ (record { name = codes "a:b"; tagged = bare (codes "a:b"); delta = 2; total = 2 }) ∷ [];
  gauges = (record { name = codes "a.b"; tagged = bare (codes "a.b"); value = negsuc 2 }) ∷ [];
  texts = [];
  histograms = [];
}

pub one_group : prom_text two_counters
    ≡ codes "# TYPE envoy_a_b counter\nenvoy_a_b{} 1\nenvoy_a_b{} 2\n# TYPE envoy_a_b gauge\nenvoy_a_b{} -3\n"
unfolding digits
one_group = refl

pub escapes : label (tag (codes "1:a") (codes "a\"b\\c")) ≡ codes "_1_a=\"a\\\"b\\\\c\""
escapes = refl

abbrev tags_of_a_cluster : FlushView
tags_of_a_cluster = record {
  counters = (record {
    name = codes "cluster.c.upstream_rq_2xx";
    tagged = record {
      extracted = codes "cluster.upstream_rq_xx";
      tags = tag (codes "envoy.response_code_class") (codes "2") ∷ tag (codes "envoy.cluster_name") (codes "c") ∷ [];
    };
    delta = 3;
    total = 3;
  }) ∷ [];
  gauges = [];
  texts = [];
  histograms = [];
}

pub cluster : prom_text tags_of_a_cluster
    ≡ codes "# TYPE envoy_cluster_upstream_rq_xx counter\nenvoy_cluster_upstream_rq_xx{envoy_response_code_class=\"2\",envoy_cluster_name=\"c\"} 3\n"
unfolding digits
cluster = refl

abbrev bin : ℕ → ℕ → ℕ → BinCount
bin val exp count = record { bin = record { val = val; exp = pos exp }; count = count }

abbrev bound : ℕ → Bound
bound n = record { halves = n }

abbrev few_values : FlushView
few_values = record {
  counters = [];
  gauges = [];
  texts = [];
  histograms = (record {
    name = codes "h";
    tagged = bare (codes "h");
    interval = [];
    cumulative = bin 10 0 1 ∷ bin 20 0 1 ∷ bin 10 1 1 ∷ bin 10 2 1 ∷ [];
    bounds = bound 1 ∷ bound 2 ∷ bound 10 ∷ [];
  }) ∷ [];
}

pub histogram : prom_text few_values
    ≡ codes "# TYPE envoy_h histogram\nenvoy_h_bucket{le=\"0.5\"} 0\nenvoy_h_bucket{le=\"1\"} 1\nenvoy_h_bucket{le=\"5\"} 2\nenvoy_h_bucket{le=\"+Inf\"} 4\nenvoy_h_sum{} 118.6\nenvoy_h_count{} 4\n"
unfolding digits largest_whole mark_twentieths
histogram = refl
