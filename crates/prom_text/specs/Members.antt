-- The members of the groups of Prometheus's text: the counters, gauges and histograms of a view, grouped by printed
-- name and kind. The order is this project's own.
use Rattle.std.specs.Prelude.{ℕ, Bool, ◌&&◌, if◌then◌else◌, List, [], ◌∷◌, ◌++◌, map, codes}
use Rattle.std.specs.declared.cmp.Ordering.{Ordering}
use Rattle.std.specs.Ordering.{nat_cmp, is_lt, ordering_then}
use Rattle.std.specs.Cmp.Lexicographic.{slice_cmp}
use Rattle.stat_defs.specs.Keys.{same_text, same_kind}
use Rattle.stat_defs.specs.declared.ids.Kind.{Kind}
use Rattle.stat_defs.specs.declared.ids.Kind.TheVariants.{Counter, Gauge, Histogram}
use Rattle.stat_defs.specs.declared.metrics.Tagged.{Tagged}
use Rattle.stat_defs.specs.declared.views.CounterRow.{CounterRow}
use Rattle.stat_defs.specs.declared.views.GaugeRow.{GaugeRow}
use Rattle.stat_defs.specs.declared.views.HistRow.{HistRow}
use Rattle.stat_defs.specs.declared.views.FlushView.{FlushView}
use Rattle.prom_text.specs.Labels.{printed_name}

pub data Member : Type 0 where
  CounterMember : CounterRow → Member
  GaugeMember : GaugeRow → Member
  HistogramMember : HistRow → Member

-- text readouts are no members
abbrev pub members : FlushView → List Member
members view =
    map CounterMember view.counters ++ (map GaugeMember view.gauges ++ map HistogramMember view.histograms)

abbrev pub tagged_of : Member → Tagged
tagged_of (CounterMember row) = row.tagged
tagged_of (GaugeMember row) = row.tagged
tagged_of (HistogramMember row) = row.tagged

abbrev pub kind_of : Member → Kind
kind_of (CounterMember row) = Counter
kind_of (GaugeMember row) = Gauge
kind_of (HistogramMember row) = Histogram

abbrev pub kind_word : Member → List ℕ
kind_word (CounterMember row) = codes "counter"
kind_word (GaugeMember row) = codes "gauge"
kind_word (HistogramMember row) = codes "histogram"

abbrev pub member_name : Member → List ℕ
member_name member = printed_name (tagged_of member).extracted

-- a printed name is before another in byte order
abbrev pub is_before : Member → Member → Bool
is_before a b = is_lt (slice_cmp nat_cmp (member_name a) (member_name b))

-- a value among others in order: behind those that are before it, and before all others
abbrev pub inserted : {X : Type 0} → (X → X → Bool) → X → List X → List X
inserted is_less x [] = x ∷ []
inserted is_less x (y ∷ ys) = if is_less y x then y ∷ inserted is_less x ys else x ∷ y ∷ ys

-- values in order; two of which neither is before the other keep theirs
abbrev pub in_order : {X : Type 0} → (X → X → Bool) → List X → List X
in_order is_less [] = []
in_order is_less (x ∷ xs) = inserted is_less x (in_order is_less xs)

abbrev pub same_group : Member → Member → Bool
same_group a b = same_kind (kind_of a) (kind_of b) && same_text (member_name a) (member_name b)

-- counters, then gauges, then histograms
abbrev pub kind_place : Member → ℕ
kind_place (CounterMember row) = 0
kind_place (GaugeMember row) = 1
kind_place (HistogramMember row) = 2

-- how the groups of two members go: by printed name in byte order, and of one printed name by kind
abbrev pub compare_groups : Member → Member → Ordering
compare_groups a b =
    ordering_then (slice_cmp nat_cmp (member_name a) (member_name b)) (nat_cmp (kind_place a) (kind_place b))

-- a group of one printed name and kind is never empty
pub record Group : Type 0 where
  pub first : Member
  pub others : List Member

-- a member goes before a first group of its name and kind, and is else a group of its own
abbrev pub grouped_with : Member → List Group → List Group
grouped_with member [] = (record { first = member; others = [] }) ∷ []
grouped_with member (group ∷ groups) =
    if same_group member group.first
    then (record { first = member; others = group.first ∷ group.others }) ∷ groups
    else (record { first = member; others = [] }) ∷ group ∷ groups

-- neighbours of one printed name and kind are one group
abbrev pub groups_of : List Member → List Group
groups_of [] = []
groups_of (member ∷ others) = grouped_with member (groups_of others)

-- the groups of a view: they go by printed name and kind, and the members of a group keep the order of the view, which
-- is that of full names, and of one full name that of ids (law `groups_law`)
abbrev pub text_groups : FlushView → List Group
text_groups view = groups_of (in_order is_before (members view))
