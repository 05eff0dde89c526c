-- The Prometheus text of a flush (the Prometheus exposition format; what is written of a view, and the order, are this
-- project's own).
use Rattle.std.specs.Prelude.{ℕ, List, [], ◌∷◌, ◌++◌, map, codes}
use Rattle.std.specs.List.{flat_map}
use Rattle.std.specs.Fmt.{decimal, signed_decimal}
use Rattle.stat_defs.specs.declared.bins.Bound.{Bound}
use Rattle.stat_defs.specs.declared.metrics.Tagged.{Tagged}
use Rattle.stat_defs.specs.declared.views.HistRow.{HistRow}
use Rattle.stat_defs.specs.declared.views.FlushView.{FlushView}
use Rattle.loglinear_bins.specs.Counts.{total, count_at_most, sum_of}
use Rattle.text_parts.specs.Decimals.{halves, twentieths}
use Rattle.text_parts.specs.Histograms.{IsHistogram}
use Rattle.prom_text.specs.Labels.{printed_name, label, bound_label, braced}
use Rattle.prom_text.specs.Members.{Member, CounterMember, GaugeMember, HistogramMember, member_name, kind_word, Group}
use Rattle.prom_text.specs.Members.{text_groups}

-- `NAME{LABELS} VALUE`
abbrev pub sample : List ℕ → List (List ℕ) → List ℕ → List ℕ
sample name labels value = name ++ (braced labels ++ (32 ∷ (value ++ 10 ∷ [])))

abbrev pub labels_of : Tagged → List (List ℕ)
labels_of tagged = map label tagged.tags

-- `NAME_bucket{LABELS,le="BOUND"} COUNT`
abbrev pub bucket_line : Tagged → List ℕ → ℕ → List ℕ
bucket_line tagged bound count =
    sample (printed_name tagged.extracted ++ codes "_bucket") (labels_of tagged ++ bound_label bound ∷ [])
    (decimal count)

-- of a bound: how many values are in bins that do not go above it
abbrev pub bound_line : HistRow → Bound → List ℕ
bound_line row bound =
    bucket_line row.tagged (halves bound.halves) (count_at_most row.cumulative bound.halves)

-- a line for each bound and one for all values; their sum; their number
abbrev pub histogram_lines : HistRow → List ℕ
histogram_lines row =
    flat_map (bound_line row) row.bounds
    ++ (bucket_line row.tagged (codes "+Inf") (total row.cumulative)
    ++ (sample (printed_name row.tagged.extracted ++ codes "_sum") (labels_of row.tagged)
    (twentieths (sum_of row.cumulative))
    ++ sample (printed_name row.tagged.extracted ++ codes "_count") (labels_of row.tagged)
    (decimal (total row.cumulative))))

abbrev pub member_lines : Member → List ℕ
member_lines (CounterMember row) =
    sample (printed_name row.tagged.extracted) (labels_of row.tagged) (decimal row.total)
member_lines (GaugeMember row) =
    sample (printed_name row.tagged.extracted) (labels_of row.tagged) (signed_decimal row.value)
member_lines (HistogramMember row) = histogram_lines row

-- `# TYPE NAME KIND`
abbrev pub type_line : Member → List ℕ
type_line member = codes "# TYPE " ++ (member_name member ++ (32 ∷ (kind_word member ++ 10 ∷ [])))

abbrev pub group_text : Group → List ℕ
group_text group = type_line group.first ++ flat_map member_lines (group.first ∷ group.others)

abbrev pub prom_text : FlushView → List ℕ
prom_text view = flat_map group_text (text_groups view)

-- what is required of a view, of one of its members
abbrev pub HasHistogram : Member → Type 0
HasHistogram (CounterMember row) = Unit {0}
HasHistogram (GaugeMember row) = Unit {0}
HasHistogram (HistogramMember row) = IsHistogram row.cumulative
