-- Borrowed rows of a view, as members, and the parts in which lines are written.
use Rattle.std.specs.Prelude.{ℕ, Bool, true, not, if◌then◌else◌, Option, Some, None, List, [], ◌∷◌, ◌++◌, codes}
use Rattle.std.specs.List.{flat_map}
use Rattle.std.specs.Fmt.{decimal}
use Rattle.stat_defs.specs.declared.metrics.Tagged.{Tagged}
use Rattle.stat_defs.specs.declared.views.HistRow.{HistRow}
use Rattle.prom_text.specs.Labels.{printed_name}
use Rattle.prom_text.specs.Prometheus.{labels_of, bucket_line, bound_line, type_line, member_lines}
use Rattle.prom_text.specs.declared.rows.Row.{Row}
use Rattle.prom_text.specs.declared.rows.Row.TheVariants.{Counter, Gauge, Histogram}
use Rattle.prom_text.specs.Members.{Member, CounterMember, GaugeMember, HistogramMember, same_group}

abbrev pub member_of : Row → Member
member_of (Counter row) = CounterMember row.now
member_of (Gauge row) = GaugeMember row.now
member_of (Histogram row) = HistogramMember row.now

-- a bucket's line up to its bound
abbrev pub bucket_begin : Tagged → List ℕ
bucket_begin tagged =
    printed_name tagged.extracted
    ++ (codes "_bucket{" ++ (flat_map (λ text. text ++ codes ",") (labels_of tagged) ++ codes "le=\""))

-- and from its bound on
abbrev pub bucket_end : ℕ → List ℕ
bucket_end count = codes "\"}" ++ (32 ∷ (decimal count ++ 10 ∷ []))

-- a line for each bound, and one for so many values
abbrev pub bucket_lines : HistRow → ℕ → List ℕ
bucket_lines row count =
    flat_map (bound_line row) row.bounds ++ bucket_line row.tagged (codes "+Inf") count

-- another name or kind than that of the member before
abbrev pub begins_group : Option Member → Member → Bool
begins_group None member = true
begins_group (Some before) member = not (same_group before member)

-- what is written of a member behind another
abbrev pub member_text : Option Member → Member → List ℕ
member_text before member =
    (if begins_group before member then type_line member else []) ++ member_lines member

-- what is written of members, behind another
abbrev pub text_from : Option Member → List Member → List ℕ
text_from before [] = []
text_from before (member ∷ others) = member_text before member ++ text_from (Some member) others
