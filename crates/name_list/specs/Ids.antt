-- Lists of the metrics of one kind, and what changes make of them. This project's own.
use Rattle.std.specs.Prelude.{ℕ, ◌==◌, not, if◌then◌else◌, List, [], ◌∷◌, ◌++◌, map, filter}
use Rattle.std.specs.List.{list_any}
use Rattle.stat_defs.specs.declared.ids.Kind.{Kind}
use Rattle.stat_defs.specs.declared.ids.MetricId.{MetricId}
use Rattle.stat_defs.specs.declared.history.NameOp.{NameOp}
use Rattle.stat_defs.specs.declared.history.NameOp.TheVariants.{Made, Gone}
use Rattle.stat_defs.specs.Keys.{same_kind}
use Rattle.stat_defs.specs.Changes.{Name}

-- the metrics of a kind among these names, in order
abbrev pub ids_of : Kind → List Name → List MetricId
ids_of kind names = map (λ name. record { 0 = name.id }) (filter (λ name. same_kind name.kind kind) names)

-- what one change makes of the metrics of a kind
abbrev pub changed_ids : Kind → NameOp → List MetricId → List MetricId
changed_ids kind (Made at id made) ids = if same_kind made kind then ids ++ id ∷ [] else ids
changed_ids kind (Gone at id) ids = filter (λ x. not (x.0 == id.0)) ids

-- and what these changes make of them, one after the other
abbrev pub ids_from : Kind → List NameOp → List MetricId → List MetricId
ids_from kind [] ids = ids
ids_from kind (c ∷ cs) ids = ids_from kind cs (changed_ids kind c ids)

-- the metrics but those of these numbers
abbrev pub without : List ℕ → List MetricId → List MetricId
without gone ids = filter (λ id. not (list_any (λ g. id.0 == g) gone)) ids
