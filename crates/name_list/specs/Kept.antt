-- What a list, and one that is being brought up, keep.
use Rattle.std.specs.Prelude.{◌≡◌, ◌<◌, List, All}
use Rattle.std.specs.List.{flat_map}
use Rattle.stat_defs.specs.declared.ids.Kind.TheVariants.{Counter, Gauge}
use Rattle.stat_defs.specs.declared.ids.MetricId.{MetricId}
use Rattle.stat_defs.specs.declared.history.NameOp.{NameOp}
use Rattle.stat_defs.specs.Changes.{names_after}
use Rattle.name_list.specs.declared.draft.Draft.TheInside as draft
use Rattle.name_list.specs.declared.list.NameList.TheInside.{Inside}
use Rattle.name_list.specs.Ids.{ids_of, without}

-- the metrics that are left once the gone ones are taken out
abbrev pub left : draft.Inside → List MetricId
left d = without d.gone.items d.ids.items

abbrev pub IsBelow : draft.Inside → Type 0
IsBelow d = All (λ g. g < d.above) d.gone.items

-- the changes of all calls, in order
abbrev pub changes_of : Inside → List NameOp
changes_of l = flat_map (λ batch. batch.changes) l.batches.items

pub record IsKept (l : Inside) : Type 0 where
  pub counters : l.counters.items ≡ ids_of Counter (names_after (changes_of l))
  pub gauges : l.gauges.items ≡ ids_of Gauge (names_after (changes_of l))
