-- The metrics of a kind on the book's list, said in two ways.
use Rattle.std.proofs.Common.{◌≡◌, Bool, false, filter, Option, None, Some, option_map, slice_get, refl, ap, ◌∙◌, sym}
use Rattle.std.specs.Option.{option_map_or}
use Rattle.std.proofs.lemmas.Option.{slice_get-map}
use Rattle.stat_defs.specs.Keys.{same_kind}
use Rattle.stat_defs.specs.declared.ids.Kind.{Kind}
use Rattle.stat_defs.specs.declared.ids.MetricId.{MetricId}
use Rattle.book_state.specs.State.{State, names_in, metrics_of}
use Rattle.locked_book.specs.Lists.{is_of_kind, not_gone}
use Rattle.run_ledger.specs.Accounts.{listed}

map-or : {X Y : Type 0} (f : X → Y) (p : Y → Bool) (o : Option X) → option_map_or (λ x. p (f x)) o false ≡ option_map_or p (option_map f o) false
map-or f p None = refl
map-or f p (Some x) = refl

pub listed-is : (kind : Kind) (s : State) → not_gone kind s ≡ listed kind s
listed-is kind s = λ i. filter (λ id. same id i) (names_in s) where
  same : (id : MetricId) → is_of_kind kind s id ≡ option_map_or (λ metric. same_kind metric.kind kind) (slice_get (metrics_of s) id.0) false
  same id = map-or (λ row. row.metric) (λ metric. same_kind metric.kind kind) (slice_get s.metrics id.0)
      ∙ ap (λ o. option_map_or (λ metric. same_kind metric.kind kind) o false) (sym (slice_get-map (λ row. row.metric) s.metrics id.0))
