use Rattle.std.proofs.Common.{◌≡◌, ◌+◌, ◌<◌, ℕ, List, All, map, filter, length, refl, ap, sym, ◌∙◌, subst, arith}
use Rattle.std.specs.List.{range_with_len}
use Rattle.std.proofs.lemmas.List.{length-map}
use Rattle.stat_defs.specs.declared.ids.Kind.TheVariants.{Counter, Gauge}
use Rattle.stat_defs.specs.declared.ids.MetricId.{MetricId}
use Rattle.book_state.specs.State.{Row}
use Rattle.stat_book.specs.Calls.{state_of}
use Rattle.ledger.specs.Flushes.{ids_made}
use Rattle.book_seat.proofs.Results.{if_ok}
use Rattle.plain_store.specs.Sums.{is_of_kind, as_id, Shows}
use Rattle.plain_store.proofs.Listed.{range_within, made_listed}
use Rattle.plain_store.proofs.FlushLemmas.{shows_as}
use Rattle.plain_store.proofs.last.take_all.Goals as goal

none_before : (k : ℕ) → 0 + k ≡ k
none_before k = omega arith

pub take_flush-requires-clause-counters : goal.take_flush-requires-clause-counters
take_flush-requires-clause-counters c =
    let made = length (state_of c.args.worker.now.book).metrics in
    subst (λ (ids : List MetricId). All (λ (id : MetricId). id.0 < made) ids) (sym (c.deref.ensures.value ∙ c.in_ok-made.ensures))
    (subst (λ (k : ℕ). All (λ (id : MetricId). id.0 < k) (map as_id (range_with_len 0 made))) (none_before made) (range_within 0 made))

pub returns : goal.returns
returns c =
    let s = state_of c.args.worker.now.book in let sums = c.args.sums.now in let gauges = filter (is_of_kind Gauge s) c.args.list.now in
    let counters : filter (is_of_kind Counter s) c.deref.result.now ≡ ids_made Counter s =
    ap (filter (is_of_kind Counter s)) (c.deref.ensures.value ∙ (c.in_ok-made.ensures ∙ ap (λ (k : ℕ). map as_id (range_with_len 0 k)) (sym (length-map s.metrics (λ (row : Row). row.metric)))))
    ∙ made_listed Counter s in
    if_ok c.take_flush.result (λ flush. Shows sums c.args.at (filter (is_of_kind Counter s) c.deref.result.now) gauges flush) (λ flush. Shows sums c.args.at (ids_made Counter s) gauges flush)
    (λ flush shows. shows_as sums c.args.at c.args.at (filter (is_of_kind Counter s) c.deref.result.now) (ids_made Counter s) gauges gauges flush refl counters refl shows) c.take_flush.ensures.shows
