use Rattle.std.proofs.Common.{◌≡◌, ◌∙◌, ap, length, filter}
use Rattle.std.proofs.lemmas.Result.{IfOk-weaker}
use Rattle.stat_defs.specs.declared.ids.Kind.TheVariants.{Counter}
use Rattle.stat_book.specs.Calls.{state_of}
use Rattle.locked_book.specs.Lists.{is_of_kind, AreMetrics}
use Rattle.locked_book.specs.Ending.{counters_made}
use Rattle.locked_book.proofs.CountersMade.{all_within, made_listed, metrics_made}
use Rattle.locked_book.proofs.ending.counters_in.Goals as goal

pub of_kind-requires : goal.of_kind-requires
of_kind-requires c = all_within (length (state_of c.args.book.now).metrics) c.deref.result.now (c.deref.ensures.value ∙ c.in_ok-ids.ensures)

pub returns-clause-made : goal.returns-clause-made
returns-clause-made c =
    let s = state_of c.args.book.now in
    IfOk-weaker c.of_kind.result (λ those. those.items ≡ filter (is_of_kind Counter s) c.deref.result.now) (λ those. those.items ≡ counters_made s)
    (λ those are. are ∙ (ap (filter (is_of_kind Counter s)) (c.deref.ensures.value ∙ c.in_ok-ids.ensures) ∙ made_listed Counter s)) c.of_kind.ensures

pub returns-clause-metrics : goal.returns-clause-metrics
returns-clause-metrics c =
    let s = state_of c.args.book.now in
    IfOk-weaker c.of_kind.result (λ those. those.items ≡ filter (is_of_kind Counter s) c.deref.result.now) (λ those. AreMetrics those.items)
    (λ those are. metrics_made c.args.book.now (is_of_kind Counter s) c.deref.result.now those.items c.has_legal_log.ensures (c.deref.ensures.value ∙ c.in_ok-ids.ensures) are) c.of_kind.ensures
