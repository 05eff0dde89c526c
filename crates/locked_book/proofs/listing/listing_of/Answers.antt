use Rattle.std.proofs.Common.{◌∙◌, ap, length, filter}
use Rattle.stat_defs.specs.declared.ids.Kind.TheVariants.{Counter, Gauge}
use Rattle.stat_book.specs.Calls.{state_of}
use Rattle.locked_book.specs.Lists.{is_of_kind}
use Rattle.locked_book.proofs.OfKind.{names_within, metrics_listed}
use Rattle.locked_book.proofs.listing.listing_of.Goals as goal

pub of_kind-requires : goal.of_kind-requires
of_kind-requires c = names_within (state_of c.args.book.now) c.deref.result.now (c.deref.ensures.value ∙ c.in_ok-names.ensures)

pub of_kind-requires-2 : goal.of_kind-requires-2
of_kind-requires-2 c = names_within (state_of c.args.book.now) c.deref-2.result.now (c.deref-2.ensures.value ∙ c.in_ok-names.ensures)

pub returns-clause-lists : goal.returns-clause-lists
returns-clause-lists c =
    let s = state_of c.args.book.now in let b = c.args.book.now in
    let one = c.deref.ensures.value ∙ c.in_ok-names.ensures in let two = c.deref-2.ensures.value ∙ c.in_ok-names.ensures in
    let counters = c.of.ensures ∙ c.in_ok-counters.ensures in let gauges = c.of-2.ensures ∙ c.in_ok-gauges.ensures in
    record {
      at = ap length c.log.ensures.log;
      counters = counters ∙ ap (filter (is_of_kind Counter s)) one;
      gauges = gauges ∙ ap (filter (is_of_kind Gauge s)) two;
      metrics = (
        metrics_listed b (is_of_kind Counter s) c.deref.result.now c.of.result c.log.ensures.legal one counters,
        metrics_listed b (is_of_kind Gauge s) c.deref-2.result.now c.of-2.result c.log.ensures.legal two gauges,
      );
    }
