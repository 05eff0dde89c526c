use Rattle.std.proofs.Common.{length, filter, refl, ◌∙◌}
use Rattle.stat_defs.specs.declared.ids.Kind.TheVariants.{Counter, Gauge}
use Rattle.stat_book.specs.Calls.{state_of}
use Rattle.ledger.specs.Flushes.{ids_made, ids_not_gone}
use Rattle.book_seat.proofs.Results.{if_ok}
use Rattle.plain_store.specs.Sums.{is_of_kind, Shows, SweepsLast}
use Rattle.plain_store.proofs.FlushLemmas.{names_within, kind_shown, shows_as}
use Rattle.plain_store.proofs.last.take_last.Goals as goal

pub take_all-requires-clause-within : goal.take_all-requires-clause-within
take_all-requires-clause-within c =
    names_within c.args.worker.now.book c.sweep.new.self.book (length c.in_ok-swept.swept.gone) c.in_ok-swept.ensures.step c.items-list.result.now (c.items-list.ensures ∙ c.in_ok-swept.ensures.list)

pub returns-clause-swept : goal.returns-clause-swept
returns-clause-swept c =
    let old = c.args.worker.now.book in let new = c.sweep.new.self.book in let n = length c.in_ok-swept.swept.gone in
    let list = c.items-list.result.now in let sums = c.args.sums.now in let at = c.args.at in
    let gauges = kind_shown Gauge old new n c.in_ok-swept.ensures.step list (c.items-list.ensures ∙ c.in_ok-swept.ensures.list) in
    if_ok c.take_all.result (λ flush. Shows sums at (ids_made Counter (state_of new)) (filter (is_of_kind Gauge (state_of new)) list) flush) (λ flush. SweepsLast old sums at new flush)
    (λ flush shows. record {
      gone = n;
      swept = c.in_ok-swept.ensures.step;
      shows = shows_as sums at at (ids_made Counter (state_of new)) (ids_made Counter (state_of new)) (filter (is_of_kind Gauge (state_of new)) list) (ids_not_gone Gauge (state_of old)) flush refl refl gauges shows;
    }) c.take_all.ensures
