use Rattle.std.proofs.Common.{subst, arith}
use Rattle.std.specs.Prelude.{IfOk}
use Rattle.book_seat.proofs.Results.{if_ok}
use Rattle.plain_store.specs.Sums.{EndsWith}
use Rattle.plain_store.specs.Store.{StoreHistory, Finishes}
use Rattle.plain_store.specs.StoreKept.{shown}
use Rattle.plain_store.proofs.FinishLemmas.{ends_finish}
use Rattle.plain_store.proofs.store.PlainStore.finish.Goals as goal

pub finish_parts-requires : goal.finish_parts-requires
finish_parts-requires c = record { works = c.self.invariant.works; few = (let values = c.self.invariant.small.values in let few = c.self.invariant.few_events in omega (arith, values, few)) }

pub returns : goal.returns
returns c =
    let p = c.self.inside in
    subst (λ (s : StoreHistory). IfOk c.finish_parts.result (λ given. Finishes s given)) c.self.view_is
    (if_ok c.finish_parts.result (λ given. EndsWith p.worker p.sums given) (λ given. Finishes (shown p) given) (λ given. ends_finish (shown p) p.sums given c.self.invariant.exact) c.finish_parts.ensures)
