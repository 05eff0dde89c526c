use Rattle.std.proofs.Common.{◌≡◌, slice_get, subst}
use Rattle.std.specs.Option.{IsSomeAnd}
use Rattle.stat_defs.specs.Books.{BookHistory}
use Rattle.stat_book.specs.Calls.{state_of}
use Rattle.plain_store.specs.Worker.{WorkerHistory}
use Rattle.plain_store.proofs.WorkerLemmas.{kind_of_row}
use Rattle.plain_store.proofs.worker.LoneWorker.kind.Goals as goal

pub returns : goal.returns
returns c =
    subst (λ (v : WorkerHistory). IsSomeAnd (slice_get (state_of v.book).metrics c.args.id.0) (λ row. row.metric.kind ≡ c.metric.result.now.kind)) c.self.view_is
    (subst (λ (b : BookHistory). IsSomeAnd (slice_get (state_of b).metrics c.args.id.0) (λ row. row.metric.kind ≡ c.metric.result.now.kind)) c.book.ensures
    (kind_of_row (slice_get (state_of c.book.result.now).metrics c.args.id.0) c.metric.result.now c.metric.ensures))
