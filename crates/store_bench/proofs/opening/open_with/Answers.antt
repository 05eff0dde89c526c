use Rattle.book_seat.proofs.Results.{if_ok}
use Rattle.store_opening.specs.Opening.{Opens}
use Rattle.store_bench.specs.Held.{IsOpened}
use Rattle.store_bench.proofs.Parties.{is_opened}
use Rattle.store_bench.proofs.opening.open_with.Goals as goal

pub returns : goal.returns
returns c =
    let config = c.args.config.now in let workers = c.args.workers in
    if_ok c.open_store.result (Opens config workers) IsOpened (is_opened config workers) c.open_store.ensures
