use Rattle.store_pages.proofs.InStep.{opened}
use Rattle.store_pages.proofs.pages.StorePages.open_with_key.Goals as goal

pub invariant_of-result : goal.invariant_of-result
invariant_of-result c =
    opened c.args.config.now c.in_ok-store.store c.in_ok-views.views c.in_ok-store.ensures.made c.in_ok-views.ensures
