use Rattle.std.proofs.Common.{◌∙◌, ap}
use Rattle.locked_book.specs.Sharing.{first_of}
use Rattle.store_parts.specs.declared.store.Store.{Store}
use Rattle.store_opening.proofs.Dealt.{opens}
use Rattle.store_opening.proofs.opening.open_store.Goals as goal

pub returns : goal.returns
returns c = opens c.args.config.now c.args.workers c.deal.result (ap (λ (s : Store). first_of s.book) c.deal.ensures.store ∙ c.in_ok-made.ensures.book) c.deal.ensures.parties
