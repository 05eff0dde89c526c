use Rattle.std.proofs.Common.{◌≡◌, true, subst}
use Rattle.stat_book.specs.Calls.{IsLegal}
use Rattle.plain_store.specs.Worker.{WorkerHistory, IsFollowed}
use Rattle.plain_store.proofs.worker.LoneWorker.log_is_followed.Goals as goal

pub returns-clause-legal : goal.returns-clause-legal
returns-clause-legal c = subst (λ (v : WorkerHistory). IsLegal v.book) c.self.view_is (subst IsLegal c.book.ensures c.has_legal_log.ensures)

pub returns-clause-followed : goal.returns-clause-followed
returns-clause-followed c = subst (λ (v : WorkerHistory). v.whole ≡ true → IsFollowed v) c.self.view_is c.self.invariant.followed
