-- A seat that only tried finds what it would have found before.
use Rattle.std.proofs.Common.{◌≡◌, ℕ, suc, List, ◌∙◌, subst}
use Rattle.stat_defs.specs.declared.history.Entry.{Entry}
use Rattle.stat_defs.specs.declared.history.NameOp.{NameOp}
use Rattle.stat_defs.specs.Books.{BookHistory}
use Rattle.book_lock.specs.declared.view.LockPart.{LockPart}
use Rattle.book_lock.specs.Naming.{FindsNames}
use Rattle.seat_history.specs.History.{Finds}
use Rattle.book_lock.specs.History.{missed, tried}

pub finds-before : (n : ℕ) (p q : LockPart) (found : BookHistory) → q ≡ tried n p → Finds q.seat found → Finds p.seat found
finds-before n p q found e f = let t = subst (λ (z : LockPart). Finds z.seat found) e f in record { config = t.config; workers = t.workers; log = t.log; releases = t.releases }

pub finds-names-before : (n : ℕ) (p q : LockPart) (log : List Entry) (changes : List NameOp) → q ≡ tried n p → FindsNames q log changes → FindsNames p log changes
finds-names-before n p q log changes e f = let t = subst (λ (z : LockPart). FindsNames z log changes) e f in record { known = t.known; lawful = t.lawful; within = t.within }

pub tried-more : (n word : ℕ) (p q q' : LockPart) → q ≡ tried n p → word ≡ 1 → q' ≡ missed word q → q' ≡ tried (suc n) p
tried-more n word p q q' e one is = is ∙ (λ i. missed (one i) (e i))
