use Rattle.std.proofs.Common.{◌≡◌, ◌++◌, Option, refl, ap, ◌∙◌, sym, subst, map}
use Rattle.stat_defs.specs.declared.history.NameOp.{NameOp}
use Rattle.book_lock.specs.Naming.{MayName}
use Rattle.threads_bench.specs.Tallies.{entry_of, history_of, changes_of}
use Rattle.seat_history.proofs.Leaves.{leaves-as-found, leaves-more}
use Rattle.book_lock.specs.Seats.{seat_part, seat_known}
use Rattle.book_lock.proofs.Uses.{added, found-with, names-as-found}
use Rattle.threads_bench.proofs.Pushes.{pushed}
use Rattle.threads_bench.proofs.locks.push_once.Goals as goal

pub leave-requires-clause-book : goal.leave-requires-clause-book
leave-requires-clause-book g c = let new = c.push.new.self.words.items in let old = c.book.result.now.words.items in let q = seat_known c.enter-held.new.seat in let e = c.enter-held.ensures.part in
    let found = c.enter-held.result.book.value.words.items in
    let a = added c.push.result (entry_of c.args.number) (map entry_of old) (map entry_of new) (pushed c.push.result c.args.number old new c.push.ensures.words) in
    leaves-more q (history_of found) (history_of new) a.0 (leaves-as-found (seat_known c.args.seat.now) q (history_of found) (ap (λ p. p.seat) e.1) c.enter-held.ensures.found) refl refl
    (a.1 ∙ ap (λ b. map entry_of b.words.items ++ a.0) c.book.ensures.value) (a.2 _ (sym c.requires.1 ∙ sym (ap (λ p. p.seat.number) e.1)))

pub leave-requires-clause-found : goal.leave-requires-clause-found
leave-requires-clause-found g c = let e = c.enter-held.ensures in found-with c.enter-held.result (seat_part c.args.seat.now) (seat_part c.enter-held.new.seat) _ _ e.counts e.part

pub leave-requires-clause-names : goal.leave-requires-clause-names
leave-requires-clause-names g c = let e = c.enter-held.ensures in let found = c.enter-held.result.book.value in
    let same : c.push.new.self.change ≡ found.change = c.push.ensures.change ∙ ap (λ b. b.change) c.book.ensures.value in
    subst (λ (o : Option NameOp). MayName (seat_part c.enter-held.new.seat) (history_of c.push.new.self.words.items).log (changes_of o)) (sym same)
    (names-as-found e.part.0 (seat_part c.args.seat.now) (seat_part c.enter-held.new.seat) (history_of found.words.items).log (history_of c.push.new.self.words.items).log (changes_of found.change) e.part.1 e.names)
