use Rattle.std.proofs.Common.{◌∙◌, ap, subst, map, List}
use Rattle.seat_history.specs.declared.known.LogKnown.{LogKnown}
use Rattle.book_lock.specs.History.{IsOneHistory}
use Rattle.book_lock.specs.Seats.{seat_known}
use Rattle.locked_book.specs.Sharing.{first_of, seat_count}
use Rattle.locked_book.proofs.Numbered.{all_bare, known_bare}
use Rattle.locked_book.proofs.NamesGiven.{seats_give}
use Rattle.locked_book.proofs.FirstChanges.{seats_first}
use Rattle.locked_book.proofs.shared.SharedBook.close.Goals as goal

pub close-book-requires : goal.close-book-requires
close-book-requires c = all_bare c.args.self c.args.seats.items c.bare_seats.new.bare.items c.bare_seats.ensures c.requires

pub returns-clause-history : goal.returns-clause-history
returns-clause-history c = subst (λ (known : List LogKnown). IsOneHistory (first_of c.args.self) (seat_count c.args.self) known c.close-book.result)
    (ap (map seat_known) c.bare_seats.ensures ∙ known_bare c.args.seats.items) c.close-book.ensures.history

pub returns-clause-names : goal.returns-clause-names
returns-clause-names c = seats_give c.close-book.result c.args.seats.items c.bare_seats.new.bare.items c.bare_seats.ensures c.has_legal_log.ensures c.close-book.ensures.names.each

pub returns-clause-changes : goal.returns-clause-changes
returns-clause-changes c = seats_first c.close-book.result c.args.seats.items c.bare_seats.new.bare.items c.bare_seats.ensures c.close-book.ensures.names.each
