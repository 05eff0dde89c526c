use Rattle.std.proofs.Common.{refl}
use Rattle.stat_defs.specs.declared.events.Event.TheVariants as event
use Rattle.stat_defs.specs.declared.ids.Kind.TheVariants as kind
use Rattle.stat_defs.specs.declared.ids.Mode.TheVariants.{Uninit}
use Rattle.book_state.specs.Follows.{key_in}
use Rattle.book_access.specs.Calling.{known_state}
use Rattle.book_seat.specs.Deciding.{CutsEvent}
use Rattle.book_seat.proofs.SeatLemmas.{may_set_held}
use Rattle.book_seat.proofs.Decided.{none_decided, text_decides, text_cut}
use Rattle.book_seat.proofs.Results.{err_so}
use Rattle.book_seat.proofs.seat.BookSeat.set_readout.Goals as goal

pub returns-in_err-verdict-clause-err : goal.returns-in_err-verdict-clause-err
returns-in_err-verdict-clause-err g c =
    let K = g.A.KnowsLog.known in let p = K c.args.self.now in let m = K c.judge.new.self in let e = event.SetText c.args.label.now c.args.name.now c.args.text.now in
    err_so c.from_residual.result (CutsEvent e p m) (none_decided p m e c.in_err-verdict.ensures.err)

pub set_accepted-requires-clause-holds : goal.set_accepted-requires-clause-holds
set_accepted-requires-clause-holds g c =
    let m = g.A.KnowsLog.known c.judge.new.self in let j = c.in_ok-verdict.ensures.judged in
    may_set_held (known_state m) m.number (key_in c.args.label.now kind.Text Uninit c.args.name.now) c.in_ok-verdict.verdict j.stays.works refl j.held

pub returns-in_err-set_accepted-clause-err : goal.returns-in_err-set_accepted-clause-err
returns-in_err-set_accepted-clause-err g c =
    let K = g.A.KnowsLog.known in let p = K c.args.self.now in let m = K c.judge.new.self in let q = K c.set_accepted.new.self in
    err_so c.from_residual-in_err-set_accepted.result (CutsEvent (event.SetText c.args.label.now c.args.name.now c.args.text.now) p q)
    (text_cut p m q c.args.label.now c.args.name.now c.args.text.now c.in_ok-verdict.verdict c.in_ok-verdict.ensures.judged c.in_err-set_accepted.ensures.err)

pub returns-clause-decided : goal.returns-clause-decided
returns-clause-decided g c =
    let K = g.A.KnowsLog.known in
    text_decides (K c.args.self.now) (K c.judge.new.self) (K c.set_accepted.new.self) c.args.label.now c.args.name.now c.args.text.now c.in_ok-verdict.verdict
    c.in_ok-verdict.ensures.judged c.in_ok-set_accepted.ensures.sets
