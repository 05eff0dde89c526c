use Rattle.std.proofs.Common.{◌≡◌, ◌<◌, true, false, sym, subst, refl}
use Rattle.stat_defs.specs.declared.history.Call.{Call}
use Rattle.book_state.specs.declared.limits.TheConstants.{MAX_OPENINGS}
use Rattle.book_state.specs.Step.{Allowed}
use Rattle.book_state.specs.Log.{is_sweep}
use Rattle.book_state.specs.Stored.{IsLawfulCall}
use Rattle.stat_defs.specs.Keys.{held_under}
use Rattle.std.specs.Prelude.{IsNone}
use Rattle.stat_book.specs.Calls.{rules_of, state_of, Logged, is_opening, openings_by}
use Rattle.stat_book.proofs.Keeping.{works_so}
use Rattle.stat_book.proofs.book.Book.refuse.Goals as goal

pub append-requires-clause-may : goal.append-requires-clause-may
append-requires-clause-may c =
    let v = c.args.self.now in
    subst (λ (k : Call). Allowed (rules_of v) c.args.seat k c.args.reply (state_of v)) (sym c.in_ok-call.ensures) (c.requires.works, c.requires.tells)

pub append-requires-clause-works : goal.append-requires-clause-works
append-requires-clause-works c = works_so (state_of c.args.self.now) c.args.seat (λ row. IsNone (held_under c.args.key.now row.held)) c.requires.works

pub append-requires-clause-worker : goal.append-requires-clause-worker
append-requires-clause-worker c = subst (λ (k : Call). is_sweep k ≡ false) (sym c.in_ok-call.ensures) refl

pub append-requires-clause-lawful : goal.append-requires-clause-lawful
append-requires-clause-lawful c = subst IsLawfulCall (sym c.in_ok-call.ensures) c.requires.name

pub append-requires-clause-room : goal.append-requires-clause-room
append-requires-clause-room c = subst (λ (k : Call). is_opening k ≡ true → openings_by c.args.seat c.args.self.now.log < MAX_OPENINGS) (sym c.in_ok-call.ensures) (λ no. absurd cc)

pub returns-clause-step : goal.returns-clause-step
returns-clause-step c =
    (c.args.reply, c.requires.verdict, subst (λ (k : Call). Logged c.args.self.now c.args.seat k c.args.reply c.append.new.self) c.in_ok-call.ensures c.in_ok-append.ensures.ok)
