-- What one call by the seat of this number makes of a book (this project's own).
use Rattle.std.specs.Prelude.{◌≡◌, ◌↔◌, ℕ, None, option_map, drop, length}
use Rattle.stat_defs.specs.Books.{BookHistory}
use Rattle.stat_defs.specs.declared.events.Key.{Key}
use Rattle.stat_defs.specs.declared.history.Acked.{Acked}
use Rattle.stat_defs.specs.declared.history.FindAnswer.{FindAnswer}
use Rattle.stat_defs.specs.declared.history.Swept.{Swept}
use Rattle.stat_defs.specs.declared.history.Call.{Call}
use Rattle.stat_defs.specs.declared.history.Call.TheVariants as call
use Rattle.stat_defs.specs.declared.history.Reply.{Reply}
use Rattle.stat_defs.specs.declared.history.Reply.TheVariants as reply
use Rattle.stat_defs.specs.declared.history.Verdict.{Verdict}
use Rattle.stat_defs.specs.declared.history.Verdict.TheVariants as verdict
use Rattle.book_state.specs.State.{live_scope, names_in}
use Rattle.book_state.specs.Step.{overdue_in}
use Rattle.book_state.specs.Follows.{tag_of}
use Rattle.book_state.specs.Stored.{released_in}
use Rattle.stat_book.specs.Calls.{state_of, IsLegal, Logged, Answers}
use Rattle.stat_book.specs.Finds.{scope_number}

-- it is left as it was found
abbrev pub IsAsFound : ℕ → BookHistory → BookHistory → Type 0
IsAsFound seat old new = new ≡ old

-- the call was logged with this reply
abbrev pub LogsCall : Call → Reply → ℕ → BookHistory → BookHistory → Type 0
LogsCall call reply seat old new = Logged old seat call reply new

-- the call was logged with a reply that tells this verdict
abbrev pub AnswersCall : Call → Verdict → ℕ → BookHistory → BookHistory → Type 0
AnswersCall call verdict seat old new = Answers old seat call verdict new

-- one call was logged
abbrev pub AddsOne : ℕ → BookHistory → BookHistory → Type 0
AddsOne seat old new = (call : Call) × (reply : Reply) × Logged old seat call reply new

-- a find of the key, and the live scope of its label
pub record FindsKey (key : Key) (answer : FindAnswer) (seat : ℕ) (old new : BookHistory) : Type 0 where
  pub step : Answers old seat (call.Find key) answer.verdict new
  pub scope : option_map scope_number answer.scope ≡ live_scope (state_of old) key.label
  pub none : (answer.scope ≡ None) ↔ (answer.verdict ≡ verdict.NoScope)

-- an acknowledgement of all releases, with the released scopes that the seat had not acknowledged
pub record AcksAll (acked : Acked) (seat : ℕ) (old new : BookHistory) : Type 0 where
  pub legal : IsLegal old
  pub step : Logged old seat call.Ack (reply.Acked acked.tag) new
  pub scopes : acked.scopes ≡ drop (tag_of (state_of old) seat) (released_in old.log)

-- a sweep, with the metrics that were not gone before it, and those that it made gone
pub record SweepsBook (swept : Swept) (seat : ℕ) (old new : BookHistory) : Type 0 where
  pub step : Logged old seat call.Sweep (reply.Swept (length swept.gone)) new
  pub list : swept.list ≡ names_in (state_of old)
  pub gone : swept.gone ≡ overdue_in (state_of old)
