-- What a shared book leaves at its end (this project's own).
use Rattle.std.specs.Prelude.{◌≡◌, ℕ, ◌≤◌, List, length, take}
use Rattle.stat_defs.specs.Books.{BookHistory}
use Rattle.stat_defs.specs.Changes.{names_after, GoesOnLater}
use Rattle.stat_defs.specs.Keys.{same_kind}
use Rattle.stat_defs.specs.declared.ids.Kind.TheVariants.{Counter}
use Rattle.stat_defs.specs.declared.ids.MetricId.{MetricId}
use Rattle.stat_defs.specs.declared.history.NameOp.{NameOp}
use Rattle.seat_history.specs.declared.known.LogKnown.{LogKnown}
use Rattle.book_state.specs.State.{State, metrics_of, ids_from}
use Rattle.book_state.specs.Log.{replay}
use Rattle.name_changes.specs.Changes.{names_not_gone, newest}
use Rattle.stat_book.specs.Calls.{rules_of, state_of, IsLegal}
use Rattle.stat_book.specs.NameChanges.{changes_of, names_of}
use Rattle.book_lock.specs.History.{IsOneHistory}
use Rattle.locked_book.specs.declared.ending.BookEnd.{BookEnd}
use Rattle.locked_book.specs.Lists.{AreMetrics, SweepsListed}

abbrev pub as_id : ℕ → MetricId
as_id id = record { 0 = id }

-- all counters that were ever made, in the order of their numbers
abbrev pub counters_made : State → List MetricId
counters_made s = ids_from (λ metric. same_kind metric.kind Counter) 0 (metrics_of s)

-- these changes are the first ones of the book's, and each further one has a later `at`
abbrev pub AreFirstOf : BookHistory → List NameOp → Type 0
AreFirstOf book names = GoesOnLater names (changes_of book)

-- These changes give the names that were not gone in the first entries of the book's log, as many as the `at` of the last
-- of them says, or none where there is no change.
abbrev pub GivesNames : BookHistory → List NameOp → Type 0
GivesNames book names = (newest names ≤ length book.log)
    × (names_after names ≡ names_not_gone (replay (rules_of book) book.workers (take (newest names) book.log)))

-- a last sweep of this book by the store's seat, and what the book is then
pub record IsLastOf (found : BookHistory) (end : BookEnd) : Type 0 where
  pub last : BookHistory
  pub sweeps : SweepsListed end.listing 0 found last
  pub made : end.made ≡ counters_made (state_of last)
  pub metrics : AreMetrics end.made
  pub log : end.log ≡ last.log
  pub names : end.names ≡ names_of last
  pub legal : IsLegal last

-- what the seats know is of one history, which the last sweep ends
pub record EndsBook (first : BookHistory) (seats : ℕ) (knowns : List LogKnown) (end : BookEnd) : Type 0 where
  pub found : BookHistory
  pub one : IsOneHistory first seats knowns found
  pub last : IsLastOf found end
