-- What a find comes to. This project's own.
use Rattle.std.specs.Prelude.{ℕ}
use Rattle.stat_defs.specs.Books.{BookHistory}
use Rattle.stat_defs.specs.declared.events.Key.{Key}
use Rattle.stat_defs.specs.declared.ids.ScopeId.{ScopeId}
use Rattle.book_state.specs.Finding.{Outcome, Rejected, Known, NoRoom, OverLimit, New, outcome}
use Rattle.stat_book.specs.declared.finds.Decision.{Decision}
use Rattle.stat_book.specs.declared.finds.Decision.TheVariants as decision
use Rattle.stat_book.specs.Calls.{rules_of, state_of}

abbrev pub outcome_of : Decision → Outcome
outcome_of decision.Rejected = Rejected
outcome_of (decision.Known id) = Known id.0
outcome_of decision.NoRoom = NoRoom
outcome_of decision.OverLimit = OverLimit
outcome_of decision.New = New

-- what a find of the key comes to now
abbrev pub outcome_in : BookHistory → Key → Outcome
outcome_in book key = outcome (rules_of book) (state_of book) key

abbrev pub scope_number : ScopeId → ℕ
scope_number id = id.0
