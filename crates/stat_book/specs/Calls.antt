-- What the calls of a book add to its log. This project's own.
use Rattle.std.specs.Prelude.{◌≡◌, ℕ, ◌&&◌, ◌==◌, Bool, true, false, Some, List, [], ◌∷◌, ◌++◌, count_by}
use Rattle.stat_defs.specs.Books.{BookHistory}
use Rattle.stat_defs.specs.declared.configs.Config.{Config}
use Rattle.stat_defs.specs.declared.configs.MatchSpec.{MatchSpec}
use Rattle.stat_defs.specs.declared.configs.TagSpec.{TagSpec}
use Rattle.stat_defs.specs.declared.history.Call.{Call}
use Rattle.stat_defs.specs.declared.history.Call.TheVariants as call
use Rattle.stat_defs.specs.declared.history.Entry.{Entry}
use Rattle.stat_defs.specs.declared.history.Reply.{Reply}
use Rattle.stat_defs.specs.declared.history.Verdict.{Verdict}
use Rattle.tag_rules.specs.Admission.{admits}
use Rattle.tag_rules.specs.Tagging.{tagged}
use Rattle.book_state.specs.State.{NameRules, State}
use Rattle.book_state.specs.Step.{BookStep}
use Rattle.book_state.specs.Log.{openings, replay, Legal}
use Rattle.book_state.specs.Follows.{verdict_of}

-- full names are admitted by the matcher, and their tags are drawn by the tag rules
unfoldable pub name_rules : MatchSpec → List TagSpec → NameRules
name_rules matcher tags = record { admits = admits matcher; tagged = tagged tags }

abbrev pub rules_of : BookHistory → NameRules
rules_of book = name_rules book.config.matcher book.config.tags

-- the replay of the log
abbrev pub state_of : BookHistory → State
state_of book = replay (rules_of book) book.workers book.log

abbrev pub IsLegal : BookHistory → Type 0
IsLegal book = Legal (rules_of book) book.config.scopes book.workers book.log

-- a new book: all of the configuration's scopes were opened
abbrev pub new_book : Config → ℕ → BookHistory
new_book config workers = record { config = config; workers = workers; log = openings 0 config.scopes }

-- the call was logged with its reply, as a step; all else stays
pub record Logged (old : BookHistory) (seat : ℕ) (call : Call) (reply : Reply) (new : BookHistory) : Type 0 where
  pub logged : new ≡ record old { log = old.log ++ record { seat = seat; call = call; reply = reply } ∷ [] }
  pub step : BookStep (rules_of old) (state_of old) seat call reply (state_of new)

-- the call was logged with the reply that tells this verdict
abbrev pub Answers : BookHistory → ℕ → Call → Verdict → BookHistory → Type 0
Answers old seat call verdict new = (reply : Reply) × (verdict_of reply ≡ Some verdict) × Logged old seat call reply new

abbrev pub is_opening : Call → Bool
is_opening (call.OpenScope label prefix) = true
is_opening _ = false

-- how many openings of a seat stand in a log, refused ones counted too
abbrev pub openings_by : ℕ → List Entry → ℕ
openings_by seat log = count_by (λ entry. is_opening entry.call && entry.seat == seat) log
