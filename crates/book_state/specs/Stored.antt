-- The state of a book as it is stored. This project's own.
use Rattle.std.specs.Prelude.{◌≡◌, ℕ, ◌≤◌, ◌^◌, ◌||◌, nat_le, Bool, true, Some, List, [], ◌∷◌, ◌++◌, length, map, All}
use Rattle.std.specs.Prelude.{slice_get}
use Rattle.std.specs.List.{flat_map}
use Rattle.stat_defs.specs.Names.{IsLocalName, IsScopePrefix}
use Rattle.stat_defs.specs.declared.configs.TagSpec.{TagSpec}
use Rattle.stat_defs.specs.declared.history.Call.{Call}
use Rattle.stat_defs.specs.declared.history.Call.TheVariants as call
use Rattle.stat_defs.specs.declared.history.Reply.{Reply}
use Rattle.stat_defs.specs.declared.history.Reply.TheVariants as reply
use Rattle.stat_defs.specs.declared.history.Entry.{Entry}
use Rattle.stat_defs.specs.declared.events.Key.{Key}
use Rattle.stat_defs.specs.declared.metrics.Metric.{Metric}
use Rattle.stat_defs.specs.declared.metrics.Life.TheVariants.{Live}
use Rattle.stat_defs.specs.declared.ids.ScopeId.{ScopeId}
use Rattle.tag_rules.specs.Tagging.{tagged}
use Rattle.book_state.specs.declared.metrics.MetricRow.{MetricRow}
use Rattle.book_state.specs.declared.seats.SeatRow.{SeatRow}
use Rattle.book_state.specs.State.{NameRules, Seat, State}
use Rattle.book_state.specs.Step.{effect, Allowed}
use Rattle.book_state.specs.Bearing.{has, NoDoubles, bears_at}
use Rattle.book_state.specs.RunState.{IsRunState}
use Rattle.book_state.specs.Scopes.{ScopeView, scope_of_view}
use Rattle.book_state.specs.Metrics.{stored}

-- the scopes released by a reply
abbrev pub released_by : Call → Reply → List ScopeId
released_by (call.Release label) (reply.Released id) = id ∷ []
released_by _ _ = []

-- the scopes released in a log, in order
abbrev pub released_in : List Entry → List ScopeId
released_in log = flat_map (λ entry. released_by entry.call entry.reply) log

-- what callers see of a stored state: the tag rules, the state, and the scopes released so far, in order
pub record StateView : Type 0 where
  pub tags : List TagSpec
  pub state : State
  pub released : List ScopeId

-- every name is admitted, and tags are drawn by the tag rules
unfoldable pub drawing : List TagSpec → NameRules
drawing tags = record { admits = λ name. true; tagged = tagged tags }

-- with one entry more; which names are admitted does not change its effect
abbrev pub after_entry : StateView → Entry → StateView
after_entry old entry = record {
  tags = old.tags;
  state = effect (drawing old.tags) entry.seat entry.call entry.reply old.state;
  released = old.released ++ released_by entry.call entry.reply;
}

-- the texts of a call are lawful, as far as full names are made of them
abbrev pub IsLawfulCall : Call → Type 0
IsLawfulCall (call.OpenScope label prefix) = IsScopePrefix prefix
IsLawfulCall (call.Find key) = IsLocalName key.name
IsLawfulCall _ = Unit {0}

-- the entry is a step from the state, by these tag rules and some matcher
pub record IsNext (old : StateView) (entry : Entry) : Type 0 where
  pub rules : NameRules
  pub tags : rules.tagged ≡ tagged old.tags
  pub allowed : Allowed rules entry.seat entry.call entry.reply old.state
  pub lawful : IsLawfulCall entry.call

-- of a seat the tag is stored, and whether it has ended
abbrev pub seat_row : SeatRow → ℕ × Bool
seat_row row = (row.tag, row.ended)

abbrev pub seat_stored : Seat → ℕ × Bool
seat_stored seat = (seat.tag, seat.ended)

-- each of these that has not ended has acknowledged the release
abbrev pub has_passed : ℕ → ℕ × Bool → Bool
has_passed release seat = seat.1 || nat_le release seat.0

-- what is stored
pub record Stored : Type 0 where
  pub scopes : List ScopeView
  pub metrics : List MetricRow
  pub released : List ScopeId
  pub seats : List (ℕ × Bool)

-- a scope lists, each once, the metrics that it bears
pub record BearsListed (s : State) (id : ℕ) (scope : ScopeView) : Type 0 where
  pub apart : NoDoubles scope.bears
  pub are : (metric : ℕ) → has metric scope.bears ≡ bears_at id s.metrics metric

-- what is stored is this state
pub record IsStored (held : Stored) (s : State) : Type 0 where
  pub run : IsRunState s
  pub seats : held.seats ≡ map seat_stored s.seats
  pub releases : length held.released ≡ s.releases
  pub scopes : map scope_of_view held.scopes ≡ s.scopes
  pub few_scopes : length s.scopes ≤ 2 ^ 32
  pub prefixes : All (λ scope. IsScopePrefix scope.prefix) s.scopes
  pub metrics : held.metrics ≡ map stored s.metrics
  pub bears : (id : ℕ) (scope : ScopeView) → slice_get held.scopes id ≡ Some scope → BearsListed s id scope

-- an entry changes nothing that is stored
pub record IsAlike (s s' : State) : Type 0 where
  pub scopes : s'.scopes ≡ s.scopes
  pub metrics : s'.metrics ≡ s.metrics
  pub releases : s'.releases ≡ s.releases
  pub seats : map seat_stored s'.seats ≡ map seat_stored s.seats

pub record IsNoted (old : StateView) (entry : Entry) : Type 0 where
  pub alike : IsAlike old.state (after_entry old entry).state
  pub none_released : released_by entry.call entry.reply ≡ []

-- the reply makes a metric, with these symbol numbers
abbrev pub MakesOf : Reply → Type 0
MakesOf (reply.Made id numbers) = Unit {0}
MakesOf _ = ⊥

abbrev pub numbers_in : Reply → List ℕ
numbers_in (reply.Made id numbers) = numbers
numbers_in _ = []

-- a live metric with the empty text
abbrev pub fresh_metric : List TagSpec → Key → List ℕ → List ℕ → Metric
fresh_metric tags key name numbers = record {
  name = name;
  kind = key.kind;
  mode = key.mode;
  numbers = numbers;
  tagged = tagged tags name;
  text = [];
  life = Live;
}
