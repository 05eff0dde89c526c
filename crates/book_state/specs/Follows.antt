-- The entries of a worker's seat are those of its events in order, and then one End. This project's own.
use Rattle.std.specs.Prelude.{◌≡◌, ◌⊎◌, ℕ, ◌≤◌, ◌==◌, if◌then◌else◌, Option, Some, None, option_map, List, [], ◌∷◌}
use Rattle.std.specs.Prelude.{◌++◌}
use Rattle.std.specs.Option.{option_map_or, IsSomeAnd}
use Rattle.stat_defs.specs.declared.ids.Kind.{Kind}
use Rattle.stat_defs.specs.declared.ids.Kind.TheVariants as kind
use Rattle.stat_defs.specs.declared.ids.Mode.{Mode}
use Rattle.stat_defs.specs.declared.ids.Mode.TheVariants.{Uninit}
use Rattle.stat_defs.specs.declared.events.Key.{Key}
use Rattle.stat_defs.specs.declared.events.Event.{Event}
use Rattle.stat_defs.specs.declared.events.Event.TheVariants as event
use Rattle.stat_defs.specs.declared.history.Verdict.{Verdict}
use Rattle.stat_defs.specs.declared.history.Verdict.TheVariants as verdict
use Rattle.stat_defs.specs.declared.history.Call.{Call}
use Rattle.stat_defs.specs.declared.history.Call.TheVariants as call
use Rattle.stat_defs.specs.declared.history.Reply.{Reply}
use Rattle.stat_defs.specs.declared.history.Reply.TheVariants as reply
use Rattle.stat_defs.specs.declared.history.Entry.{Entry}
use Rattle.stat_defs.specs.Keys.{held_under}
use Rattle.book_state.specs.State.{NameRules, State, seat_of, held_in}
use Rattle.book_state.specs.Step.{effect}
use Rattle.book_state.specs.Log.{empty}

-- an entry of the seat, and the state after it
pub record Own : Type 0 where
  pub call : Call
  pub reply : Reply
  pub after : State

-- the seat's own entries in a log, in order
abbrev pub own : NameRules → ℕ → State → List Entry → List Own
own rules seat s [] = []
own rules seat s (entry ∷ log) = let next = effect rules entry.seat entry.call entry.reply s in
    if entry.seat == seat then record { call = entry.call; reply = entry.reply; after = next } ∷ own rules seat next log
    else own rules seat next log

-- the verdict that a reply tells
abbrev pub verdict_of : Reply → Option Verdict
verdict_of (reply.Opened id) = Some (verdict.Opened id)
verdict_of reply.LabelTaken = Some verdict.LabelTaken
verdict_of (reply.Released id) = Some (verdict.Released id)
verdict_of reply.NoScope = Some verdict.NoScope
verdict_of (reply.Made id numbers) = Some (verdict.Accepted id)
verdict_of (reply.Found id) = Some (verdict.Accepted id)
verdict_of reply.Rejected = Some verdict.Rejected
verdict_of reply.NoRoom = Some verdict.NoRoom
verdict_of reply.OverLimit = Some verdict.OverLimit
verdict_of _ = None

-- the number of releases that the seat has acknowledged, and the verdict that it holds under a key
abbrev pub tag_of : State → ℕ → ℕ
tag_of s seat = option_map_or (λ row. row.tag) (seat_of s seat) 0

abbrev pub held_verdict : State → ℕ → Key → Option Verdict
held_verdict s seat key = option_map (λ h. h.verdict) (held_under key (held_in s seat))

-- one entry: this call, and the reply that tells the verdict
abbrev pub MakesOne : Call → Verdict → List Own → Type 0
MakesOne c v (o ∷ []) = (o.call ≡ c) × (verdict_of o.reply ≡ Some v)
MakesOne c v _ = ⊥

-- an accepted text is set besides, and nothing else is done
abbrev pub SetsText : Event → Verdict → List Own → Type 0
SetsText (event.SetText label name text) (verdict.Accepted id) (o ∷ []) = o.call ≡ call.SetText id text
SetsText (event.SetText label name text) (verdict.Accepted id) _ = ⊥
SetsText _ _ made = made ≡ []

-- a held verdict decides alone; else one find of the key does
abbrev pub Finds : Key → Event → Verdict → Option Verdict → List Own → Type 0
Finds key e v (Some held) made = (v ≡ held) × SetsText e v made
Finds key e v None (o ∷ made) = (o.call ≡ call.Find key) × (verdict_of o.reply ≡ Some v) × SetsText e v made
Finds key e v None [] = ⊥

-- the key that an event looks for; an opening and a release look for none
abbrev pub key_in : List ℕ → Kind → Mode → List ℕ → Key
key_in label k mode name = record { label = label; kind = k; mode = mode; name = name }

abbrev pub event_key : Event → Option Key
event_key (event.Inc label name n) = Some (key_in label kind.Counter Uninit name)
event_key (event.Gauge label name mode op n) = Some (key_in label kind.Gauge mode name)
event_key (event.Rec label name n) = Some (key_in label kind.Histogram Uninit name)
event_key (event.SetText label name text) = Some (key_in label kind.Text Uninit name)
event_key _ = None

-- what an event makes from a state on in which no acknowledgement is due
abbrev pub Makes : ℕ → State → Event → Verdict → List Own → Type 0
Makes seat s (event.OpenScope label prefix) v made = MakesOne (call.OpenScope label prefix) v made
Makes seat s (event.Release label) v made = MakesOne (call.Release label) v made
Makes seat s e v made = IsSomeAnd (event_key e) (λ key. Finds key e v (held_verdict s seat key) made)

-- an acknowledgement stands first where there are releases above the seat's tag, and may stand first wherever it is a
-- step
abbrev pub MakesAcked : ℕ → State → Event → Verdict → List Own → Type 0
MakesAcked seat s e v made =
    ((s.releases ≤ tag_of s seat) × Makes seat s e v made)
    ⊎ ((o : Own) × (rest : List Own) × (made ≡ o ∷ rest) × (o.call ≡ call.Ack) × Makes seat o.after e v rest)

-- an event that was applied, its verdict, and the entries that it made
pub record Applied : Type 0 where
  pub event : Event
  pub verdict : Verdict
  pub made : List Own

-- the state after the last of these entries
abbrev pub after_all : State → List Own → State
after_all s [] = s
after_all s (o ∷ made) = after_all o.after made

-- The events that a seat applied form a chain. Its newest link stands first, so a chain grows by a link, while the
-- lists of its events, verdicts and entries grow at their ends.
abbrev pub events_of : List Applied → List Event
events_of [] = []
events_of (a ∷ before) = events_of before ++ a.event ∷ []

abbrev pub verdicts_of : List Applied → List Verdict
verdicts_of [] = []
verdicts_of (a ∷ before) = verdicts_of before ++ a.verdict ∷ []

abbrev pub entries_of : List Applied → List Own
entries_of [] = []
entries_of (a ∷ before) = entries_of before ++ a.made

-- the state after the seat's last entry, where s is the one at the beginning
abbrev pub state_after : State → List Applied → State
state_after s [] = s
state_after s (a ∷ before) = after_all (state_after s before) a.made

-- each event makes its entries from the state after the seat's entry before them
abbrev pub IsChain : ℕ → State → List Applied → Type 0
IsChain seat s [] = Unit {0}
IsChain seat s (a ∷ before) = IsChain seat s before × MakesAcked seat (state_after s before) a.event a.verdict a.made

-- these entries are those of the seat's events, with their verdicts
pub record AreOfEvents (workers seat : ℕ) (events : List Event) (verdicts : List Verdict)
    (entries : List Own) : Type 0 where
  pub applied : List Applied
  pub chain : IsChain seat (empty workers) applied
  pub events_are : events ≡ events_of applied
  pub verdicts_are : verdicts ≡ verdicts_of applied
  pub entries_are : entries ≡ entries_of applied

-- the seat's entries in the log are those of its events so far
abbrev pub FollowsSoFar : NameRules → ℕ → ℕ → List Event → List Verdict → List Entry → Type 0
FollowsSoFar rules workers seat events verdicts log = AreOfEvents workers seat events verdicts
    (own rules seat (empty workers) log)

-- the seat's entries in the log are those of its events, and then one End
pub record Follows (rules : NameRules) (workers seat : ℕ) (events : List Event) (verdicts : List Verdict)
    (log : List Entry) : Type 0 where
  pub entries : List Own
  pub of_events : AreOfEvents workers seat events verdicts entries
  pub last : Own
  pub ends : last.call ≡ call.End
  pub own_are : own rules seat (empty workers) log ≡ entries ++ last ∷ []
