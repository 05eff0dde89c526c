-- A file that is being read and applied.
use Rattle.std.proofs.Common.{◌≡◌, ◌<◌, ◌≤◌, ◌+◌, List, [], ◌∷◌, ◌++◌, length, sym, subst, arith}
use Rattle.stat_defs.specs.declared.events.Event.{Event}
use Rattle.stat_defs.specs.declared.history.Verdict.{Verdict}
use Rattle.stats_io.specs.States.{SourceState}
use Rattle.event_script.specs.declared.limits.TheConstants as file
use Rattle.event_script.specs.Reader.{Reading}
use Rattle.file_reading.proofs.ReadSoFar.{ReadSoFar, read_none}
use Rattle.plain_store.specs.declared.worker.TheConstants as worker
use Rattle.plain_store.specs.Store.{StoreHistory}
use Rattle.replay_files.specs.Applying.{AreApplied, IsToldBehind}
use Rattle.replay_files.proofs.AppliedEvents.{none_applied, one_applied, both_applied, more_events}

-- the events so far, with their verdicts, between the reader as it was made and as it is now
pub record SoFar {S : Type 0} (state : S → SourceState) (init now : Reading S) (earlier later : StoreHistory)
    (verdicts : List Verdict) : Type 0 where
  pub events : List Event
  pub read : ReadSoFar state init now events
  pub are_applied : AreApplied earlier events verdicts later

pub so_far_none : {S : Type 0} (state : S → SourceState) (init : Reading S) (earlier : StoreHistory)
    (verdicts : List Verdict) → init.given ≡ 0 → verdicts ≡ [] → SoFar state init init earlier earlier verdicts
so_far_none state init earlier verdicts none no_verdicts = record {
  events = [];
  read = read_none state init none;
  are_applied = rw no_verdicts (none_applied earlier);
}

-- the events behind the earlier ones leave room for one more
pub room_so_far : (earlier later : StoreHistory) (events : List Event) (verdicts : List Verdict)
    → AreApplied earlier events verdicts later → length events < file.MAX_EVENTS
    → length earlier.worker.events + file.MAX_EVENTS ≤ worker.MAX_EVENTS
    → length later.worker.events < worker.MAX_EVENTS
room_so_far earlier later events verdicts applied few room =
    let more = more_events earlier later events verdicts applied in omega (arith, more, few, room)

-- one event more
pub applied_more : (earlier later latest : StoreHistory) (events : List Event) (event : Event)
    (verdicts more : List Verdict) → AreApplied earlier events verdicts later
    → IsToldBehind later event verdicts latest more → AreApplied earlier (events ++ event ∷ []) more latest
applied_more earlier later latest events event verdicts more applied now =
    subst (λ (vs : List Verdict). AreApplied earlier (events ++ event ∷ []) vs latest) (sym now.told)
    (both_applied earlier later latest events (event ∷ []) verdicts (now.verdict ∷ []) applied
    (one_applied later latest event now.verdict now.applied))
