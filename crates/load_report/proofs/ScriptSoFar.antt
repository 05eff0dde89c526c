-- A script that is being applied.
use Rattle.std.proofs.Common.{◌≡◌, ◌<◌, ◌≤◌, ◌+◌, ℕ, suc, List, [], ◌∷◌, ◌++◌, length, sym, ap, ◌∙◌, subst, arith, add-one}
use Rattle.stat_defs.specs.declared.events.Event.{Event}
use Rattle.stat_defs.specs.declared.history.Verdict.{Verdict}
use Rattle.load_scripts.specs.Load.{next_state, state_behind, event_at, events_behind}
use Rattle.load_scripts.proofs.Behind.{state_suc, events_suc}
use Rattle.load_scripts.proofs.Files.{many_events}
use Rattle.plain_store.specs.declared.worker.TheConstants.{MAX_EVENTS}
use Rattle.plain_store.specs.Store.{StoreHistory}
use Rattle.replay_files.specs.Applying.{AreApplied, IsToldBehind}
use Rattle.replay_files.proofs.AppliedEvents.{none_applied, more_events}
use Rattle.replay_files.proofs.SoFar.{applied_more}

-- so many events were applied, and this is the state of the last of them
pub record SoFar (script done state : ℕ) (earlier later : StoreHistory) (verdicts : List Verdict) : Type 0 where
  pub at : state ≡ state_behind script done
  pub are_applied : AreApplied earlier (events_behind script script done) verdicts later

pub so_far_none : (script state : ℕ) (earlier : StoreHistory) (verdicts : List Verdict) → state ≡ script
    → verdicts ≡ [] → SoFar script 0 state earlier earlier verdicts
so_far_none script state earlier verdicts first none = record {
  at = first;
  are_applied = subst (λ (vs : List Verdict). AreApplied earlier [] vs earlier) (sym none) (none_applied earlier);
}

module _ (script done state : ℕ) (earlier later : StoreHistory) (verdicts : List Verdict)
    (so : SoFar script done state earlier later verdicts) where
  -- there are as many verdicts as events
  pub as_many : length verdicts ≡ done
  as_many = so.are_applied.a_verdict_each ∙ many_events script script done

  -- the events behind the earlier ones leave room for one more
  pub room_so_far : (n : ℕ) → done < n → length earlier.worker.events + n ≤ MAX_EVENTS
      → length later.worker.events < MAX_EVENTS
  room_so_far n few room =
      let more = more_events earlier later (events_behind script script done) verdicts so.are_applied in
      let many = many_events script script done in omega (arith, more, many, few, room)

  -- one event more
  pub one_event_more : (next : ℕ) (event : Event) (latest : StoreHistory) (more : List Verdict)
      → next ≡ next_state state → event ≡ event_at script next → IsToldBehind later event verdicts latest more
      → SoFar script (done + 1) next earlier latest more
  one_event_more next event latest more stepped same told =
      let before : List Event = events_behind script script done in
      let at : next ≡ state_behind script (suc done) =
      stepped ∙ ap (λ (x : ℕ). next_state x) so.at ∙ sym (state_suc script done) in
      let events : events_behind script script (suc done) ≡ before ++ event ∷ [] =
      events_suc script script done
      ∙ ap (λ (e : Event). before ++ e ∷ []) (ap (λ (x : ℕ). event_at script x) (sym at) ∙ sym same) in
      let applied : AreApplied earlier (events_behind script script (suc done)) more latest =
      subst (λ (es : List Event). AreApplied earlier es more latest) (sym events)
      (applied_more earlier later latest before event verdicts more so.are_applied told) in
      subst (λ (k : ℕ). SoFar script k next earlier latest more) (sym (add-one done))
      (record { at = at; are_applied = applied })
