-- The state after one entry more, whichever names are admitted.
use Rattle.std.proofs.Common.{◌≡◌, ℕ, List, [], ◌∷◌, ◌++◌, refl, ap, sym, ◌∙◌, subst}
use Rattle.stat_defs.specs.declared.configs.TagSpec.{TagSpec}
use Rattle.stat_defs.specs.declared.metrics.Tagged.{Tagged}
use Rattle.stat_defs.specs.declared.history.Call.{Call}
use Rattle.stat_defs.specs.declared.history.Call.TheVariants as call
use Rattle.stat_defs.specs.declared.history.Reply.{Reply}
use Rattle.stat_defs.specs.declared.history.Reply.TheVariants as reply
use Rattle.stat_defs.specs.declared.history.Entry.{Entry}
use Rattle.stat_defs.specs.declared.ids.ScopeId.{ScopeId}
use Rattle.tag_rules.specs.Tagging.{tagged}
use Rattle.book_state.specs.State.{NameRules, State}
use Rattle.book_state.specs.Step.{effect}
use Rattle.book_state.specs.Log.{replay_from, replay}
use Rattle.book_state.specs.RunState.{IsRunState}
use Rattle.book_state.specs.Stored.{StateView, Stored, IsStored, IsNext, drawing, after_entry, released_by}
use Rattle.book_state.proofs.Growing.{replayed}
use Rattle.book_state.proofs.Safety.{step_kept}

pub same_effect : (r r' : NameRules) → r.tagged ≡ r'.tagged → (by : ℕ) (c : Call) (a : Reply) (s : State) → effect r by c a s ≡ effect r' by c a s
same_effect r r' e by (call.Find key) (reply.Made id numbers) s =
    ap (λ (t : List ℕ → Tagged). effect (record { admits = r.admits; tagged = t }) by (call.Find key) (reply.Made id numbers) s) e
same_effect r r' e by c a s = refl

pub same_replay_from : (r r' : NameRules) → r.tagged ≡ r'.tagged → (s : State) (log : List Entry) → replay_from r s log ≡ replay_from r' s log
same_replay_from r r' e s [] = refl
same_replay_from r r' e s (x ∷ log) =
    ap (λ (t : State). replay_from r t log) (same_effect r r' e x.seat x.call x.reply s) ∙ same_replay_from r r' e (effect r' x.seat x.call x.reply s) log

pub drawn : (tags : List TagSpec) → (drawing tags).tagged ≡ tagged tags
unfolding drawing
drawn tags = refl

pub next_run : (v : StateView) (e : Entry) → IsNext v e → IsRunState v.state → IsRunState (after_entry v e).state
next_run v e n is = subst IsRunState (same_effect n.rules (drawing v.tags) (n.tags ∙ sym (drawn v.tags)) e.seat e.call e.reply v.state)
    (step_kept n.rules e.seat e.call e.reply v.state is n.allowed)

module _ (tags : List TagSpec) (workers workers' : ℕ) (past past' : List Entry) (e : Entry) (same : workers' ≡ workers) (more : past' ≡ past ++ e ∷ []) where
  pub replay_with : replay (drawing tags) workers' past' ≡ effect (drawing tags) e.seat e.call e.reply (replay (drawing tags) workers past)
  replay_with = (λ i. replay (drawing tags) (same i) (more i)) ∙ replayed (drawing tags) workers past e

  pub kept_with : (held : Stored) → IsStored held (effect (drawing tags) e.seat e.call e.reply (replay (drawing tags) workers past)) → IsStored held (replay (drawing tags) workers' past')
  kept_with held st = subst (λ (s : State). IsStored held s) (sym replay_with) st

  pub seen_with : (released released' : List ScopeId) (old : StateView) → ◌≡◌ {A = StateView} (record { tags = tags; state = replay (drawing tags) workers past; released = released }) old
      → released' ≡ released ++ released_by e.call e.reply
      → ◌≡◌ {A = StateView} (record { tags = tags; state = replay (drawing tags) workers' past'; released = released' }) (after_entry old e)
  seen_with released released' old is more_released =
      (λ i. record { tags = tags; state = replay_with i; released = more_released i }) ∙ ap (λ (v : StateView). after_entry v e) is
