-- Where no number is free, an event has one verdict and makes one list of entries.
use Rattle.std.proofs.Common.{◌≡◌, ℕ, ◌<◌, ◌≤◌, false, Option, None, Some, List, [], ◌∷◌, refl, ap, sym, ◌∙◌, subst, arith, inl, inr}
use Rattle.std.specs.Option.{IsSomeAnd, option_map_or}
use Rattle.stat_defs.specs.declared.events.Key.{Key}
use Rattle.stat_defs.specs.declared.events.Event.{Event}
use Rattle.stat_defs.specs.declared.events.Event.TheVariants as event
use Rattle.stat_defs.specs.declared.history.Call.{Call}
use Rattle.stat_defs.specs.declared.history.Call.TheVariants as call
use Rattle.stat_defs.specs.declared.history.Reply.{Reply}
use Rattle.stat_defs.specs.declared.history.Reply.TheVariants as reply
use Rattle.stat_defs.specs.declared.history.Verdict.{Verdict}
use Rattle.stat_defs.specs.declared.history.Verdict.TheVariants as verdict
use Rattle.book_state.specs.State.{NameRules, State, Seat, seat_of}
use Rattle.book_state.specs.Step.{Allowed, effect}
use Rattle.book_state.specs.Log.{is_sweep}
use Rattle.book_state.specs.Follows.{Own, verdict_of, tag_of, MakesOne, SetsText, Finds, Makes, MakesAcked}
use Rattle.book_state.proofs.Lists.{some_same}
use Rattle.ledger.specs.OneReport.{IsPacked, AreSteps}
use Rattle.ledger.proofs.Lists.{cons_same}
use Rattle.ledger.proofs.Replies.{one_reply}
use Rattle.ledger.proofs.Packed.{stays_packed}

own_of : (c d : Call) (r q : Reply) (s t : State) → c ≡ d → r ≡ q → s ≡ t → ◌≡◌ {A = Own} (record { call = c; reply = r; after = s }) (record { call = d; reply = q; after = t })
own_of c d r q s t e f g = cc

effect_of : (rules : NameRules) (seat : ℕ) (c d : Call) (r q : Reply) (s : State) → c ≡ d → r ≡ q → effect rules seat c r s ≡ effect rules seat d q s
effect_of rules seat c d r q s e f = ap (λ (x : Call). effect rules seat x r s) e ∙ ap (λ (x : Reply). effect rules seat d x s) f

module _ (rules : NameRules) (seat : ℕ) where
  -- one step of the seat
  pub IsStep : State → Own → Type 0
  IsStep s o = Allowed rules seat o.call o.reply s × (o.after ≡ effect rules seat o.call o.reply s)

  pub one_step : (s : State) (o p : Own) → IsPacked s.metrics → o.call ≡ p.call → Allowed rules seat o.call o.reply s → o.after ≡ effect rules seat o.call o.reply s
      → Allowed rules seat p.call p.reply s → p.after ≡ effect rules seat p.call p.reply s → o ≡ p
  one_step s o p packed same a after b later =
      let replies : o.reply ≡ p.reply = one_reply rules s seat o.call o.reply p.reply packed a (subst (λ (c : Call). Allowed rules seat c p.reply s) (sym same) b) in
      own_of o.call p.call o.reply p.reply o.after p.after same replies (after ∙ effect_of rules seat o.call p.call o.reply p.reply s same replies ∙ sym later)

  pub after_packed : (s : State) (o : Own) (c : Call) → IsPacked s.metrics → o.call ≡ c → is_sweep c ≡ false → Allowed rules seat o.call o.reply s → o.after ≡ effect rules seat o.call o.reply s → IsPacked o.after.metrics
  after_packed s o c packed is no_sweep a after =
      subst (λ (t : State). IsPacked t.metrics) (sym after) (stays_packed rules s seat o.call o.reply packed (ap is_sweep is ∙ no_sweep) a)

  told_once : (o p : Own) (v w : Verdict) → o ≡ p → verdict_of o.reply ≡ Some v → verdict_of p.reply ≡ Some w → v ≡ w
  told_once o p v w same a b = some_same v w (sym a ∙ ap (λ (x : Own). verdict_of x.reply) same ∙ b)

  makes_once : (s : State) (c : Call) (v w : Verdict) (made others : List Own) → IsPacked s.metrics
      → MakesOne c v made → AreSteps rules seat s made → MakesOne c w others → AreSteps rules seat s others → (v ≡ w) × (made ≡ others)
  makes_once s c v w (o ∷ []) (p ∷ []) packed a steps b later =
      let same = one_step s o p packed (a.0 ∙ sym b.0) steps.0 steps.1 later.0 later.1 in
      (told_once o p v w same a.1 b.1, cons_same o p [] [] same refl)
  makes_once s c v w (o ∷ []) [] packed a steps b later = absurd b
  makes_once s c v w (o ∷ []) (p ∷ (q ∷ others)) packed a steps b later = absurd b
  makes_once s c v w [] others packed a steps b later = absurd a
  makes_once s c v w (o ∷ (q ∷ made)) others packed a steps b later = absurd a

  sets_once : (s : State) (e : Event) (v : Verdict) (made others : List Own) → IsPacked s.metrics
      → SetsText e v made → AreSteps rules seat s made → SetsText e v others → AreSteps rules seat s others → made ≡ others
  sets_once s (event.SetText label name text) (verdict.Accepted id) (o ∷ []) (p ∷ []) packed a steps b later =
      cons_same o p [] [] (one_step s o p packed (a ∙ sym b) steps.0 steps.1 later.0 later.1) refl
  sets_once s (event.SetText label name text) (verdict.Accepted id) (o ∷ []) [] packed a steps b later = absurd b
  sets_once s (event.SetText label name text) (verdict.Accepted id) (o ∷ []) (p ∷ (q ∷ others)) packed a steps b later = absurd b
  sets_once s (event.SetText label name text) (verdict.Accepted id) [] others packed a steps b later = absurd a
  sets_once s (event.SetText label name text) (verdict.Accepted id) (o ∷ (q ∷ made)) others packed a steps b later = absurd a
  sets_once s _ _ made others packed a steps b later = a ∙ sym b

  finds_once : (s : State) (key : Key) (e : Event) (held : Option Verdict) (v w : Verdict) (made others : List Own) → IsPacked s.metrics
      → Finds key e v held made → AreSteps rules seat s made → Finds key e w held others → AreSteps rules seat s others → (v ≡ w) × (made ≡ others)
  finds_once s key e (Some held) v w made others packed a steps b later =
      let same : v ≡ w = a.0 ∙ sym b.0 in
      (same, sets_once s e v made others packed a.1 steps (subst (λ (x : Verdict). SetsText e x others) (sym same) b.1) later)
  finds_once s key e None v w [] others packed a steps b later = absurd a
  finds_once s key e None v w (o ∷ made) [] packed a steps b later = absurd b
  finds_once s key e None v w (o ∷ made) (p ∷ others) packed a steps b later =
      let same = one_step s o p packed (a.0 ∙ sym b.0) steps.0 steps.1 later.0 later.1 in
      let told = told_once o p v w same a.1 b.1 in
      let packed_after = after_packed s o (call.Find key) packed a.0 refl steps.0 steps.1 in (
        told,
        cons_same o p made others same (sets_once o.after e v made others packed_after a.2 steps.2
            (subst (λ (x : Verdict). SetsText e x others) (sym told) b.2)
            (subst (λ (x : Own). AreSteps rules seat x.after others) (sym same) later.2)),
      )

  event_once : (s : State) (e : Event) (v w : Verdict) (made others : List Own) → IsPacked s.metrics
      → Makes seat s e v made → AreSteps rules seat s made → Makes seat s e w others → AreSteps rules seat s others → (v ≡ w) × (made ≡ others)
  event_once s (event.OpenScope label prefix) v w made others packed a steps b later = makes_once s (call.OpenScope label prefix) v w made others packed a steps b later
  event_once s (event.Release label) v w made others packed a steps b later = makes_once s (call.Release label) v w made others packed a steps b later
  event_once s (event.Inc label name n) v w made others packed a steps b later = finds_once s _ (event.Inc label name n) _ v w made others packed a steps b later
  event_once s (event.Gauge label name mode op n) v w made others packed a steps b later = finds_once s _ (event.Gauge label name mode op n) _ v w made others packed a steps b later
  event_once s (event.Rec label name n) v w made others packed a steps b later = finds_once s _ (event.Rec label name n) _ v w made others packed a steps b later
  event_once s (event.SetText label name text) v w made others packed a steps b later = finds_once s _ (event.SetText label name text) _ v w made others packed a steps b later

  -- an acknowledgement that is a step is due
  due_at : (s : State) (o : Option Seat) → IsSomeAnd o (λ row. (row.ended ≡ false) × (row.tag < s.releases)) → s.releases ≤ option_map_or (λ (row : Seat). row.tag) o 0 → ⊥
  due_at s None working none = working
  due_at s (Some row) working none = let below = working.1 in omega (arith, below, none)

  ack_due : (s : State) (c : Call) (r : Reply) → c ≡ call.Ack → Allowed rules seat c r s → s.releases ≤ tag_of s seat → ⊥
  ack_due s c r is allowed none = by_reply r (subst (λ (x : Call). Allowed rules seat x r s) is allowed) where
    by_reply : (r : Reply) → Allowed rules seat call.Ack r s → ⊥
    by_reply (reply.Acked tag) a = due_at s (seat_of s seat) a.0 none
    by_reply _ a = a

  pub acked_once : (s : State) (e : Event) (v w : Verdict) (made others : List Own) → IsPacked s.metrics
      → MakesAcked seat s e v made → AreSteps rules seat s made → MakesAcked seat s e w others → AreSteps rules seat s others → (v ≡ w) × (made ≡ others)
  acked_once s e v w made others packed (inl a) steps (inl b) later = event_once s e v w made others packed a.1 steps b.1 later
  acked_once s e v w made others packed (inl a) steps (inr b) later =
      let first : AreSteps rules seat s (b.0 ∷ b.1) = subst (λ (l : List Own). AreSteps rules seat s l) b.2 later in
      absurd (ack_due s b.0.call b.0.reply b.3 first.0 a.0)
  acked_once s e v w made others packed (inr a) steps (inl b) later =
      let first : AreSteps rules seat s (a.0 ∷ a.1) = subst (λ (l : List Own). AreSteps rules seat s l) a.2 steps in
      absurd (ack_due s a.0.call a.0.reply a.3 first.0 b.0)
  acked_once s e v w made others packed (inr a) steps (inr b) later =
      let first : AreSteps rules seat s (a.0 ∷ a.1) = subst (λ (l : List Own). AreSteps rules seat s l) a.2 steps in
      let second : AreSteps rules seat s (b.0 ∷ b.1) = subst (λ (l : List Own). AreSteps rules seat s l) b.2 later in
      let same = one_step s a.0 b.0 packed (a.3 ∙ sym b.3) first.0 first.1 second.0 second.1 in
      let rest = event_once a.0.after e v w a.1 b.1 (after_packed s a.0 call.Ack packed a.3 refl first.0 first.1) a.4 first.2
      (subst (λ (x : Own). Makes seat x.after e w b.1) (sym same) b.4)
      (subst (λ (x : Own). AreSteps rules seat x.after b.1) (sym same) second.2) in
      (rest.0, a.2 ∙ cons_same a.0 b.0 a.1 b.1 same rest.1 ∙ sym b.2)
