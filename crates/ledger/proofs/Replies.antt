-- Where no number is free, a call has one reply.
use Rattle.std.proofs.Common.{◌≡◌, ℕ, Option, None, Some, List, refl, ap, sym, ◌∙◌}
use Rattle.std.specs.Prelude.{IsSome}
use Rattle.stat_defs.specs.declared.ids.MetricId.{MetricId}
use Rattle.stat_defs.specs.declared.ids.ScopeId.{ScopeId}
use Rattle.stat_defs.specs.declared.events.Key.{Key}
use Rattle.stat_defs.specs.declared.history.Call.{Call}
use Rattle.stat_defs.specs.declared.history.Call.TheVariants as call
use Rattle.stat_defs.specs.declared.history.Reply.{Reply}
use Rattle.stat_defs.specs.declared.history.Reply.TheVariants as reply
use Rattle.stat_defs.specs.Names.{tokens}
use Rattle.book_state.specs.State.{NameRules, State, Uses}
use Rattle.book_state.specs.Finding.{Outcome, NoScope, Rejected, Known, NoRoom, OverLimit, New, outcome, name_of}
use Rattle.book_state.specs.Step.{Allowed, Tells}
use Rattle.book_state.proofs.Lists.{some_same, not_some, true_false}
use Rattle.ledger.specs.OneReport.{AreDense, IsPacked}
use Rattle.ledger.proofs.Lists.{metric_id}
use Rattle.ledger.proofs.Drawings.{one_drawing}

scope_id : (a b : ScopeId) → a.0 ≡ b.0 → a ≡ b
scope_id a b e = ap (λ (n : ℕ). let id : ScopeId = record { 0 = n } in id) e

none_some : {X : Type 0} (o : Option X) → o ≡ None → IsSome o → ⊥
none_some None e some = true_false (sym some)
none_some (Some x) e some = not_some x (sym e)

none_and_some : {X : Type 0} (o : Option X) (x : X) → o ≡ None → o ≡ Some x → ⊥
none_and_some o x none some = not_some x (sym none ∙ some)

module _ (rules : NameRules) (seat : ℕ) (s : State) where
  opened : (label prefix : List ℕ) (one other : Reply) → Allowed rules seat (call.OpenScope label prefix) one s → Allowed rules seat (call.OpenScope label prefix) other s → one ≡ other
  opened label prefix (reply.Opened id) (reply.Opened new) a b = ap reply.Opened (scope_id id new (a.2 ∙ sym b.2))
  opened label prefix (reply.Opened id) reply.LabelTaken a b = absurd (none_some _ a.1 b.1)
  opened label prefix (reply.Opened id) _ a b = absurd b
  opened label prefix reply.LabelTaken (reply.Opened new) a b = absurd (none_some _ b.1 a.1)
  opened label prefix reply.LabelTaken reply.LabelTaken a b = refl
  opened label prefix reply.LabelTaken _ a b = absurd b
  opened label prefix _ other a b = absurd a

  released : (label : List ℕ) (one other : Reply) → Allowed rules seat (call.Release label) one s → Allowed rules seat (call.Release label) other s → one ≡ other
  released label (reply.Released id) (reply.Released new) a b = ap reply.Released (scope_id id new (some_same id.0 new.0 (sym a.1 ∙ b.1)))
  released label (reply.Released id) reply.NoScope a b = absurd (none_and_some _ id.0 b.1 a.1)
  released label (reply.Released id) _ a b = absurd b
  released label reply.NoScope (reply.Released new) a b = absurd (none_and_some _ new.0 a.1 b.1)
  released label reply.NoScope reply.NoScope a b = refl
  released label reply.NoScope _ a b = absurd b
  released label _ other a b = absurd a

  told_no_scope : (key : Key) (one other : Reply) → Tells s key NoScope one → Tells s key NoScope other → one ≡ other
  told_no_scope key reply.NoScope reply.NoScope a b = refl
  told_no_scope key reply.NoScope _ a b = absurd b
  told_no_scope key _ other a b = absurd a

  told_rejected : (key : Key) (one other : Reply) → Tells s key Rejected one → Tells s key Rejected other → one ≡ other
  told_rejected key reply.Rejected reply.Rejected a b = refl
  told_rejected key reply.Rejected _ a b = absurd b
  told_rejected key _ other a b = absurd a

  told_known : (key : Key) (known : ℕ) (one other : Reply) → Tells s key (Known known) one → Tells s key (Known known) other → one ≡ other
  told_known key known (reply.Found id) (reply.Found same) a b = ap reply.Found (metric_id id same (a ∙ sym b))
  told_known key known (reply.Found id) _ a b = absurd b
  told_known key known _ other a b = absurd a

  told_no_room : (key : Key) (one other : Reply) → Tells s key NoRoom one → Tells s key NoRoom other → one ≡ other
  told_no_room key reply.NoRoom reply.NoRoom a b = refl
  told_no_room key reply.NoRoom _ a b = absurd b
  told_no_room key _ other a b = absurd a

  told_over_limit : (key : Key) (one other : Reply) → Tells s key OverLimit one → Tells s key OverLimit other → one ≡ other
  told_over_limit key reply.OverLimit reply.OverLimit a b = refl
  told_over_limit key reply.OverLimit _ a b = absurd b
  told_over_limit key _ other a b = absurd a

  told_new : (key : Key) (one other : Reply) → AreDense (Uses s) → Tells s key New one → Tells s key New other → one ≡ other
  told_new key (reply.Made id numbers) (reply.Made same others) dense a b =
      ap (λ (i : MetricId). reply.Made i numbers) (metric_id id same (a.0 ∙ sym b.0))
      ∙ ap (λ (l : List ℕ). reply.Made same l) (one_drawing (Uses s) dense (tokens (name_of s key)) numbers others a.1 b.1)
  told_new key (reply.Made id numbers) _ dense a b = absurd b
  told_new key _ other dense a b = absurd a

  told : (key : Key) (o : Outcome) (one other : Reply) → AreDense (Uses s) → Tells s key o one → Tells s key o other → one ≡ other
  told key NoScope one other dense a b = told_no_scope key one other a b
  told key Rejected one other dense a b = told_rejected key one other a b
  told key (Known known) one other dense a b = told_known key known one other a b
  told key NoRoom one other dense a b = told_no_room key one other a b
  told key OverLimit one other dense a b = told_over_limit key one other a b
  told key New one other dense a b = told_new key one other dense a b

  set : (id : MetricId) (text : List ℕ) (one other : Reply) → Allowed rules seat (call.SetText id text) one s → Allowed rules seat (call.SetText id text) other s → one ≡ other
  set id text reply.TextSet reply.TextSet a b = refl
  set id text reply.TextSet _ a b = absurd b
  set id text _ other a b = absurd a

  acked : (one other : Reply) → Allowed rules seat call.Ack one s → Allowed rules seat call.Ack other s → one ≡ other
  acked (reply.Acked tag) (reply.Acked same) a b = ap reply.Acked (a.1 ∙ sym b.1)
  acked (reply.Acked tag) _ a b = absurd b
  acked _ other a b = absurd a

  swept : (one other : Reply) → Allowed rules seat call.Sweep one s → Allowed rules seat call.Sweep other s → one ≡ other
  swept (reply.Swept n) (reply.Swept same) a b = ap reply.Swept (a.1 ∙ sym b.1)
  swept (reply.Swept n) _ a b = absurd b
  swept _ other a b = absurd a

  ended : (one other : Reply) → Allowed rules seat call.End one s → Allowed rules seat call.End other s → one ≡ other
  ended reply.Ended reply.Ended a b = refl
  ended reply.Ended _ a b = absurd b
  ended _ other a b = absurd a

  by_call : (c : Call) (one other : Reply) → AreDense (Uses s) → Allowed rules seat c one s → Allowed rules seat c other s → one ≡ other
  by_call (call.OpenScope label prefix) one other dense a b = opened label prefix one other a b
  by_call (call.Release label) one other dense a b = released label one other a b
  by_call (call.Find key) one other dense a b = told key (outcome rules s key) one other dense a.1 b.1
  by_call (call.SetText id text) one other dense a b = set id text one other a b
  by_call call.Ack one other dense a b = acked one other a b
  by_call call.Sweep one other dense a b = swept one other a b
  by_call call.End one other dense a b = ended one other a b

pub one_reply : (rules : NameRules) (s : State) (seat : ℕ) (c : Call) (one other : Reply) → IsPacked s.metrics → Allowed rules seat c one s → Allowed rules seat c other s → one ≡ other
one_reply rules s seat c one other packed a b = by_call rules seat s c one other packed.dense a b
