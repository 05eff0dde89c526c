-- Each metric of a legal log was made by an entry, which has its number and its symbol numbers.
use Rattle.std.proofs.Common.{◌≡◌, ℕ, zero, suc, ◌+◌, ◌<◌, ◌≤◌, Some, List, [], ◌∷◌, ◌++◌, length, slice_get, refl, ap, sym, ◌∙◌, arith, inl, inr}
use Rattle.std.proofs.lemmas.Bool.Decides.{leb_tells}
use Rattle.std.proofs.lemmas.List.{length-append, length-map}
use Rattle.stat_defs.specs.declared.configs.ScopeSpec.{ScopeSpec}
use Rattle.stat_defs.specs.declared.events.Key.{Key}
use Rattle.stat_defs.specs.declared.history.Call.{Call}
use Rattle.stat_defs.specs.declared.history.Call.TheVariants as call
use Rattle.stat_defs.specs.declared.history.Entry.{Entry}
use Rattle.stat_defs.specs.declared.history.Reply.{Reply}
use Rattle.stat_defs.specs.declared.history.Reply.TheVariants as reply
use Rattle.stat_defs.specs.declared.ids.MetricId.{MetricId}
use Rattle.stat_defs.specs.declared.metrics.Metric.{Metric}
use Rattle.stat_defs.specs.Names.{tokens}
use Rattle.symbol_table.specs.Drawing.{DrawsAll}
use Rattle.symbol_table.proofs.DrawingLemmas.{drawn_length}
use Rattle.book_state.specs.Finding.{Outcome, NoScope, Rejected, Known, NoRoom, OverLimit, New, outcome, scope_of, name_of}
use Rattle.book_state.specs.State.{NameRules, Row, Seat, State, Uses}
use Rattle.book_state.specs.Step.{effect, Allowed, Tells, on_seat, on_metric, found, made, released, swept}
use Rattle.book_state.specs.Log.{empty, replay_from, replay, Run, Legal}
use Rattle.book_state.proofs.Lists.{some_same, get_within, get_push_last, length-change_at}
use Rattle.book_state.proofs.Staying.{run_still}
use Rattle.flush_view.specs.Laws.{IsMadeIn}

metrics_of_seat : (f : Seat → Seat) (by : ℕ) (s : State) → (on_seat f by s).metrics ≡ s.metrics
metrics_of_seat f zero s = refl
metrics_of_seat f (suc at) s = refl

-- a metric of this number was made, or there are as many metrics as before
module _ (rules : NameRules) where
  record Makes (by : ℕ) (c : Call) (r : Reply) (s : State) (id : ℕ) : Type 0 where
    key : Key
    new : MetricId
    numbers : List ℕ
    called : c ≡ call.Find key
    replied : r ≡ reply.Made new numbers
    number : new.0 ≡ id
    drawn : length numbers ≡ length (tokens (name_of s key))
    there : slice_get (effect rules by c r s).metrics id ≡ Some (made rules s key numbers)

  told : (s : State) (key : Key) (o : Outcome) (new : MetricId) (numbers : List ℕ) → Tells s key o (reply.Made new numbers)
      → (new.0 ≡ length s.metrics) × DrawsAll (Uses s) (tokens (name_of s key)) numbers
  told s key NoScope new numbers is = absurd is
  told s key Rejected new numbers is = absurd is
  told s key (Known known) new numbers is = absurd is
  told s key NoRoom new numbers is = absurd is
  told s key OverLimit new numbers is = absurd is
  told s key New new numbers is = is

  same_count : (by : ℕ) (c : Call) (r : Reply) (s : State) (id : ℕ) → length s.metrics ≤ id → id < length (effect rules by c r s).metrics
      → length (effect rules by c r s).metrics ≡ length s.metrics → Makes by c r s id
  same_count by c r s id low high same = absurd (omega (arith, low, high, same))

  step_made : (by : ℕ) (c : Call) (r : Reply) (s : State) (id : ℕ) → Allowed rules by c r s → length s.metrics ≤ id
      → id < length (effect rules by c r s).metrics → Makes by c r s id
  step_made by (call.OpenScope label prefix) (reply.Opened scope) s id may low high = same_count by _ _ s id low high refl
  step_made by (call.Release label) (reply.Released scope) s id may low high =
      same_count by (call.Release label) (reply.Released scope) s id low high (length-map s.metrics (released scope.0 (s.releases + 1)))
  step_made by (call.Find key) (reply.Made new numbers) s id may low high =
      let more : State = record s { metrics = s.metrics ++ made rules s key numbers ∷ [] } in
      let tells = told s key (outcome rules s key) new numbers may.1 in
      let stay = metrics_of_seat _ by more in
      let count : length (effect rules by (call.Find key) (reply.Made new numbers) s).metrics ≡ length s.metrics + 1 =
      ap (λ (l : List Row). length l) stay ∙ length-append s.metrics (made rules s key numbers ∷ []) in
      let last : id ≡ length s.metrics = omega (arith, low, high, count) in
      record {
        key = key;
        new = new;
        numbers = numbers;
        called = refl;
        replied = refl;
        number = tells.0 ∙ sym last;
        drawn = drawn_length (Uses s) (tokens (name_of s key)) numbers tells.1;
        there = ap (λ (l : List Row). slice_get l id) stay ∙ get_push_last s.metrics (made rules s key numbers) id last;
      }
  step_made by (call.Find key) (reply.Found known) s id may low high =
      let live : State = on_metric (found (scope_of s key) key.mode) known.0 s in
      same_count by (call.Find key) (reply.Found known) s id low high
      (ap (λ (l : List Row). length l) (metrics_of_seat _ by live) ∙ length-change_at (found (scope_of s key) key.mode) known.0 s.metrics)
  step_made by (call.Find key) reply.Rejected s id may low high =
      same_count by (call.Find key) reply.Rejected s id low high (ap (λ (l : List Row). length l) (metrics_of_seat _ by s))
  step_made by (call.SetText at text) reply.TextSet s id may low high =
      same_count by (call.SetText at text) reply.TextSet s id low high (length-change_at _ at.0 s.metrics)
  step_made by call.Ack (reply.Acked tag) s id may low high =
      same_count by call.Ack (reply.Acked tag) s id low high (ap (λ (l : List Row). length l) (metrics_of_seat _ by s))
  step_made by call.Sweep (reply.Swept n) s id may low high =
      same_count by call.Sweep (reply.Swept n) s id low high (length-map s.metrics (swept s.seats))
  step_made by call.End reply.Ended s id may low high =
      same_count by call.End reply.Ended s id low high (ap (λ (l : List Row). length l) (metrics_of_seat _ by s))
  step_made by _ _ s id may low high = absurd (omega (arith, low, high))

  entry_same : (e : Entry) (key : Key) (new : MetricId) (numbers : List ℕ) (id : ℕ) → e.call ≡ call.Find key → e.reply ≡ reply.Made new numbers
      → new.0 ≡ id → e ≡ record { seat = e.seat; call = call.Find key; reply = reply.Made (record { 0 = id }) numbers }
  entry_same e key new numbers id called replied number =
      ap (λ (c : Call). let made : Entry = record { seat = e.seat; call = c; reply = e.reply } in made) called
      ∙ ap (λ (r : Reply). let made : Entry = record { seat = e.seat; call = call.Find key; reply = r } in made) replied
      ∙ ap (λ (n : ℕ). let made : Entry = record { seat = e.seat; call = call.Find key; reply = reply.Made (record { 0 = n }) numbers } in made) number

  later : (e : Entry) (log : List Entry) (id : ℕ) (metric : Metric) → IsMadeIn log id metric → IsMadeIn (e ∷ log) id metric
  later e log id metric is = record { at = suc is.at; seat = is.seat; key = is.key; entry = is.entry; each = is.each }

  made_from : (s : State) (log : List Entry) (id : ℕ) (row : Row) → Run rules s log → length s.metrics ≤ id
      → slice_get (replay_from rules s log).metrics id ≡ Some row → IsMadeIn log id row.metric
  made_from s [] id row run low there = let within = get_within s.metrics id row there in absurd (omega (arith, low, within))
  made_from s (e ∷ log) id row run low there =
      let next : State = effect rules e.seat e.call e.reply s in
      elim (leb_tells (length next.metrics) id) [
        | inl h ↦ later e log id row.metric (made_from next log id row run.1 h.1 there)
        | inr h ↦
            let makes = step_made e.seat e.call e.reply s id run.0 low h.1 in
            let still = run_still rules next log id (made rules s makes.key makes.numbers) makes.there in
            let same : still.0 ≡ row = some_same still.0 row (sym still.1 ∙ there) in
            let numbers : row.metric.numbers ≡ makes.numbers = ap (λ (x : Row). x.metric.numbers) (sym same) ∙ still.2.numbers in
            let name : row.metric.name ≡ name_of s makes.key = ap (λ (x : Row). x.metric.name) (sym same) ∙ still.2.name in
            let entry = entry_same e makes.key makes.new makes.numbers id makes.called makes.replied makes.number in
            record {
              at = 0;
              seat = e.seat;
              key = makes.key;
              entry = ap (λ (x : Entry). Some x) entry
                  ∙ ap (λ (ns : List ℕ). Some (record { seat = e.seat; call = call.Find makes.key; reply = reply.Made (record { 0 = id }) ns })) (sym numbers);
              each = ap (λ (ns : List ℕ). length ns) numbers ∙ makes.drawn ∙ ap (λ (n : List ℕ). length (tokens n)) (sym name);
            }
      ]

pub made_in : (rules : NameRules) (scopes : List ScopeSpec) (workers : ℕ) (log : List Entry) (id : ℕ) (row : Row) → Legal rules scopes workers log
    → slice_get (replay rules workers log).metrics id ≡ Some row → IsMadeIn log id row.metric
made_in rules scopes workers log id row legal there = made_from rules (empty workers) log id row legal.steps (omega arith) there
