-- Replies that leave the symbols as they are.
use Rattle.std.proofs.Common.{◌≡◌, ℕ, zero, suc, ◌+◌, Bool, true, false, cond, Some, List, [], ◌∷◌, ◌++◌, map, length, slice_get, zip, refl, ap, sym, ◌∙◌}
use Rattle.std.proofs.lemmas.List.{length-map}
use Rattle.std.specs.List.{flat_map}
use Rattle.stat_defs.specs.Names.{tokens}
use Rattle.stat_defs.specs.declared.events.Key.{Key}
use Rattle.stat_defs.specs.declared.history.Call.{Call}
use Rattle.stat_defs.specs.declared.history.Call.TheVariants as call
use Rattle.stat_defs.specs.declared.history.Reply.{Reply}
use Rattle.stat_defs.specs.declared.history.Reply.TheVariants as reply
use Rattle.stat_defs.specs.declared.metrics.Metric.{Metric}
use Rattle.book_state.specs.State.{NameRules, Row, Seat, State, bears, is_gone, symbols_of, symbols_in, live_scope, known}
use Rattle.book_state.specs.Finding.{scope_of, name_of, is_full, is_over_limit}
use Rattle.book_state.specs.Step.{effect, Allowed, change_at, on_seat, on_metric, found, left_to, released}
use Rattle.book_state.specs.RunState.{IsRunState}
use Rattle.book_state.proofs.Lists.{some_same, length-change_at}
use Rattle.book_state.proofs.Releasing.{others}
use Rattle.book_state.proofs.Finds.{known_at, tells_found}
use Rattle.stat_book.specs.Appending.{KeepsNames}

pub flat_same : {X Y : Type 0} (f : X → List Y) (g : X → X) (xs : List X) → ((i : ℕ) (x : X) → slice_get xs i ≡ Some x → f (g x) ≡ f x) → flat_map f (map g xs) ≡ flat_map f xs
flat_same f g [] same = refl
flat_same f g (x ∷ xs) same = (λ i. same 0 x refl i ++ flat_same f g xs (λ k y at. same (suc k) y at) i)

pub flat_change : {X Y : Type 0} (f : X → List Y) (g : X → X) (i : ℕ) (xs : List X) → ((x : X) → slice_get xs i ≡ Some x → f (g x) ≡ f x) → flat_map f (change_at g i xs) ≡ flat_map f xs
flat_change f g i [] same = refl
flat_change f g zero (x ∷ xs) same = ap (λ l. l ++ flat_map f xs) (same x refl)
flat_change f g (suc i) (x ∷ xs) same = ap (λ l. f x ++ l) (flat_change f g i xs same)

abbrev tokens_of : Metric → List (List ℕ × ℕ)
tokens_of m = zip (tokens m.name) m.numbers

left_symbols : (tag : ℕ) (m : Metric) (left : List ℕ) → is_gone m.life ≡ false → symbols_of (left_to tag m left) ≡ cond (is_gone m.life) [] (tokens_of m)
left_symbols tag m [] there = sym (ap (λ (b : Bool). cond b [] (tokens_of m)) there)
left_symbols tag m (b ∷ bs) there = refl

released_symbols : (scope tag : ℕ) (row : Row) (t : Bool) → (t ≡ true → is_gone row.metric.life ≡ false) → symbols_of (cond t (left_to tag row.metric (others scope row.bearers)) row) ≡ symbols_of row
released_symbols scope tag row true there = left_symbols tag row.metric (others scope row.bearers) (there refl)
released_symbols scope tag row false there = refl

pub seat_metrics : (f : Seat → Seat) (by : ℕ) (s : State) → (on_seat f by s).metrics ≡ s.metrics
seat_metrics f zero s = refl
seat_metrics f (suc at) s = refl

found_symbols : (scope : ℕ) (key : Key) (row : Row) → is_gone row.metric.life ≡ false → symbols_of (found scope key.mode row) ≡ symbols_of row
found_symbols scope key row there = sym (ap (λ (b : Bool). cond b [] (tokens_of row.metric)) there)

-- the symbols, and how many metrics there are
pub record Stay (s s' : State) : Type 0 where
  pub symbols : symbols_in s' ≡ symbols_in s
  pub count : length s'.metrics ≡ length s.metrics

stays : (s s' : State) → s'.metrics ≡ s.metrics → Stay s s'
stays s s' same = record { symbols = ap (flat_map symbols_of) same; count = ap length same }

pub names_stay : (rules : NameRules) (by : ℕ) (c : Call) (r : Reply) (s : State) → IsRunState s → Allowed rules by c r s → KeepsNames r → Stay s (effect rules by c r s)
names_stay rules by (call.OpenScope label prefix) (reply.Opened id) s is may keeps = stays s _ refl
names_stay rules by (call.Release label) (reply.Released id) s is may keeps = record {
  symbols = flat_same symbols_of (released id.0 (s.releases + 1)) s.metrics (λ i row at.
      released_symbols id.0 (s.releases + 1) row (bears id.0 row) (λ b. ap is_gone ((is.rows i row at).used id.0 b)));
  count = length-map s.metrics (released id.0 (s.releases + 1));
}
names_stay rules by (call.Find key) (reply.Made id numbers) s is may keeps = absurd keeps
names_stay rules by (call.Find key) (reply.Found id) s is may keeps =
    let live : State = on_metric (found (scope_of s key) key.mode) id.0 s in
    let told = tells_found s key (live_scope s key.label) (rules.admits (name_of s key)) (known s key.kind (name_of s key)) (is_full s) (is_over_limit s key.kind) id may.1 in
    let k = known_at s key.kind (name_of s key) id.0 told.2 in
    let same = seat_metrics _ by live in record {
      symbols = ap (flat_map symbols_of) same ∙ flat_change symbols_of (found (scope_of s key) key.mode) id.0 s.metrics (λ row at.
          found_symbols (scope_of s key) key row (ap (λ (x : Row). is_gone x.metric.life) (some_same row k.row (sym at ∙ k.at)) ∙ k.there));
      count = ap length same ∙ length-change_at (found (scope_of s key) key.mode) id.0 s.metrics;
    }
names_stay rules by (call.Find key) reply.Rejected s is may keeps = stays s _ (seat_metrics _ by s)
names_stay rules by (call.SetText id text) reply.TextSet s is may keeps = record {
  symbols = flat_change symbols_of (λ row. record row { metric = record row.metric { text = text } }) id.0 s.metrics (λ row at. refl);
  count = length-change_at (λ row. record row { metric = record row.metric { text = text } }) id.0 s.metrics;
}
names_stay rules by call.Ack (reply.Acked tag) s is may keeps = stays s _ (seat_metrics _ by s)
names_stay rules by call.Sweep (reply.Swept n) s is may keeps = absurd keeps
names_stay rules by call.End reply.Ended s is may keeps = stays s _ (seat_metrics _ by s)
names_stay rules by _ _ s is may keeps = stays s s refl
