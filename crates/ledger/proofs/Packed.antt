-- Where no number is free, none is free after a call that is no sweep.
use Rattle.std.proofs.Common.{◌≡◌, ℕ, zero, suc, ◌+◌, ◌&&◌, cond, not, Bool, true, false, List, [], ◌∷◌, ◌++◌, map, refl, ap, sym, ◌∙◌, subst, arith, append_assoc, append-nil}
use Rattle.std.specs.List.{list_all, flat_map, zip}
use Rattle.stat_defs.specs.declared.ids.Mode.{Mode}
use Rattle.stat_defs.specs.declared.ids.MetricId.{MetricId}
use Rattle.stat_defs.specs.declared.events.Key.{Key}
use Rattle.stat_defs.specs.declared.history.Call.{Call}
use Rattle.stat_defs.specs.declared.history.Call.TheVariants as call
use Rattle.stat_defs.specs.declared.history.Reply.{Reply}
use Rattle.stat_defs.specs.declared.history.Reply.TheVariants as reply
use Rattle.stat_defs.specs.Names.{tokens}
use Rattle.symbol_table.specs.Drawing.{DrawsAll}
use Rattle.book_state.specs.State.{NameRules, Row, State, Seat, Uses, is_gone, symbols_of, bears}
use Rattle.book_state.specs.Finding.{Outcome, NoScope, Rejected, Known, NoRoom, OverLimit, New, outcome, name_of, scope_of}
use Rattle.book_state.specs.Step.{Allowed, Tells, effect, on_seat, change_at, found, released, left_to, made}
use Rattle.book_state.specs.Log.{empty, is_sweep}
use Rattle.book_state.proofs.Computed.{In}
use Rattle.book_state.proofs.Lists.{not_some, true_false, both}
use Rattle.ledger.specs.OneReport.{AreDense, IsPacked, is_not_gone}
use Rattle.ledger.proofs.Drawings.{dense_all}

not_true : (b : Bool) → not b ≡ true → b ≡ false
not_true true e = absurd (true_false (sym e))
not_true false e = refl

and_true : (a b : Bool) → a ≡ true → b ≡ true → (a && b) ≡ true
and_true true b e f = f
and_true false b e f = absurd (true_false (sym e))

-- the row after a call has the symbols that it had before, and is not gone
abbrev Stays : Row → Row → Type 0
Stays row after = (symbols_of after ≡ symbols_of row) × (is_gone after.metric.life ≡ false)

abbrev Keeps : (Row → Row) → Type 0
Keeps f = (row : Row) → is_gone row.metric.life ≡ false → Stays row (f row)

abbrev AllStay : List Row → List Row → Type 0
AllStay rows after = (flat_map symbols_of after ≡ flat_map symbols_of rows) × (list_all is_not_gone after ≡ true)

one_more : (row after : Row) (rows others : List Row) → Stays row after → AllStay rows others → AllStay (row ∷ rows) (after ∷ others)
one_more row after rows others here rest = (
  ap (λ (l : List (List ℕ × ℕ)). l ++ flat_map symbols_of others) here.0 ∙ ap (λ (l : List (List ℕ × ℕ)). symbols_of row ++ l) rest.0,
  and_true (is_not_gone after) (list_all is_not_gone others) (ap not here.1) rest.1,
)

at_all : (f : Row → Row) → Keeps f → (rows : List Row) → list_all is_not_gone rows ≡ true → AllStay rows (map f rows)
at_all f keeps [] left = (refl, refl)
at_all f keeps (row ∷ rows) left =
    let parts = both (is_not_gone row) (list_all is_not_gone rows) left in
    one_more row (f row) rows (map f rows) (keeps row (not_true (is_gone row.metric.life) parts.0)) (at_all f keeps rows parts.1)

at_one : (f : Row → Row) → Keeps f → (i : ℕ) (rows : List Row) → list_all is_not_gone rows ≡ true → AllStay rows (change_at f i rows)
at_one f keeps i [] left = (refl, refl)
at_one f keeps zero (row ∷ rows) left =
    let parts = both (is_not_gone row) (list_all is_not_gone rows) left in
    one_more row (f row) rows rows (keeps row (not_true (is_gone row.metric.life) parts.0)) (refl, parts.1)
at_one f keeps (suc i) (row ∷ rows) left =
    let parts = both (is_not_gone row) (list_all is_not_gone rows) left in
    one_more row row rows (change_at f i rows) (refl, not_true (is_gone row.metric.life) parts.0) (at_one f keeps i rows parts.1)

symbols_left : (row : Row) → is_gone row.metric.life ≡ false → zip (tokens row.metric.name) row.metric.numbers ≡ symbols_of row
symbols_left row left = sym (ap (λ (b : Bool). cond b [] (zip (tokens row.metric.name) row.metric.numbers)) left)

found_stays : (scope : ℕ) (mode : Mode) → Keeps (found scope mode)
found_stays scope mode row left = (symbols_left row left, refl)

either : (row : Row) (t : Bool) (one other : Row) → Stays row one → Stays row other → Stays row (cond t one other)
either row true one other a b = a
either row false one other a b = b

left_to_stays : (tag : ℕ) (row : Row) → is_gone row.metric.life ≡ false → (bearers : List ℕ) → Stays row (left_to tag row.metric bearers)
left_to_stays tag row left [] = (symbols_left row left, refl)
left_to_stays tag row left (b ∷ bs) = (refl, left)

released_stays : (scope tag : ℕ) → Keeps (released scope tag)
released_stays scope tag row left = either row (bears scope row) _ row (left_to_stays tag row left _) (refl, left)

pub repacked : (rows after : List Row) → AllStay rows after → IsPacked rows → IsPacked after
repacked rows after stay packed = record { left = stay.1; dense = subst (λ (l : List (List ℕ × ℕ)). AreDense (In l)) (sym stay.0) packed.dense }

same_metrics : (rows after : List Row) → after ≡ rows → IsPacked rows → IsPacked after
same_metrics rows after e packed = subst (λ (l : List Row). IsPacked l) (sym e) packed

on_seat_metrics : (f : Seat → Seat) (seat : ℕ) (s : State) → (on_seat f seat s).metrics ≡ s.metrics
on_seat_metrics f zero s = refl
on_seat_metrics f (suc at) s = refl

symbols_push : (rows : List Row) (row : Row) → flat_map symbols_of (rows ++ row ∷ []) ≡ flat_map symbols_of rows ++ symbols_of row
symbols_push [] row = append-nil (symbols_of row)
symbols_push (r ∷ rows) row = ap (λ (l : List (List ℕ × ℕ)). symbols_of r ++ l) (symbols_push rows row) ∙ sym (append_assoc (symbols_of r) (flat_map symbols_of rows) (symbols_of row))

left_push : (rows : List Row) (row : Row) → list_all is_not_gone rows ≡ true → is_not_gone row ≡ true → list_all is_not_gone (rows ++ row ∷ []) ≡ true
left_push [] row left here = and_true (is_not_gone row) true here refl
left_push (r ∷ rows) row left here = let parts = both (is_not_gone r) (list_all is_not_gone rows) left in and_true (is_not_gone r) _ parts.0 (left_push rows row parts.1 here)

drawn : (s : State) (key : Key) (o : Outcome) (id : MetricId) (numbers : List ℕ) → Tells s key o (reply.Made id numbers) → DrawsAll (Uses s) (tokens (name_of s key)) numbers
drawn s key NoScope id numbers tells = absurd tells
drawn s key Rejected id numbers tells = absurd tells
drawn s key (Known known) id numbers tells = absurd tells
drawn s key NoRoom id numbers tells = absurd tells
drawn s key OverLimit id numbers tells = absurd tells
drawn s key New id numbers tells = tells.1

made_packed : (rules : NameRules) (s : State) (key : Key) (numbers : List ℕ) → IsPacked s.metrics → DrawsAll (Uses s) (tokens (name_of s key)) numbers → IsPacked (s.metrics ++ made rules s key numbers ∷ [])
made_packed rules s key numbers packed draws = record {
  left = left_push s.metrics (made rules s key numbers) packed.left refl;
  dense = subst (λ (l : List (List ℕ × ℕ)). AreDense (In l)) (sym (symbols_push s.metrics (made rules s key numbers)))
      (dense_all (Uses s) (flat_map symbols_of s.metrics) (record { to = λ t n u. u; from = λ t n u. u }) packed.dense (tokens (name_of s key)) numbers draws);
}

pub stays_packed : (rules : NameRules) (s : State) (seat : ℕ) (c : Call) (r : Reply) → IsPacked s.metrics → is_sweep c ≡ false → Allowed rules seat c r s → IsPacked (effect rules seat c r s).metrics
stays_packed rules s seat (call.OpenScope label prefix) (reply.Opened id) packed no_sweep allowed = packed
stays_packed rules s seat (call.Release label) (reply.Released id) packed no_sweep allowed =
    repacked s.metrics _ (at_all (released id.0 (s.releases + 1)) (released_stays id.0 (s.releases + 1)) s.metrics packed.left) packed
stays_packed rules s seat (call.Find key) (reply.Made id numbers) packed no_sweep allowed =
    same_metrics (s.metrics ++ made rules s key numbers ∷ []) _ (on_seat_metrics _ seat _) (made_packed rules s key numbers packed (drawn s key (outcome rules s key) id numbers allowed.1))
stays_packed rules s seat (call.Find key) (reply.Found id) packed no_sweep allowed =
    same_metrics (change_at (found (scope_of s key) key.mode) id.0 s.metrics) _ (on_seat_metrics _ seat _)
    (repacked s.metrics _ (at_one (found (scope_of s key) key.mode) (found_stays (scope_of s key) key.mode) id.0 s.metrics packed.left) packed)
stays_packed rules s seat (call.Find key) reply.Rejected packed no_sweep allowed = same_metrics s.metrics _ (on_seat_metrics _ seat s) packed
stays_packed rules s seat (call.SetText id text) reply.TextSet packed no_sweep allowed =
    repacked s.metrics _ (at_one (λ row. record row { metric = record row.metric { text = text } }) (λ row left. (refl, left)) id.0 s.metrics packed.left) packed
stays_packed rules s seat call.Ack (reply.Acked tag) packed no_sweep allowed = same_metrics s.metrics _ (on_seat_metrics _ seat s) packed
stays_packed rules s seat call.Sweep r packed no_sweep allowed = absurd (true_false no_sweep)
stays_packed rules s seat call.End reply.Ended packed no_sweep allowed = same_metrics s.metrics _ (on_seat_metrics _ seat s) packed
stays_packed rules s seat _ _ packed no_sweep allowed = packed

pub first_packed : (workers : ℕ) → IsPacked (empty workers).metrics
first_packed workers = record {
  left = refl;
  dense = record {
    top = 0;
    within = λ n u. absurd (not_some (u.0, n) u.1.1);
    all = λ n pos below. absurd (omega (arith, pos, below));
  };
}
