-- The text of a readout is the last one that the log sets.
use Rattle.std.proofs.Common.{◌≡◌, ◌==◌, ◌&&◌, ◌+◌, ◌<◌, ℕ, zero, suc, cond, Bool, true, false, Option, None, Some, List, [], ◌∷◌, ◌++◌, map, length, slice_get, refl, ap, sym, ◌∙◌, subst, arith, inl, inr}
use Rattle.std.specs.Prelude.{filter, filter_map, not, All}
use Rattle.std.specs.Option.{option_map, option_map_or, IsSomeAnd}
use Rattle.std.specs.List.{AllByRecursion, cons_option}
use Rattle.std.proofs.lemmas.Bool.{eqb-true}
use Rattle.std.proofs.lemmas.Bool.Decides.{eqb_tells}
use Rattle.std.proofs.lemmas.List.Elements.{recursion_from_All}
use Rattle.stat_defs.specs.declared.history.Call.{Call}
use Rattle.stat_defs.specs.declared.history.Call.TheVariants as call
use Rattle.stat_defs.specs.declared.history.Reply.{Reply}
use Rattle.stat_defs.specs.declared.history.Reply.TheVariants as reply
use Rattle.stat_defs.specs.declared.history.Entry.{Entry}
use Rattle.stat_defs.specs.declared.history.Verdict.{Verdict}
use Rattle.stat_defs.specs.declared.history.Verdict.TheVariants as verdict
use Rattle.stat_defs.specs.declared.ids.Kind.TheVariants.{Text}
use Rattle.stat_defs.specs.Keys.{Held, same_kind}
use Rattle.book_state.specs.State.{NameRules, Row, Seat, State, seat_of, bears}
use Rattle.book_state.specs.Step.{effect, Allowed, change_at, on_seat, left_to, released, overdue, swept, accepts, holds_text, found as found_row, made as made_row}
use Rattle.book_state.specs.Finding.{scope_of}
use Rattle.book_state.specs.Log.{replay_from, Run}
use Rattle.book_state.specs.RunState.{IsRunState}
use Rattle.book_state.specs.SafeLaws.{NamesMetric}
use Rattle.book_state.proofs.Lists.{true_false, both, not_some, get_change_same, get_change_other}
use Rattle.book_state.proofs.Safety.{step_kept, run_metrics}
use Rattle.same_output.proofs.Tags.{all_get}
use Rattle.all_accepted.proofs.InLists.{all_in}
use Rattle.all_accepted.proofs.Tight.{from_any}

-- the text that a call sets on a metric
abbrev pub text_of_call : ℕ → Call → Option (List ℕ)
text_of_call id (call.SetText given text) = cond (given.0 == id) (Some text) None
text_of_call id _ = None

abbrev pub set_by : Option (List ℕ) → List ℕ → List ℕ
set_by (Some text) old = text
set_by None old = old

abbrev pub text_in_row : Option Row → List ℕ
text_in_row o = option_map_or (λ (row : Row). row.metric.text) o []

abbrev pub text_at : State → ℕ → List ℕ
text_at s id = text_in_row (slice_get s.metrics id)

text_push : (rows : List Row) (row : Row) (id : ℕ) → row.metric.text ≡ [] → text_in_row (slice_get (rows ++ row ∷ []) id) ≡ text_in_row (slice_get rows id)
text_push [] row zero none = none
text_push [] row (suc id) none = refl
text_push (x ∷ rows) row zero none = refl
text_push (x ∷ rows) row (suc id) none = text_push rows row id none

text_kept : (f : Row → Row) → ((row : Row) → (f row).metric.text ≡ row.metric.text) → (i : ℕ) (rows : List Row) (id : ℕ) → text_in_row (slice_get (change_at f i rows) id) ≡ text_in_row (slice_get rows id)
text_kept f keeps i [] id = refl
text_kept f keeps zero (x ∷ rows) zero = keeps x
text_kept f keeps zero (x ∷ rows) (suc id) = refl
text_kept f keeps (suc i) (x ∷ rows) zero = refl
text_kept f keeps (suc i) (x ∷ rows) (suc id) = text_kept f keeps i rows id

text_mapped : (f : Row → Row) → ((row : Row) → (f row).metric.text ≡ row.metric.text) → (rows : List Row) (id : ℕ) → text_in_row (slice_get (map f rows) id) ≡ text_in_row (slice_get rows id)
text_mapped f keeps [] id = refl
text_mapped f keeps (x ∷ rows) zero = keeps x
text_mapped f keeps (x ∷ rows) (suc id) = text_mapped f keeps rows id

some_within : (rows : List Row) (id : ℕ) → id < length rows → (row : Row) × (slice_get rows id ≡ Some row)
some_within [] id below = absurd (omega (arith, below))
some_within (x ∷ rows) zero below = (x, refl)
some_within (x ∷ rows) (suc id) below = some_within rows id (omega (arith, below))

abbrev with_text : List ℕ → Row → Row
with_text text row = record row { metric = record row.metric { text = text } }

text_set : (text : List ℕ) (i : ℕ) (rows : List Row) (id : ℕ) → ((i == id) ≡ true → id < length rows)
    → text_in_row (slice_get (change_at (with_text text) i rows) id) ≡ set_by (cond (i == id) (Some text) None) (text_in_row (slice_get rows id))
text_set text i rows id within = elim (eqb_tells i id) [
  | inl h ↦
      let some = some_within rows id (within h.0) in
      ap (λ (k : ℕ). text_in_row (slice_get (change_at (with_text text) k rows) id)) h.1
      ∙ ap text_in_row (get_change_same (with_text text) id rows ∙ ap (λ (o : Option Row). option_map (with_text text) o) some.1)
      ∙ sym (ap (λ (t : Bool). set_by (cond t (Some text) None) (text_in_row (slice_get rows id))) h.0)
  | inr h ↦
      ap text_in_row (get_change_other (with_text text) i rows id (λ same. h.1 (sym same)))
      ∙ sym (ap (λ (t : Bool). set_by (cond t (Some text) None) (text_in_row (slice_get rows id))) h.0)
]

cond_text : (t : Bool) (a b : Row) (text : List ℕ) → a.metric.text ≡ text → b.metric.text ≡ text → (cond t a b).metric.text ≡ text
cond_text true a b text one other = one
cond_text false a b text one other = other

left_text : (tag : ℕ) (row : Row) (left : List ℕ) → (left_to tag row.metric left).metric.text ≡ row.metric.text
left_text tag row [] = refl
left_text tag row (b ∷ bs) = refl

on_seat_text : (f : Seat → Seat) (by : ℕ) (s : State) (id : ℕ) → text_at (on_seat f by s) id ≡ text_at s id
on_seat_text f zero s id = refl
on_seat_text f (suc at) s id = refl

module _ (rules : NameRules) where
  step_text : (by : ℕ) (c : Call) (r : Reply) (s : State) (id : ℕ) → Allowed rules by c r s → ((given : _) (text : List ℕ) → c ≡ call.SetText given text → given.0 < length s.metrics)
      → text_at (effect rules by c r s) id ≡ set_by (text_of_call id c) (text_at s id)
  step_text by (call.OpenScope label prefix) (reply.Opened scope) s id allowed within = refl
  step_text by (call.Release label) (reply.Released scope) s id allowed within =
      text_mapped (released scope.0 (s.releases + 1))
      (λ row. cond_text (bears scope.0 row) (left_to (s.releases + 1) row.metric (filter (λ b. not (scope.0 == b)) row.bearers)) row row.metric.text (left_text (s.releases + 1) row (filter (λ b. not (scope.0 == b)) row.bearers)) refl) s.metrics id
  step_text by (call.Find key) (reply.Made given numbers) s id allowed within =
      on_seat_text _ by (record s { metrics = s.metrics ++ made_row rules s key numbers ∷ [] }) id ∙ text_push s.metrics (made_row rules s key numbers) id refl
  step_text by (call.Find key) (reply.Found given) s id allowed within =
      on_seat_text _ by (record s { metrics = change_at (found_row (scope_of s key) key.mode) given.0 s.metrics }) id ∙ text_kept (found_row (scope_of s key) key.mode) (λ row. refl) given.0 s.metrics id
  step_text by (call.Find key) reply.Rejected s id allowed within = on_seat_text _ by s id
  step_text by (call.SetText given text) reply.TextSet s id allowed within =
      text_set text given.0 s.metrics id (λ same. subst (λ (k : ℕ). k < length s.metrics) (eqb-true given.0 id same) (within given text refl))
  step_text by call.Ack (reply.Acked tag) s id allowed within = on_seat_text _ by s id
  step_text by call.Sweep (reply.Swept n) s id allowed within = text_mapped (swept s.seats) (λ row. cond_text (overdue s.seats row.metric.life) _ row row.metric.text refl refl) s.metrics id
  step_text by call.End reply.Ended s id allowed within = on_seat_text _ by s id
  step_text by (call.SetText given text) _ s id allowed within = absurd allowed
  step_text by (call.OpenScope label prefix) _ s id allowed within = refl
  step_text by (call.Release label) _ s id allowed within = refl
  step_text by (call.Find key) _ s id allowed within = refl
  step_text by call.Ack _ s id allowed within = refl
  step_text by call.Sweep _ s id allowed within = refl
  step_text by call.End _ s id allowed within = refl

  -- a text is set on a metric that was made
  text_within : (by : ℕ) (c : Call) (r : Reply) (s : State) → IsRunState s → Allowed rules by c r s → (given : _) (text : List ℕ) → c ≡ call.SetText given text → given.0 < length s.metrics
  text_within by c r s state allowed given text is = by_reply r (subst (λ (x : Call). Allowed rules by x r s) is allowed) where
    of_held : (h : Held) → accepts given.0 h.verdict ≡ true → NamesMetric s h.key h.verdict → given.0 < length s.metrics
    of_held h passes names = by_verdict h.verdict passes names where
      by_verdict : (v : Verdict) → accepts given.0 v ≡ true → NamesMetric s h.key v → given.0 < length s.metrics
      by_verdict (verdict.Accepted held) same named = subst (λ (k : ℕ). k < length s.metrics) (eqb-true held.0 given.0 same) named.0
      by_verdict (verdict.Opened x) same named = absurd (true_false (sym same))
      by_verdict (verdict.Released x) same named = absurd (true_false (sym same))
      by_verdict verdict.LabelTaken same named = absurd (true_false (sym same))
      by_verdict verdict.NoScope same named = absurd (true_false (sym same))
      by_verdict verdict.Rejected same named = absurd (true_false (sym same))
      by_verdict verdict.OverLimit same named = absurd (true_false (sym same))
      by_verdict verdict.NoRoom same named = absurd (true_false (sym same))

    of_seat : (o : Option Seat) → seat_of s by ≡ o → IsSomeAnd o (λ row. (row.ended ≡ false) × (holds_text given.0 row ≡ true)) → given.0 < length s.metrics
    of_seat None at works = absurd works
    of_seat (Some row) at works =
        let held = from_any (λ (h : Held). accepts given.0 h.verdict && same_kind h.key.kind Text) row.held works.1 in
        let seats = recursion_from_All (λ (seat : Seat). All (λ (h : Held). NamesMetric s h.key h.verdict) seat.held) s.seats (run_metrics s state) in
        let here = at_seat by at seats in
        of_held held.0 (both (accepts given.0 held.0.verdict) (same_kind held.0.key.kind Text) held.2).0
        (all_in (λ (h : Held). NamesMetric s h.key h.verdict) row.held held.0 here held.1) where
          at_seat : (n : ℕ) → seat_of s n ≡ Some row → AllByRecursion (λ (seat : Seat). All (λ (h : Held). NamesMetric s h.key h.verdict) seat.held) s.seats → AllByRecursion (λ (h : Held). NamesMetric s h.key h.verdict) row.held
          at_seat zero found all = absurd (not_some row found)
          at_seat (suc n) found all = recursion_from_All (λ (h : Held). NamesMetric s h.key h.verdict) row.held (all_get (λ (seat : Seat). All (λ (h : Held). NamesMetric s h.key h.verdict) seat.held) s.seats n row all found)

    by_reply : (a : Reply) → Allowed rules by (call.SetText given text) a s → given.0 < length s.metrics
    by_reply reply.TextSet may = of_seat (seat_of s by) refl may
    by_reply _ may = absurd may

  abbrev pub last_text : List ℕ → List (List ℕ) → List ℕ
  last_text text [] = text
  last_text text (x ∷ xs) = last_text x xs

  abbrev pub texts_in : ℕ → List Entry → List (List ℕ)
  texts_in id log = filter_map (λ (e : Entry). text_of_call id e.call) log

  last_more : (text : List ℕ) (o : Option (List ℕ)) (xs : List (List ℕ)) → last_text (set_by o text) xs ≡ last_text text (cons_option o xs)
  last_more text None xs = refl
  last_more text (Some x) xs = refl

  pub run_text : (s : State) (log : List Entry) (id : ℕ) → IsRunState s → Run rules s log → text_at (replay_from rules s log) id ≡ last_text (text_at s id) (texts_in id log)
  run_text s [] id state run = refl
  run_text s (e ∷ log) id state run =
      run_text (effect rules e.seat e.call e.reply s) log id (step_kept rules e.seat e.call e.reply s state run.0) run.1
      ∙ ap (λ (t : List ℕ). last_text t (texts_in id log)) (step_text e.seat e.call e.reply s id run.0 (text_within e.seat e.call e.reply s state run.0))
      ∙ last_more (text_at s id) (text_of_call id e.call) (texts_in id log)
