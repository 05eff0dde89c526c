-- What is known of metrics, carried on by the changes and the calls of a log.
use Rattle.std.proofs.Common.{◌≡◌, ℕ, zero, suc, ◌+◌, ◌≤◌, Bool, true, false, cond, Option, Some, None, option_map, List, [], ◌∷◌, ◌++◌, map, fold, take, drop, length, slice_get, refl, ap, sym, ◌∙◌, subst, arith, length-append, append_assoc}
use Rattle.std.proofs.lemmas.List.{length-map, map-append}
use Rattle.stat_defs.specs.declared.events.Key.{Key}
use Rattle.stat_defs.specs.declared.ids.MetricId.{MetricId}
use Rattle.stat_defs.specs.declared.ids.Mode.{Mode}
use Rattle.stat_defs.specs.declared.history.Call.{Call}
use Rattle.stat_defs.specs.declared.history.Call.TheVariants as call
use Rattle.stat_defs.specs.declared.history.Reply.{Reply}
use Rattle.stat_defs.specs.declared.history.Reply.TheVariants as reply
use Rattle.stat_defs.specs.declared.history.Entry.{Entry}
use Rattle.stat_defs.specs.declared.history.NameOp.{NameOp}
use Rattle.stat_defs.specs.declared.history.NameOp.TheVariants as op
use Rattle.stat_defs.specs.declared.metrics.Life.TheVariants.{Gone}
use Rattle.stat_defs.specs.declared.metrics.Metric.{Metric}
use Rattle.book_state.specs.State.{NameRules, Row, Seat, State, bears, is_gone, ids_from, live_scope, known}
use Rattle.book_state.specs.Finding as finding
use Rattle.book_state.specs.Finding.{Outcome, outcome, scope_of, name_of, is_full, is_over_limit}
use Rattle.book_state.specs.Step.{effect, Allowed, Tells, change_at, on_seat, on_metric, found, made, left_to, released, overdue, overdue_in, swept}
use Rattle.book_state.specs.Log.{replay_from, Run}
use Rattle.book_state.specs.RunState.{IsRunState}
use Rattle.book_state.proofs.Lists.{not_some, some_same}
use Rattle.book_state.proofs.Releasing.{others}
use Rattle.book_state.proofs.Finds.{known_at, tells_found}
use Rattle.book_state.proofs.Safety.{step_kept}
use Rattle.name_changes.specs.Changes.{changes_by}
use Rattle.name_changes.proofs.Marks.{map-same, map-change}
use Rattle.stat_book.proofs.NamesStay.{seat_metrics}
use Rattle.stat_book.proofs.SweptNames.{gone_count}
use Rattle.flush_view.specs.Before.{Before, left_of, before_of}
use Rattle.flush_view.specs.Walk.{changed_left, left_after, changes_told}

abbrev of_row : Row → Option (List ℕ)
of_row row = left_of row.metric

-- a metric that was not gone keeps what is known of it
kept_left : (tag : ℕ) (metric : Metric) (bearers : List ℕ) → is_gone metric.life ≡ false
    → of_row (left_to tag metric bearers) ≡ left_of metric
kept_left tag metric [] there = λ i. cond (sym there i) None (Some metric.text)
kept_left tag metric (b ∷ bs) there = refl

released_left : (scope tag : ℕ) (row : Row) (t : Bool) → (t ≡ true → is_gone row.metric.life ≡ false)
    → of_row (cond t (left_to tag row.metric (others scope row.bearers)) row) ≡ of_row row
released_left scope tag row true there = kept_left tag row.metric (others scope row.bearers) (there refl)
released_left scope tag row false there = refl

found_left : (scope : ℕ) (mode : Mode) (row : Row) → is_gone row.metric.life ≡ false
    → of_row (found scope mode row) ≡ of_row row
found_left scope mode row there = λ i. cond (sym there i) None (Some row.metric.text)

abbrev with_text : List ℕ → Row → Row
with_text text row = record row { metric = record row.metric { text = text } }

text_left : (text : List ℕ) (id : ℕ) (rows : List Row)
    → map of_row (change_at (with_text text) id rows) ≡ change_at (option_map (λ old. text)) id (map of_row rows)
text_left text id [] = refl
text_left text zero (row ∷ rows) =
    ap (λ (left : Option (List ℕ)). left ∷ map of_row rows) (by_case (is_gone row.metric.life)) where
      by_case : (b : Bool) → cond b None (Some text) ≡ option_map (λ old. text) (cond b None (Some row.metric.text))
      by_case true = refl
      by_case false = refl
text_left text (suc id) (row ∷ rows) = ap (λ (l : Before). of_row row ∷ l) (text_left text id rows)

-- a sweep leaves nothing of the metrics that are overdue
change_behind : (f : Option (List ℕ) → Option (List ℕ)) (front : Before) (left : Option (List ℕ)) (rest : Before)
    → change_at f (length front) (front ++ left ∷ rest) ≡ front ++ f left ∷ rest
change_behind f [] left rest = refl
change_behind f (x ∷ front) left rest = ap (λ (l : Before). x ∷ l) (change_behind f front left rest)

abbrev gone_of : ℕ → List MetricId → List NameOp
gone_of at ids = map (λ id. op.Gone at id) ids

module _ (seats : List Seat) (at : ℕ) where
  abbrev is_over : Metric → Bool
  is_over metric = overdue seats metric.life

  abbrev ids_of : ℕ → List Row → List MetricId
  ids_of id rows = ids_from is_over id (map (λ (row : Row). row.metric) rows)

  -- what a sweep leaves of these rows, behind a front
  abbrev Leaves : Before → ℕ → List Row → Type 0
  Leaves front id rows =
      fold changed_left (front ++ map of_row rows) (gone_of at (ids_of id rows))
      ≡ front ++ map of_row (map (swept seats) rows)

  swept_left : (front : Before) (id : ℕ) (rows : List Row) → id ≡ length front → Leaves front id rows
  swept_left front id [] is = refl
  swept_left front id (row ∷ rows) is =
      by_case (is_over row.metric) (λ left. swept_left (front ++ left ∷ []) (id + 1) rows (next left)) where
        next : (left : Option (List ℕ)) → id + 1 ≡ length (front ++ left ∷ [])
        next left = let long = length-append front (left ∷ []) in omega (arith, is, long)

        behind : (left : Option (List ℕ)) → Leaves (front ++ left ∷ []) (id + 1) rows
            → fold changed_left (front ++ left ∷ map of_row rows) (gone_of at (ids_of (id + 1) rows))
            ≡ front ++ left ∷ map of_row (map (swept seats) rows)
        behind left rest =
            ap (λ (l : Before). fold changed_left l (gone_of at (ids_of (id + 1) rows)))
            (sym (append_assoc front (left ∷ []) (map of_row rows)))
            ∙ rest
            ∙ append_assoc front (left ∷ []) (map of_row (map (swept seats) rows))

        by_case : (b : Bool) → ((left : Option (List ℕ)) → Leaves (front ++ left ∷ []) (id + 1) rows)
            → fold changed_left (front ++ of_row row ∷ map of_row rows)
            (gone_of at (cond b (record { 0 = id } ∷ ids_of (id + 1) rows) (ids_of (id + 1) rows)))
            ≡ front ++ of_row (cond b (record row { metric = record row.metric { life = Gone } }) row)
            ∷ map of_row (map (swept seats) rows)
        by_case true rest =
            ap (λ (l : Before). fold changed_left l (gone_of at (ids_of (id + 1) rows)))
            (ap (λ (k : ℕ). change_at (λ left. None) k (front ++ of_row row ∷ map of_row rows)) is
            ∙ change_behind (λ left. None) front (of_row row) (map of_row rows))
            ∙ behind None (rest None)
        by_case false rest = behind (of_row row) (rest (of_row row))

-- what is known is carried on by the changes of an entry, and then by its call
pub step_left : (rules : NameRules) (by : ℕ) (c : Call) (r : Reply) (s : State) (at : ℕ) → IsRunState s
    → Allowed rules by c r s
    → left_after c (fold changed_left (before_of s) (changes_by s at c r)) ≡ before_of (effect rules by c r s)
step_left rules by (call.OpenScope label prefix) (reply.Opened id) s at is may = refl
step_left rules by (call.Release label) (reply.Released id) s at is may =
    sym (map-same of_row (released id.0 (s.releases + 1)) s.metrics (λ i row here.
    released_left id.0 (s.releases + 1) row (bears id.0 row) (λ b. ap is_gone ((is.rows i row here).used id.0 b))))
step_left rules by (call.Find key) (reply.Made id numbers) s at is may =
    sym (ap (λ (rows : List Row). map of_row rows)
    (seat_metrics _ by (record s { metrics = s.metrics ++ made rules s key numbers ∷ [] }))
    ∙ map-append of_row s.metrics (made rules s key numbers ∷ []))
step_left rules by (call.Find key) (reply.Found id) s at is may =
    let live : State = on_metric (found (scope_of s key) key.mode) id.0 s in
    let told = tells_found s key (live_scope s key.label) (rules.admits (name_of s key)) (known s key.kind (name_of s key)) (is_full s) (is_over_limit s key.kind) id may.1 in
    let k = known_at s key.kind (name_of s key) id.0 told.2 in
    sym (ap (λ (rows : List Row). map of_row rows) (seat_metrics _ by live)
    ∙ map-change of_row (found (scope_of s key) key.mode) id.0 s.metrics (λ row here.
    found_left (scope_of s key) key.mode row
    (ap (λ (x : Row). is_gone x.metric.life) (some_same row k.row (sym here ∙ k.at)) ∙ k.there)))
step_left rules by (call.Find key) reply.Rejected s at is may =
    sym (ap (λ (rows : List Row). map of_row rows) (seat_metrics _ by s))
step_left rules by (call.SetText id text) reply.TextSet s at is may = sym (text_left text id.0 s.metrics)
step_left rules by (call.SetText id text) _ s at is may = absurd may
step_left rules by call.Ack (reply.Acked tag) s at is may =
    sym (ap (λ (rows : List Row). map of_row rows) (seat_metrics _ by s))
step_left rules by call.Sweep (reply.Swept n) s at is may = swept_left s.seats at [] 0 s.metrics refl
step_left rules by call.End reply.Ended s at is may =
    sym (ap (λ (rows : List Row). map of_row rows) (seat_metrics _ by s))
step_left rules by _ _ s at is may = refl

-- no find comes to a sweep
no_sweep : (s : State) (key : Key) (o : Outcome) (n : ℕ) → Tells s key o (reply.Swept n) → ⊥
no_sweep s key finding.NoScope n tells = tells
no_sweep s key finding.Rejected n tells = tells
no_sweep s key (finding.Known id) n tells = tells
no_sweep s key finding.NoRoom n tells = tells
no_sweep s key finding.OverLimit n tells = tells
no_sweep s key finding.New n tells = tells

-- an entry makes as many changes as its reply says
pub changes_many : (rules : NameRules) (by : ℕ) (c : Call) (r : Reply) (s : State) (at : ℕ) → Allowed rules by c r s
    → length (changes_by s at c r) ≡ changes_told r
changes_many rules by (call.Find key) (reply.Made id numbers) s at may = refl
changes_many rules by call.Sweep (reply.Swept n) s at may =
    length-map (overdue_in s) (λ (id : MetricId). op.Gone at id) ∙ gone_count s ∙ sym may.1
changes_many rules by (call.Find key) (reply.Swept n) s at may = absurd (no_sweep s key (outcome rules s key) n may.1)
changes_many rules by _ (reply.Made id numbers) s at may = absurd may
changes_many rules by _ (reply.Swept n) s at may = absurd may
changes_many rules by _ _ s at may = refl

-- an entry of a run, where it stands
pub record StandsAt (rules : NameRules) (s : State) (log : List Entry) (i : ℕ) (e : Entry) : Type 0 where
  pub run : IsRunState (replay_from rules s (take i log))
  pub may : Allowed rules e.seat e.call e.reply (replay_from rules s (take i log))
  pub after : replay_from rules s (take (suc i) log)
      ≡ effect rules e.seat e.call e.reply (replay_from rules s (take i log))
  pub behind : drop i log ≡ e ∷ drop (suc i) log

pub stands_at : (rules : NameRules) (s : State) (log : List Entry) (i : ℕ) (e : Entry) → IsRunState s → Run rules s log
    → slice_get log i ≡ Some e → StandsAt rules s log i e
stands_at rules s [] i e is run at = absurd (not_some e at)
stands_at rules s (x ∷ log) zero e is run at =
    subst (λ (y : Entry). StandsAt rules s (x ∷ log) zero y) (some_same x e at)
    (record { run = is; may = run.0; after = refl; behind = refl })
stands_at rules s (x ∷ log) (suc i) e is run at =
    let rest = stands_at rules (effect rules x.seat x.call x.reply s) log i e
    (step_kept rules x.seat x.call x.reply s is run.0) run.1 at in
    record { run = rest.run; may = rest.may; after = rest.after; behind = rest.behind }

-- beyond the end nothing is changed
pub change_past : {X : Type 0} (f : X → X) (i : ℕ) (xs : List X) → length xs ≤ i → change_at f i xs ≡ xs
change_past f i [] past = refl
change_past f zero (x ∷ xs) past = absurd (omega (arith, past))
change_past {X} f (suc i) (x ∷ xs) past = ap (λ (l : List X). x ∷ l) (change_past f i xs (omega (arith, past)))
