-- The sums stay those of the work.
use Rattle.std.proofs.Common.{◌≡◌, ℕ, ◌==◌, Bool, true, false, cond, Option, Some, None, IfSome, List, [], ◌∷◌, ◌++◌, length, slice_get, option_to_list, append-nil, refl, ap, sym, ◌∙◌, subst, arith}
use Rattle.std.specs.Option.{IsSomeAnd}
use Rattle.std.proofs.lemmas.Bool.Decides.{Decides-eqb}
use Rattle.stat_defs.specs.Books.{BookHistory}
use Rattle.stat_defs.specs.Keys.{same_kind}
use Rattle.stat_defs.specs.declared.ids.Kind.{Kind}
use Rattle.stat_defs.specs.declared.ids.Kind.TheVariants.{Counter}
use Rattle.stat_defs.specs.declared.events.Event.{Event}
use Rattle.stat_defs.specs.declared.events.Event.TheVariants as event
use Rattle.stat_defs.specs.declared.history.Verdict.{Verdict}
use Rattle.stat_defs.specs.declared.history.Verdict.TheVariants as verdict
use Rattle.merge_round.specs.Halves.{HalfState}
use Rattle.merge_round.specs.Rounds.{ParentsState}
use Rattle.book_state.specs.State.{State, Row, is_gone}
use Rattle.book_state.specs.Follows.{Own}
use Rattle.book_state.proofs.Lists.{true_false, within_some}
use Rattle.stat_defs.specs.declared.configs.Config.{Config}
use Rattle.stat_defs.specs.declared.events.Key.{Key}
use Rattle.stat_book.specs.Calls.{rules_of, state_of, IsLegal}
use Rattle.book_seat.specs.Naming.{NamesLive, NamesOwn}
use Rattle.plain_store.specs.Entries.{Adds}
use Rattle.plain_store.specs.Worker.{WorkerHistory}
use Rattle.ledger.specs.Work.{units_in, recording_in}
use Rattle.ledger.specs.Gauges.{move_in}
use Rattle.ledger.specs.Segments.{left_over}
use Rattle.ledger.specs.Flushes.{FitSoFar}
use Rattle.ledger.specs.Laws.{word_after_any}
use Rattle.ledger.proofs.Sums.{units_event}
use Rattle.ledger.proofs.Words.{word_event}
use Rattle.ledger.proofs.Pieces.{left_event, less_event}
use Rattle.ledger.proofs.FlushesFit.{all_event, all_entries}
use Rattle.plain_store.specs.declared.sums.Sums.{Sums}
use Rattle.plain_store.specs.Sums.{AreZero, AreAlike, IsMade, with_recording, SumsUp}
use Rattle.plain_store.specs.Store.{StoreHistory, new_store}
use Rattle.plain_store.specs.StoreKept.{is_counter_there, AreOfWork}
use Rattle.plain_store.proofs.CountersStay.{counters_stay, there_of_row}

-- an accepted increment is of a counter that is not gone
no_units : (s : State) (e : Event) (v : Verdict) (id : ℕ) → NamesOwn s e v → is_counter_there s id ≡ false → units_in id (e, v) ≡ 0
no_units s (event.Inc label name n) (verdict.Accepted given) id named none = by_id (given.0 == id) refl where
  of_row : (o : Option Row) → slice_get s.metrics given.0 ≡ o → IsSomeAnd o (λ row. (row.metric.kind ≡ Counter) × (is_gone row.metric.life ≡ false)) → is_counter_there s given.0 ≡ true
  of_row None is named = absurd named
  of_row (Some row) is named = there_of_row s given.0 row is (ap (λ (k : Kind). same_kind k Counter) named.0) named.1

  by_id : (t : Bool) → (given.0 == id) ≡ t → cond t n 0 ≡ 0
  by_id true same = absurd (true_false (sym (subst (λ (k : ℕ). is_counter_there s k ≡ true) ((Decides-eqb given.0 id).0 same) (of_row (slice_get s.metrics given.0) refl named)) ∙ none))
  by_id false same = refl
no_units s (event.Inc label name n) (verdict.Opened i) id named none = refl
no_units s (event.Inc label name n) (verdict.Released i) id named none = refl
no_units s (event.Inc label name n) verdict.LabelTaken id named none = refl
no_units s (event.Inc label name n) verdict.NoScope id named none = refl
no_units s (event.Inc label name n) verdict.Rejected id named none = refl
no_units s (event.Inc label name n) verdict.OverLimit id named none = refl
no_units s (event.Inc label name n) verdict.NoRoom id named none = refl
no_units s (event.Gauge label name mode op n) v id named none = refl
no_units s (event.Rec label name n) v id named none = refl
no_units s (event.SetText label name text) v id named none = refl
no_units s (event.OpenScope label prefix) v id named none = refl
no_units s (event.Release label) v id named none = refl

recorded : (values : List (ℕ × ℕ)) (o : Option (ℕ × ℕ)) → with_recording values o ≡ values ++ option_to_list o
recorded values None = sym (append-nil values)
recorded values (Some r) = refl

-- a counter that is gone behind what the worker adds was gone before it
not_there : (old new : BookHistory) (P : List Own → Type 0) (adds : Adds old P new) → IsLegal new → (id : ℕ) → is_counter_there (state_of new) id ≡ false → is_counter_there (state_of old) id ≡ false
not_there old new P adds legal id none = by_case (is_counter_there (state_of old) id) refl where
  by_case : (t : Bool) → is_counter_there (state_of old) id ≡ t → t ≡ false
  by_case true there = absurd (true_false (sym (counters_stay old new P adds legal id there) ∙ none))
  by_case false there = refl

-- entries of the worker change no sum
pub longer_of_work : (old : StoreHistory) (worker : WorkerHistory) (P : List Own → Type 0) (adds : Adds old.worker.book P worker.book) → IsLegal worker.book → (sums : Sums)
    → AreOfWork old sums → AreOfWork (record old { worker = worker }) sums
longer_of_work old worker P adds legal sums was = record {
  units = was.units;
  none_elsewhere = λ id none. was.none_elsewhere id (not_there old.worker.book worker.book P adds legal id none);
  words = was.words;
  left = was.left;
  none_merged = was.none_merged;
  takes_less = was.takes_less;
  fit = subst (λ (b : BookHistory). FitSoFar (rules_of b) b.log (old.counted ∷ []) old.flushes) (sym adds.logged)
      (all_entries (rules_of old.worker.book) old.worker.book.log adds.more (old.counted ∷ []) old.flushes was.fit);
}

-- nor does want of memory
pub alike_of_work : (store : StoreHistory) (before after : Sums) → AreAlike before after → after.parents ≡ before.parents → AreOfWork store before → AreOfWork store after
alike_of_work store before after alike same_parents was = record {
  units = λ id. (let same = alike.deltas id in let units = was.units id in omega (arith, same, units));
  none_elsewhere = λ id none. alike.deltas id ∙ was.none_elsewhere id none;
  words = λ id. alike.words id ∙ was.words id;
  left = alike.values ∙ was.left;
  none_merged = ap (λ (p : ParentsState). p.round) same_parents ∙ was.none_merged;
  takes_less = was.takes_less;
  fit = was.fit;
}

-- an event is counted
module _ (old : StoreHistory) (e : Event) (v : Verdict) (before after : Sums) (named : NamesOwn (state_of old.worker.book) e v)
    (sums : SumsUp before (e, v) after) (same_parents : after.parents ≡ before.parents) (was : AreOfWork old before) where
  pub counted_of_work : AreOfWork (record old { counted = old.counted ++ (e, v) ∷ [] }) after
  counted_of_work = record {
    units = λ id. (
        let grow = units_event id 0 (e, v) (old.counted ∷ []) (omega arith) in
        let sum = sums.units id in let before = was.units id in
        omega (arith, grow, sum, before));
    none_elsewhere = λ id none. (
        let sum = sums.units id in
        let added = no_units (state_of old.worker.book) e v id named none in
        let kept = was.none_elsewhere id none in
        omega (arith, sum, added, kept));
    words = λ id. sums.words id ∙ (ap (λ (w : ℕ). word_after_any w (move_in id (e, v))) (was.words id) ∙ sym (word_event id old.counted (e, v)));
    left = sums.values ∙ (ap (λ values. with_recording values (recording_in (e, v))) was.left
        ∙ (recorded (left_over 1 old.counted old.flushes) (recording_in (e, v)) ∙ sym (left_event 1 old.counted (e, v) old.flushes was.takes_less)));
    none_merged = ap (λ (p : ParentsState). p.round) same_parents ∙ was.none_merged;
    takes_less = less_event 1 old.counted (e, v) old.flushes was.takes_less;
    fit = all_event (rules_of old.worker.book) old.worker.book.log 0 (e, v) (old.counted ∷ []) old.flushes (was.takes_less, tt) was.fit;
  }

pub if_some : {X : Type 0} (o : Option X) (P Q : X → Type 0) → ((x : X) → P x → Q x) → IfSome o P → IfSome o Q
if_some None P Q to is = is
if_some (Some x) P Q to is = to x is

-- a metric that is named was made
pub made_live : (s : State) (made : ℕ) (key : Key) (v : Verdict) → made ≡ length s.metrics → NamesLive s key v → IsMade made v
made_live s made key (verdict.Accepted id) are named =
    let within = within_some s.metrics id.0 (λ row. (row.metric.kind ≡ key.kind) × (is_gone row.metric.life ≡ false)) named in omega (arith, within, are)
made_live s made key (verdict.Opened i) are named = tt
made_live s made key (verdict.Released i) are named = tt
made_live s made key verdict.LabelTaken are named = tt
made_live s made key verdict.NoScope are named = tt
made_live s made key verdict.Rejected are named = tt
made_live s made key verdict.OverLimit are named = tt
made_live s made key verdict.NoRoom are named = tt

-- before the first event
pub first_of_work : (config : Config) (sums : Sums) → AreZero sums → AreOfWork (new_store config) sums
first_of_work config sums nothing = record {
  units = λ id. (let none = nothing.deltas id in omega (arith, none));
  none_elsewhere = λ id none. nothing.deltas id;
  words = nothing.words;
  left = ap (λ (h : HalfState). h.values) nothing.half;
  none_merged = ap (λ (p : ParentsState). p.round) nothing.parents;
  takes_less = omega arith;
  fit = tt;
}
