-- What the calls of a recorder leave of what its seat knows.
use Rattle.std.proofs.Common.{◌≡◌, ◌≢◌, ℕ, zero, suc, ◌+◌, ◌≤◌, ◌==◌, ◌&&◌, Bool, true, false, cond, Option, Some, None, IfSome, List, [], ◌∷◌, ◌++◌, length, slice_get, Result, Ok, Err, IsOk, refl, ap, sym, ◌∙◌, subst, arith, ne_eqb, inl, inr}
use Rattle.std.specs.Option.{IsSomeAnd}
use Rattle.std.proofs.lemmas.List.Elements.{All-head, All-tail}
use Rattle.stat_defs.specs.Books.{BookHistory}
use Rattle.stat_defs.specs.declared.events.Event.{Event}
use Rattle.stat_defs.specs.declared.events.Event.TheVariants as event
use Rattle.stat_defs.specs.declared.events.Key.{Key}
use Rattle.stat_defs.specs.declared.history.Entry.{Entry}
use Rattle.stat_defs.specs.declared.history.Verdict.{Verdict}
use Rattle.stat_defs.specs.declared.ids.Kind.TheVariants as kind
use Rattle.stat_defs.specs.declared.ids.Mode.TheVariants.{Uninit}
use Rattle.book_state.specs.State.{NameRules, State, Row}
use Rattle.book_state.specs.Log.{replay}
use Rattle.book_state.specs.Follows.{Own, Makes, Finds, held_verdict, event_key, key_in}
use Rattle.book_state.specs.Laws.{AreOfOthers}
use Rattle.book_state.specs.SafeLaws.{IsSameMetric}
use Rattle.book_state.proofs.Lists.{not_some, count_cons, true_false}
use Rattle.book_state.proofs.Staying.{metrics_stay}
use Rattle.stat_book.specs.Calls.{rules_of, state_of, IsLegal, is_opening, openings_by}
use Rattle.seat_history.specs.declared.known.LogKnown.{LogKnown}
use Rattle.seat_history.specs.History.{known_history}
use Rattle.book_access.specs.Calling.{known_state, WorksUnder, opened}
use Rattle.book_seat.specs.Growing.{Grows, StaysAtWork}
use Rattle.book_seat.specs.Naming.{HoldsVerdict, IsInRoom, NamesInRoom, NamesOwn}
use Rattle.book_seat.specs.Deciding.{AddsEvent, IsCutOff, hit_in}
use Rattle.book_seat.specs.Polling.{AcksIfDue}
use Rattle.book_seat.proofs.EntryLemmas.{grown_history, grows_map}
use Rattle.book_seat.proofs.NamedMetrics.{names_own}
use Rattle.recorder.specs.Hands.{IsRecording}
use Rattle.recorder.specs.RecorderKept.{IsCounterIn}

-- the seat works, it asked to open one scope more at most, and all counters that were made stay
pub record SeatMoves (k k' : LogKnown) : Type 0 where
  pub number : k'.number ≡ k.number
  pub works : WorksUnder k'
  pub legal : IsLegal (known_history k')
  pub openings : opened k' ≤ opened k + 1
  pub counters : (id : ℕ) → IsCounterIn (known_state k) id → IsCounterIn (known_state k') id

weaker : (o : Option Row) (P Q : Row → Type 0) → ((row : Row) → P row → Q row) → IsSomeAnd o P → IsSomeAnd o Q
weaker None P Q more is = is
weaker (Some row) P Q more is = more row is

-- a counter stays one in a longer log
pub counter_stays : (rules : NameRules) (workers : ℕ) (log more : List Entry) (id : ℕ) → IsCounterIn (replay rules workers log) id → IsCounterIn (replay rules workers (log ++ more)) id
counter_stays rules workers log more id is = by_place (slice_get (replay rules workers log).metrics id) refl is where
  by_place : (o : Option Row) → slice_get (replay rules workers log).metrics id ≡ o → IsSomeAnd o (λ row. row.metric.kind ≡ kind.Counter)
      → IsCounterIn (replay rules workers (log ++ more)) id
  by_place None here counter = absurd counter
  by_place (Some row) here counter =
      weaker (slice_get (replay rules workers (log ++ more)).metrics id) (IsSameMetric row) (λ (row' : Row). row'.metric.kind ≡ kind.Counter) (λ row' same. same.kind ∙ counter)
      (metrics_stay rules workers log more id row here)

pub counters_grow : (k k' : LogKnown) (Asks : List Own → Type 0) → Grows k Asks k' → (id : ℕ) → IsCounterIn (known_state k) id → IsCounterIn (known_state k') id
counters_grow k k' Asks g id is =
    subst (λ (h : BookHistory). IsCounterIn (state_of h) id) (sym (grown_history k k' Asks g)) (counter_stays (rules_of (known_history k)) k.workers k.known g.more id is)

pub grows_moves : (n : ℕ) (k k' : LogKnown) (Asks : List Own → Type 0) → n ≤ 1 → Grows k Asks k' → StaysAtWork n k k' → SeatMoves k k'
grows_moves n k k' Asks most g stays = record {
  number = g.number;
  works = stays.works;
  legal = stays.legal;
  openings = (let few = stays.opened in omega (arith, few, most));
  counters = counters_grow k k' Asks g;
}

pub still_moves : (k : LogKnown) → WorksUnder k → IsLegal (known_history k) → SeatMoves k k
still_moves k works legal = record { number = refl; works = works; legal = legal; openings = omega arith; counters = λ id is. is }

pub acks_moves : (k k' : LogKnown) → AcksIfDue k k' → StaysAtWork 0 k k' → SeatMoves k k'
acks_moves k k' (inl none) stays = grows_moves 0 k k' _ (omega arith) none.1 stays
acks_moves k k' (inr acked) stays = grows_moves 0 k k' _ (omega arith) acked stays

-- the verdict that a look-up finds is held
hit_holds : (k : LogKnown) (e : Event) (v : Verdict) → hit_in k e ≡ Some v → HoldsVerdict k e v
hit_holds k (event.Inc label name n) v is = λ held. is
hit_holds k (event.Gauge label name mode op n) v is = λ held. is
hit_holds k (event.Rec label name n) v is = λ held. is
hit_holds k (event.SetText label name text) v is = absurd (not_some v is)
hit_holds k (event.OpenScope label prefix) v is = absurd (not_some v is)
hit_holds k (event.Release label) v is = absurd (not_some v is)

pub hit_names : (k : LogKnown) (e : Event) (v : Verdict) → IsLegal (known_history k) → hit_in k e ≡ Some v → NamesOwn (known_state k) e v
hit_names k e v legal is = names_own k legal e v (hit_holds k e v is)

-- a recording that had no memory has made no more than its find
rec_makes : (n : ℕ) (s : State) (e : Event) (v : Verdict) (made : List Own) → IsRecording e → Makes n s e v made → IsCutOff e made
rec_makes n s (event.Rec label name x) v made is makes = by_held (held_verdict s n (key_in label kind.Histogram Uninit name)) made makes where
  by_held : (o : Option Verdict) (made : List Own) → Finds (key_in label kind.Histogram Uninit name) (event.Rec label name x) v o made → IsCutOff (event.Rec label name x) made
  by_held (Some held) made finds = inl finds.1
  by_held None (o ∷ rest) finds = inr (o, ap (λ (l : List Own). o ∷ l) finds.2, finds.0)
  by_held None [] finds = absurd finds
rec_makes n s (event.Inc label name x) v made is makes = absurd is
rec_makes n s (event.Gauge label name mode op x) v made is makes = absurd is
rec_makes n s (event.SetText label name text) v made is makes = absurd is
rec_makes n s (event.OpenScope label prefix) v made is makes = absurd is
rec_makes n s (event.Release label) v made is makes = absurd is

pub rec_cut : (k k' : LogKnown) (e : Event) (v : Verdict) → IsRecording e → AddsEvent k e v k' → Grows k (IsCutOff e) k'
rec_cut k k' e v is adds = grows_map k k' (Makes k.number (known_state k) e v) (IsCutOff e) (λ made makes. rec_makes k.number (known_state k) e v made is makes) adds

-- a new seat has opened nothing
pub new_opened : (k : ℕ) (more : List Entry) → AreOfOthers k more → openings_by k more ≡ 0
new_opened k [] others = refl
new_opened k (e ∷ more) others =
    let rest = new_opened k more (All-tail (λ (x : Entry). k ≢ x.seat) e more others) in
    let step = count_cons (λ (entry : Entry). is_opening entry.call && entry.seat == k) e more in
    let other = ne_eqb e.seat k (λ same. All-head (λ (x : Entry). k ≢ x.seat) e more others (sym same)) in
    let none : ◌≡◌ {A = ℕ} (cond (is_opening e.call && e.seat == k) 1 0) 0 = not_both (is_opening e.call) (e.seat == k) other in
    omega (arith, rest, step, none) where
      not_both : (a b : Bool) → b ≡ false → ◌≡◌ {A = ℕ} (cond (a && b) 1 0) 0
      not_both true b is = ap (λ (t : Bool). cond t 1 0) is
      not_both false b is = refl

-- a held verdict is the one that was told
abbrev got : {E : Type 0} → Verdict → Result Verdict E → Verdict
got d (Ok v) = v
got d (Err e) = d

pub alone_told : {E S : Type 0} (known : S → LogKnown) (o : Option Verdict) (r : Result Verdict E) (v : Verdict) (old new : S) → r ≡ Ok v
    → IfSome o (λ held. (r ≡ Ok held) × (new ≡ old)) → IfSome o (λ held. (v ≡ held) × (known new ≡ known old))
alone_told known None r v old new is alone = tt
alone_told known (Some held) r v old new is alone = (ap (got v) (sym is ∙ alone.0), ap known alone.1)

pub names_room : (e : Event) (v : Verdict) → IsInRoom v → NamesInRoom e v
names_room e v is = by_key (event_key e) where
  by_key : (o : Option Key) → IfSome o (λ key. IsInRoom v)
  by_key None = tt
  by_key (Some key) = is

pub err_not_ok : {T E : Type 0} (r : Result T E) (e : E) → r ≡ Err e → IsOk r → ⊥
err_not_ok r e is ok = true_false (sym (subst (λ x. IsOk x) is ok))
