-- What calls of a worker's seat add to the log, one after the other.
use Rattle.std.proofs.Common.{◌≡◌, ℕ, Option, Some, None, IfSome, List, [], ◌∷◌, ◌++◌, refl, ap, sym, ◌∙◌, subst, arith, inl, inr, append_assoc, append-nil}
use Rattle.stat_defs.specs.Books.{BookHistory}
use Rattle.stat_defs.specs.declared.events.Event.{Event}
use Rattle.stat_defs.specs.declared.events.Event.TheVariants as event
use Rattle.stat_defs.specs.declared.events.GaugeOp.{GaugeOp}
use Rattle.stat_defs.specs.declared.events.Key.{Key}
use Rattle.stat_defs.specs.declared.ids.Kind.TheVariants as kind
use Rattle.stat_defs.specs.declared.ids.MetricId.{MetricId}
use Rattle.stat_defs.specs.declared.ids.Mode.{Mode}
use Rattle.stat_defs.specs.declared.ids.Mode.TheVariants.{Uninit}
use Rattle.stat_defs.specs.declared.history.Call.{Call}
use Rattle.stat_defs.specs.declared.history.Call.TheVariants as call
use Rattle.stat_defs.specs.declared.history.Entry.{Entry}
use Rattle.stat_defs.specs.declared.history.Reply.TheVariants as reply
use Rattle.stat_defs.specs.declared.history.Verdict.{Verdict}
use Rattle.stat_defs.specs.declared.history.Verdict.TheVariants as verdict
use Rattle.book_state.specs.State.{State}
use Rattle.book_state.specs.Log.{empty, replay_from}
use Rattle.book_state.specs.Follows.{Own, own, held_verdict, verdict_of, key_in, MakesOne, SetsText, Finds}
use Rattle.book_state.proofs.Growing.{replayed_on, own_more}
use Rattle.stat_book.specs.Calls.{rules_of, state_of}
use Rattle.seat_history.specs.declared.known.LogKnown.{LogKnown}
use Rattle.seat_history.specs.History.{entries_by, known_history}
use Rattle.seat_history.proofs.Logs.{by-append}
use Rattle.book_access.specs.Making.{AnswersCall, LogsCall}
use Rattle.book_access.specs.Calling.{known_state, Calls}
use Rattle.book_seat.specs.Growing.{Grows}
use Rattle.book_seat.specs.Deciding.{Judges, Sets, MakesNone, AddsEvent, IsCutOff}
use Rattle.book_seat.proofs.PartLemmas.{one_grows, none_grows}

pub same_grows : (p q : LogKnown) (Asks : List Own → Type 0) → q ≡ p → Asks [] → Grows p Asks q
same_grows p q Asks same asked = subst (λ (x : LogKnown). Grows p Asks x) (sym same) (record {
  number = refl;
  first = refl;
  more = [];
  known = sym (append-nil p.known);
  made = sym (append-nil p.made);
  seen = omega arith;
  asked = asked;
})

pub grows_map : (p q : LogKnown) (A B : List Own → Type 0) → ((made : List Own) → A made → B made) → Grows p A q → Grows p B q
grows_map p q A B to g = record {
  number = g.number;
  first = g.first;
  more = g.more;
  known = g.known;
  made = g.made;
  seen = g.seen;
  asked = to (own (rules_of (known_history p)) p.number (known_state p) g.more) g.asked;
}

-- the history that the seat knows after it grew
pub grown_history : (p q : LogKnown) (A : List Own → Type 0) (g : Grows p A q) → known_history q ≡ record (known_history p) { log = p.known ++ g.more }
grown_history p q A g = λ i. record { config = ap (λ (h : BookHistory). h.config) g.first i; workers = ap (λ (h : BookHistory). h.workers) g.first i; log = g.known i }

pub grows_then : (p m q : LogKnown) (A B C : List Own → Type 0) → ((first second : List Own) → A first → B second → C (first ++ second))
    → Grows p A m → Grows m B q → Grows p C q
grows_then p m q A B C to a b = record {
  number = b.number ∙ a.number;
  first = b.first ∙ a.first;
  more = a.more ++ b.more;
  known = b.known ∙ (ap (λ (l : List Entry). l ++ b.more) a.known ∙ append_assoc p.known a.more b.more);
  made = b.made ∙ (ap (λ (n : ℕ). m.made ++ entries_by n b.more) a.number ∙ (ap (λ (l : List Entry). l ++ entries_by p.number b.more) a.made
      ∙ (append_assoc p.made (entries_by p.number a.more) (entries_by p.number b.more) ∙ ap (λ (l : List Entry). p.made ++ l) (sym (by-append p.number a.more b.more)))));
  seen = (let f = a.seen in let s = b.seen in omega (arith, f, s));
  asked = subst C (sym (own_more (rules_of (known_history p)) (known_state p) p.number a.more b.more))
      (to (own (rules_of (known_history p)) p.number (known_state p) a.more)
      (own (rules_of (known_history p)) p.number (replay_from (rules_of (known_history p)) (known_state p) a.more) b.more) a.asked (subst B second_own b.asked));
} where
  second_own : own (rules_of (known_history m)) m.number (known_state m) b.more
      ≡ own (rules_of (known_history p)) p.number (replay_from (rules_of (known_history p)) (known_state p) a.more) b.more
  second_own =
      ap (λ (h : BookHistory). own (rules_of h) m.number (state_of h) b.more) (grown_history p m A a)
      ∙ (ap (λ (n : ℕ). own (rules_of (known_history p)) n (state_of (record (known_history p) { log = p.known ++ a.more })) b.more) a.number
      ∙ ap (λ (s : State). own (rules_of (known_history p)) p.number s b.more) (replayed_on (rules_of (known_history p)) (empty p.workers) p.known a.more))

pub answered_grows : (p q : LogKnown) (c : Call) (v : Verdict) → Calls (AnswersCall c v) p q → Grows p (MakesOne c v) q
answered_grows p q c v under = let a = under.makes in
    one_grows (AnswersCall c v) p q under c a.0 a.2 (MakesOne c v) (refl, a.1)

pub sets_grows : (p q : LogKnown) (label name text : List ℕ) (v : Verdict) → Sets p text v q → Grows p (SetsText (event.SetText label name text) v) q
sets_grows p q label name text (verdict.Accepted id) under =
    one_grows (LogsCall (call.SetText id text) reply.TextSet) p q under (call.SetText id text) reply.TextSet under.makes (SetsText (event.SetText label name text) (verdict.Accepted id)) refl
sets_grows p q label name text (verdict.Opened id) same = same_grows p q (SetsText (event.SetText label name text) (verdict.Opened id)) same refl
sets_grows p q label name text (verdict.Released id) same = same_grows p q (SetsText (event.SetText label name text) (verdict.Released id)) same refl
sets_grows p q label name text verdict.LabelTaken same = same_grows p q (SetsText (event.SetText label name text) verdict.LabelTaken) same refl
sets_grows p q label name text verdict.NoScope same = same_grows p q (SetsText (event.SetText label name text) verdict.NoScope) same refl
sets_grows p q label name text verdict.Rejected same = same_grows p q (SetsText (event.SetText label name text) verdict.Rejected) same refl
sets_grows p q label name text verdict.OverLimit same = same_grows p q (SetsText (event.SetText label name text) verdict.OverLimit) same refl
sets_grows p q label name text verdict.NoRoom same = same_grows p q (SetsText (event.SetText label name text) verdict.NoRoom) same refl

pub none_sets : (p : LogKnown) (text : List ℕ) (v : Verdict) → ((id : MetricId) → v ≡ verdict.Accepted id → ⊥) → Sets p text v p
none_sets p text (verdict.Accepted id) not_accepted = absurd (not_accepted id refl)
none_sets p text (verdict.Opened id) not_accepted = refl
none_sets p text (verdict.Released id) not_accepted = refl
none_sets p text verdict.LabelTaken not_accepted = refl
none_sets p text verdict.NoScope not_accepted = refl
none_sets p text verdict.Rejected not_accepted = refl
none_sets p text verdict.OverLimit not_accepted = refl
none_sets p text verdict.NoRoom not_accepted = refl

-- the one entry of a find
abbrev IsFindOf : Key → Verdict → List Own → Type 0
IsFindOf key v made = (o : Own) × (made ≡ o ∷ []) × (o.call ≡ call.Find key) × (verdict_of o.reply ≡ Some v)

found_grows : (p m : LogKnown) (key : Key) (v : Verdict) → Calls (AnswersCall (call.Find key) v) p m → Grows p (IsFindOf key v) m
found_grows p m key v under = let a = under.makes in
    one_grows (AnswersCall (call.Find key) v) p m under (call.Find key) a.0 a.2 (IsFindOf key v) (_, refl, refl, a.1)

-- the verdict on a key, and what the event does besides
pub judged_grows : (p m q : LogKnown) (key : Key) (e : Event) (v : Verdict) → Judges p key v m → Grows m (SetsText e v) q
    → Grows p (λ made. Finds key e v (held_verdict (known_state p) p.number key) made) q
judged_grows p m q key e v judged rest = elim judged [
  | inl held ↦ subst (λ (o : Option Verdict). Grows p (λ made. Finds key e v o made) q) (sym held.0)
      (grows_map p q (SetsText e v) (λ made. Finds key e v (Some v) made) (λ made sets. (refl, sets)) (subst (λ (x : LogKnown). Grows x (SetsText e v) q) held.1 rest))
  | inr found ↦ subst (λ (o : Option Verdict). Grows p (λ made. Finds key e v o made) q) (sym found.0)
      (grows_then p m q (IsFindOf key v) (SetsText e v) (λ made. Finds key e v None made)
      (λ first second f sets. subst (λ (l : List Own). Finds key e v None (l ++ second)) (sym f.1) (f.2, f.3, sets)) (found_grows p m key v found.1) rest)
]

module _ (p q : LogKnown) (label name : List ℕ) (v : Verdict) where
  pub inc_grows : (n : ℕ) → Judges p (key_in label kind.Counter Uninit name) v q → AddsEvent p (event.Inc label name n) v q
  inc_grows n judged = judged_grows p q q (key_in label kind.Counter Uninit name) (event.Inc label name n) v judged (same_grows q q (SetsText (event.Inc label name n) v) refl refl)

  pub gauge_grows : (mode : Mode) (op : GaugeOp) (n : ℕ) → Judges p (key_in label kind.Gauge mode name) v q → AddsEvent p (event.Gauge label name mode op n) v q
  gauge_grows mode op n judged = judged_grows p q q (key_in label kind.Gauge mode name) (event.Gauge label name mode op n) v judged (same_grows q q (SetsText (event.Gauge label name mode op n) v) refl refl)

  pub rec_grows : (n : ℕ) → Judges p (key_in label kind.Histogram Uninit name) v q → AddsEvent p (event.Rec label name n) v q
  rec_grows n judged = judged_grows p q q (key_in label kind.Histogram Uninit name) (event.Rec label name n) v judged (same_grows q q (SetsText (event.Rec label name n) v) refl refl)

pub text_grows : (p m q : LogKnown) (label name text : List ℕ) (v : Verdict) → Judges p (key_in label kind.Text Uninit name) v m → Sets m text v q
    → AddsEvent p (event.SetText label name text) v q
text_grows p m q label name text v judged sets =
    judged_grows p m q (key_in label kind.Text Uninit name) (event.SetText label name text) v judged (sets_grows m q label name text v sets)

-- what want of memory leaves
pub cut_grows : (p q : LogKnown) (Asks : List Own → Type 0) → Asks [] → MakesNone p q → Grows p Asks q
cut_grows p q Asks none makes = elim makes [
  | inl same ↦ same_grows p q Asks same none
  | inr under ↦ none_grows p q under Asks none
]

pub cut_text : (p m q : LogKnown) (label name text : List ℕ) (v : Verdict) → Judges p (key_in label kind.Text Uninit name) v m → MakesNone m q
    → Grows p (IsCutOff (event.SetText label name text)) q
cut_text p m q label name text v judged makes = elim judged [
  | inl held ↦ subst (λ (x : LogKnown). MakesNone x q → Grows p (IsCutOff (event.SetText label name text)) q) (sym held.1)
      (λ none. cut_grows p q (IsCutOff (event.SetText label name text)) (inl refl) none) makes
  | inr found ↦ grows_then p m q (IsFindOf (key_in label kind.Text Uninit name) v) (λ made. made ≡ []) (IsCutOff (event.SetText label name text))
      (λ first second f none. inr (f.0, ap (λ (l : List Own). first ++ l) none ∙ (append-nil first ∙ f.1), f.2))
      (found_grows p m (key_in label kind.Text Uninit name) v found.1) (cut_grows m q (λ made. made ≡ []) refl makes)
]

-- where a verdict is held, it is the one, and the lock was left alone
pub judged_hit : (p q : LogKnown) (key : Key) (v : Verdict) → Judges p key v q → IfSome (held_verdict (known_state p) p.number key) (λ held. (v ≡ held) × (q ≡ p))
judged_hit p q key v judged = elim judged [
  | inl held ↦ subst (λ (o : Option Verdict). IfSome o (λ h. (v ≡ h) × (q ≡ p))) (sym held.0) (refl, held.1)
  | inr found ↦ subst (λ (o : Option Verdict). IfSome o (λ h. (v ≡ h) × (q ≡ p))) (sym found.0) tt
]
