-- A worker's seat after each call of the book.
use Rattle.std.proofs.Common.{◌≡◌, ℕ, ◌≤◌, ◌+◌, ◌<◌, true, false, Option, option_map, unwrap_or, Some, None, List, [], ◌∷◌, refl, ap, sym, ◌∙◌, subst, arith, inr, All}
use Rattle.stat_defs.specs.Books.{BookHistory}
use Rattle.stat_defs.specs.Keys.{Held, held_under}
use Rattle.stat_defs.specs.declared.events.Key.{Key}
use Rattle.stat_defs.specs.declared.history.Call.{Call}
use Rattle.stat_defs.specs.declared.history.Call.TheVariants as call
use Rattle.stat_defs.specs.declared.history.Entry.{Entry}
use Rattle.stat_defs.specs.declared.history.FindAnswer.{FindAnswer}
use Rattle.stat_defs.specs.declared.history.Reply.{Reply}
use Rattle.stat_defs.specs.declared.history.Verdict.{Verdict}
use Rattle.book_state.specs.Follows.{held_verdict}
use Rattle.book_state.specs.SeatLaws.{is_held}
use Rattle.stat_book.specs.Calls.{state_of, Logged, Answers, is_opening, openings_by}
use Rattle.stat_book.specs.Finds.{scope_number}
use Rattle.thread_cache.specs.Held.{held_with, held_without}
use Rattle.seat_history.specs.declared.known.LogKnown.{LogKnown}
use Rattle.seat_history.specs.History.{known_history, loaded}
use Rattle.book_access.specs.Making.{IsAsFound, AnswersCall, LogsCall, FindsKey, AcksAll}
use Rattle.book_access.specs.Calling.{known_state, Calls, WorkingUnder}
use Rattle.book_seat.specs.Naming.{IsHeldNow}
use Rattle.book_seat.specs.Deciding.{Judges}
use Rattle.book_seat.specs.Polling.{Acknowledges}
use Rattle.book_seat.proofs.Sitting.{IsSeated, Sits, Keeps}
use Rattle.std.specs.Option.{option_map_or, IsSomeAnd}
use Rattle.stat_defs.specs.declared.history.Acked.{Acked}
use Rattle.stat_defs.specs.declared.history.Reply.TheVariants as reply
use Rattle.stat_defs.specs.declared.ids.MetricId.{MetricId}
use Rattle.book_state.specs.State.{Seat, seat_of}
use Rattle.book_seat.proofs.SeatLemmas.{none_opened, find_sits, find_held, acked_sits, opened_sits, released_sits, text_sits}
use Rattle.book_seat.proofs.PartLemmas.{same_number, same_first, none_first_, last_known, legal_after, fewest_after, seated_there, seated_after, openings_more, one_own, one_opens, none_seated, none_legal, none_fewest, none_number, none_opens}

-- a call that left the book as it was
pub none_sits : (p q : LogKnown) (es es' : List Held) (tag : ℕ) → Sits p es tag → Calls IsAsFound p q → es' ≡ es → Sits q es' tag
none_sits p q es es' tag sits under entries = record {
  seated = subst (λ (hs : List Held). IsSeated (known_history q) q.number hs tag) (sym entries) (none_seated p q under es tag sits.seated);
  legal = none_legal p q under;
  fewest = none_fewest p q under;
}

pub none_keeps : (n : ℕ) (p q : LogKnown) → Calls IsAsFound p q → Keeps n p q
none_keeps n p q under = record { number = none_number p q under; first = none_first_ p q under; openings = (let few = none_opens p q under in omega (arith, few)) }

pub same_sits : (p : LogKnown) (es es' : List Held) (tag : ℕ) → Sits p es tag → es' ≡ es → Sits p es' tag
same_sits p es es' tag sits entries = subst (λ (hs : List Held). Sits p hs tag) (sym entries) sits

pub same_keeps : (n : ℕ) (p : LogKnown) → Keeps n p p
same_keeps n p = record { number = refl; first = refl; openings = (omega arith) }

-- a call that logged an entry
module _ (p q : LogKnown) (Makes : ℕ → BookHistory → BookHistory → Type 0) (under : Calls Makes p q) (c : Call) (r : Reply) (l : Logged under.found p.number c r under.last) where
  abbrev mine : List Entry
  mine = record { seat = p.number; call = c; reply = r } ∷ []

  pub one_sits : (es : List Held) (tag : ℕ) → IsSeated under.last p.number es tag → Sits q es tag
  one_sits es tag seated = record {
    seated = seated_after Makes p q under mine l.logged (one_own Makes p q under c r l) es tag seated;
    legal = legal_after Makes p q under mine l.logged (one_own Makes p q under c r l);
    fewest = fewest_after Makes p q under mine l.logged (one_own Makes p q under c r l);
  }

  pub one_keeps : Keeps 1 p q
  one_keeps = record { number = same_number Makes p q under mine l.logged (one_own Makes p q under c r l); first = same_first Makes p q under mine l.logged (one_own Makes p q under c r l); openings = one_opens Makes p q under c r l }

  pub one_keeps_scopes : is_opening c ≡ false → Keeps 0 p q
  one_keeps_scopes is_none = record {
    number = same_number Makes p q under mine l.logged (one_own Makes p q under c r l);
    first = same_first Makes p q under mine l.logged (one_own Makes p q under c r l);
    openings = openings_more Makes p q under mine l.logged (one_own Makes p q under c r l) 0
        (let few = none_opened under.found under.last p.number c r l p.number is_none in omega (arith, few));
  }

-- a find
pub record FindTold (p q : LogKnown) (es : List Held) (tag : ℕ) (key : Key) (v : Verdict) : Type 0 where
  pub sits : Sits q es tag
  pub keeps : Keeps 0 p q
  pub judged : Judges p key v q
  pub held : IsHeldNow (known_state q) q.number key v

pub find_told : (p q : LogKnown) (es es' : List Held) (tag : ℕ) (sits : Sits p es tag) (key : Key) (answer : FindAnswer)
    (under : Calls (FindsKey key answer) p q) → held_under key es ≡ None
    → (is_held answer.verdict ≡ true → (k : Key) → held_under k es'
    ≡ held_with (record { key = key; scope = unwrap_or (option_map scope_number answer.scope) 0; verdict = answer.verdict }) es k)
    → (is_held answer.verdict ≡ false → es' ≡ es) → FindTold p q es' tag key answer.verdict
find_told p q es es' tag sits key answer under free filled passed = record {
  sits = one_sits p q Fd under (call.Find key) step.0 step.2 es' tag
      (find_sits under.found under.last p.number es tag there key answer.verdict step free es'
      (λ held k. filled held k ∙ ap (λ (o : Option ℕ). held_with (record { key = key; scope = unwrap_or o 0; verdict = answer.verdict }) es k) under.makes.scope) passed);
  keeps = one_keeps_scopes p q Fd under (call.Find key) step.0 step.2 refl;
  judged = inr (
    ap (λ (o : Option Held). option_map (λ (h : Held). h.verdict) o) (sym (sits.seated.held key) ∙ free),
    record { found = under.found; finds = under.finds; last = under.last; makes = step; legal = under.legal; leaves = under.leaves },
  );
  held = λ held. subst (λ (n : ℕ). held_verdict (known_state q) n key ≡ Some answer.verdict)
      (sym (same_number Fd p q under fmine step.2.logged own_are))
      (subst (λ (h : BookHistory). held_verdict (state_of h) p.number key ≡ Some answer.verdict)
      (sym (last_known Fd p q under fmine step.2.logged own_are))
      (find_held under.found under.last p.number es tag there key answer.verdict step free held));
} where
  Fd : ℕ → BookHistory → BookHistory → Type 0
  Fd = FindsKey key answer

  step : Answers under.found p.number (call.Find key) answer.verdict under.last
  step = under.makes.step

  fmine : List Entry
  fmine = record { seat = p.number; call = call.Find key; reply = step.0 } ∷ []

  own_are : All (λ (e : Entry). e.seat ≡ p.number) fmine
  own_are = one_own Fd p q under (call.Find key) step.0 step.2

  there : IsSeated under.found p.number es tag
  there = seated_there Fd p q under fmine step.2.logged own_are es tag sits.seated

pub keeps_more : (n : ℕ) (p q : LogKnown) → Keeps 0 p q → Keeps n p q
keeps_more n p q kept = record { number = kept.number; first = kept.first; openings = (let few = kept.openings in omega (arith, few)) }

pub keeps_on : (n : ℕ) (p m q : LogKnown) → Keeps 0 p m → Keeps n m q → Keeps n p q
keeps_on n p m q first second = record {
  number = second.number ∙ first.number;
  first = second.first ∙ first.first;
  openings = (let few = first.openings in
      let more = subst (λ (k : ℕ). openings_by k q.known ≤ openings_by k m.known + n) first.number second.openings in omega (arith, few, more));
}

-- a load of the number of releases
pub loaded_sits : (n : ℕ) (p : LogKnown) (es : List Held) (tag : ℕ) → Sits p es tag → p.seen ≤ n → Sits (loaded n p) es tag
loaded_sits n p es tag sits more = record { seated = sits.seated; legal = sits.legal; fewest = (let few = sits.fewest in omega (arith, few, more)) }

pub loaded_keeps : (n : ℕ) (p : LogKnown) → Keeps 0 p (loaded n p)
loaded_keeps n p = record { number = refl; first = refl; openings = (omega arith) }

-- an acknowledgement
module _ (p q : LogKnown) (es es' : List Held) (tag : ℕ) (sits : Sits p es tag) (acked : Acked) (acks : Calls (AcksAll acked) p q)
    (dropped : (key : Key) → held_under key es' ≡ held_without acked.scopes (held_under key es)) where
  pub ack_sits : Sits q es' acked.tag
  ack_sits = one_sits p q (AcksAll acked) acks call.Ack (reply.Acked acked.tag) acks.makes.step es' acked.tag
      (acked_sits acks.found acks.last p.number es tag
      (seated_there (AcksAll acked) p q acks (record { seat = p.number; call = call.Ack; reply = reply.Acked acked.tag } ∷ []) acks.makes.step.logged
      (one_own (AcksAll acked) p q acks call.Ack (reply.Acked acked.tag) acks.makes.step) es tag sits.seated)
      es' acked.tag acked.scopes acks.makes.legal acks.makes.step acks.makes.scopes dropped)

  pub ack_keeps : Keeps 0 p q
  ack_keeps = one_keeps_scopes p q (AcksAll acked) acks call.Ack (reply.Acked acked.tag) acks.makes.step refl

pub ack_acknowledges : (p q : LogKnown) (acked : Acked) → Calls (AcksAll acked) p q → Acknowledges p q
ack_acknowledges p q acked acks = record { found = acks.found; finds = acks.finds; last = acks.last; makes = (acked.tag, acks.makes.step); legal = acks.legal; leaves = acks.leaves }

-- a tag below the releases that the seat loaded may be raised
pub may_ack_seen : (p : LogKnown) (es : List Held) (tag : ℕ) → Sits p es tag → tag < p.seen → WorkingUnder p (λ row. row.tag < p.seen)
may_ack_seen p es tag sits due = by_seat (seat_of (known_state p) p.number) sits.seated.works sits.seated.tagged where
  by_seat : (o : Option Seat) → IsSomeAnd o (λ row. (row.ended ≡ false) × Unit {0}) → tag ≡ option_map_or (λ (row : Seat). row.tag) o 0
      → IsSomeAnd o (λ row. (row.ended ≡ false) × (row.tag < p.seen))
  by_seat None works tagged = works
  by_seat (Some row) works tagged = (works.0, (let below = due in let e : tag ≡ row.tag = tagged in omega (arith, below, e)))

-- a call that leaves what the seat holds
module _ (p q : LogKnown) (es : List Held) (tag : ℕ) (sits : Sits p es tag) where
  there_before : (Makes : ℕ → BookHistory → BookHistory → Type 0) (under : Calls Makes p q) (c : Call) (r : Reply) → Logged under.found p.number c r under.last → IsSeated under.found p.number es tag
  there_before Makes under c r l = seated_there Makes p q under (record { seat = p.number; call = c; reply = r } ∷ []) l.logged (one_own Makes p q under c r l) es tag sits.seated

  pub open_sits : (label prefix : List ℕ) (v : Verdict) → Calls (AnswersCall (call.OpenScope label prefix) v) p q → Sits q es tag
  open_sits label prefix v under =
      let a = under.makes in let M : ℕ → BookHistory → BookHistory → Type 0 = AnswersCall (call.OpenScope label prefix) v in
      one_sits p q M under (call.OpenScope label prefix) a.0 a.2 es tag
      (opened_sits under.found under.last p.number es tag (there_before M under (call.OpenScope label prefix) a.0 a.2) label prefix v a)

  pub release_sits : (label : List ℕ) (v : Verdict) → Calls (AnswersCall (call.Release label) v) p q → Sits q es tag
  release_sits label v under =
      let a = under.makes in let M : ℕ → BookHistory → BookHistory → Type 0 = AnswersCall (call.Release label) v in
      one_sits p q M under (call.Release label) a.0 a.2 es tag
      (released_sits under.found under.last p.number es tag (there_before M under (call.Release label) a.0 a.2) label v a)

  pub text_sits_ : (id : MetricId) (text : List ℕ) → Calls (LogsCall (call.SetText id text) reply.TextSet) p q → Sits q es tag
  text_sits_ id text under =
      let l = under.makes in let M : ℕ → BookHistory → BookHistory → Type 0 = LogsCall (call.SetText id text) reply.TextSet in
      one_sits p q M under (call.SetText id text) reply.TextSet l es tag
      (text_sits under.found under.last p.number es tag (there_before M under (call.SetText id text) reply.TextSet l) id text l)

pub open_keeps : (p q : LogKnown) (label prefix : List ℕ) (v : Verdict) → Calls (AnswersCall (call.OpenScope label prefix) v) p q → Keeps 1 p q
open_keeps p q label prefix v under = one_keeps p q (AnswersCall (call.OpenScope label prefix) v) under (call.OpenScope label prefix) under.makes.0 under.makes.2

pub release_keeps : (p q : LogKnown) (label : List ℕ) (v : Verdict) → Calls (AnswersCall (call.Release label) v) p q → Keeps 0 p q
release_keeps p q label v under = one_keeps_scopes p q (AnswersCall (call.Release label) v) under (call.Release label) under.makes.0 under.makes.2 refl

pub text_keeps : (p q : LogKnown) (id : MetricId) (text : List ℕ) → Calls (LogsCall (call.SetText id text) reply.TextSet) p q → Keeps 0 p q
text_keeps p q id text under = one_keeps_scopes p q (LogsCall (call.SetText id text) reply.TextSet) under (call.SetText id text) reply.TextSet under.makes refl

-- what is held stays so where the cache does
pub held_kept : (p q : LogKnown) (es es' : List Held) (tag tag' : ℕ) (key : Key) (v : Verdict) → Sits p es tag → Sits q es' tag' → es' ≡ es → IsHeldNow (known_state p) p.number key v → IsHeldNow (known_state q) q.number key v
held_kept p q es es' tag tag' key v before after same is held =
    let verdict = λ (o : Option Held). option_map (λ (h : Held). h.verdict) o in
    ap verdict (sym (after.seated.held key)) ∙ (ap (λ (hs : List Held). verdict (held_under key hs)) same ∙ (ap verdict (before.seated.held key) ∙ is held))
