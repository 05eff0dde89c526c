-- What a call found, what it may do there, and what its seat knows behind it.
use Rattle.std.proofs.Common.{◌≡◌, ◌≢◌, ℕ, ◌++◌, ◌+◌, ◌<◌, ◌==◌, ◌&&◌, Bool, true, false, cond, [], ◌∷◌, List, refl, ap, sym, ◌∙◌, subst, arith, ne_eqb, Result, Ok, Err, IfOk, OnErr, OnOk, All, Option, Some, None, option_map, drop}
use Rattle.std.specs.Prelude.{◌↔◌}
use Rattle.std.specs.Option.{IsSomeAnd}
use Rattle.std.proofs.lemmas.List.Elements.{All-weaker, All-head, All-tail}
use Rattle.std.proofs.lemmas.List.Sums.{sum_by-append}
use Rattle.stat_defs.specs.Books.{BookHistory, releases_in}
use Rattle.stat_defs.specs.declared.events.Key.{Key}
use Rattle.stat_defs.specs.declared.history.Acked.{Acked}
use Rattle.stat_defs.specs.declared.history.Call.{Call}
use Rattle.stat_defs.specs.declared.history.Call.TheVariants as call
use Rattle.stat_defs.specs.declared.history.Entry.{Entry}
use Rattle.stat_defs.specs.declared.history.FindAnswer.{FindAnswer}
use Rattle.stat_defs.specs.declared.history.Reply.{Reply}
use Rattle.stat_defs.specs.declared.history.Reply.TheVariants as reply
use Rattle.stat_defs.specs.declared.history.Verdict.{Verdict}
use Rattle.stat_defs.specs.declared.history.Verdict.TheVariants as verdict
use Rattle.book_state.specs.State.{State, Seat, seat_of, live_scope}
use Rattle.book_state.specs.Follows.{tag_of}
use Rattle.book_state.specs.Log.{empty}
use Rattle.book_state.specs.Step.{Works, Working}
use Rattle.book_state.specs.Stored.{released_in}
use Rattle.book_state.proofs.Growing.{replayed_on, left_seats}
use Rattle.book_state.proofs.Lists.{count_cons}
use Rattle.stat_book.specs.Calls.{rules_of, state_of, IsLegal, Logged, Answers, is_opening, openings_by}
use Rattle.stat_book.specs.Finds.{scope_number}
use Rattle.stat_book.proofs.CallerLemmas.{releases_counted}
use Rattle.seat_history.specs.declared.known.LogKnown.{LogKnown}
use Rattle.seat_history.specs.History.{Finds, known_history, found_log, left_log}
use Rattle.book_access.specs.Calling.{known_state, WorkingUnder, WorksUnder, Calls, opened}
use Rattle.book_access.specs.Making.{IsAsFound, AddsOne, FindsKey, AcksAll}

found_is : (k : LogKnown) (found : BookHistory) (f : Finds k found) → found ≡ record (known_history k) { log = k.known ++ f.log.0 }
found_is k found f = λ i. record { config = f.config i; workers = f.workers i; log = f.log.1 i }

-- entries of others leave the seat as it was
pub seat_found : (k : LogKnown) (found : BookHistory) → Finds k found → seat_of (state_of found) k.number ≡ seat_of (known_state k) k.number
seat_found k found f =
    ap (λ (h : BookHistory). seat_of (state_of h) k.number) (found_is k found f)
    ∙ (ap (λ (s : State). seat_of s k.number) (replayed_on (rules_of (known_history k)) (empty k.workers) k.known f.log.0)
    ∙ left_seats (rules_of (known_history k)) (known_state k) k.number f.log.0 (All-weaker (λ (entry : Entry). entry.seat ≢ k.number) (λ entry. k.number ≢ entry.seat) (λ entry other same. other (sym same)) f.log.0 f.log.2))

-- a worker is one in the book that it finds, and what holds of it holds there
pub working_found : (k : LogKnown) (found : BookHistory) (number : ℕ) (May : Seat → Type 0) → Finds k found → k.number ≡ number → WorkingUnder k May → Working (state_of found) number May
working_found k found number May f is works =
    subst (λ n. Working (state_of found) n May) is (subst (λ (o : Option Seat). IsSomeAnd o (λ row. (row.ended ≡ false) × May row)) (sym (seat_found k found f)) works)

pub works_found : (k : LogKnown) (found : BookHistory) → Finds k found → WorksUnder k → Works (state_of found) k.number
works_found k found f works = working_found k found k.number (λ row. Unit {0}) f refl works

-- a tag below the releases that the seat saw is below those of the book that it finds
pub due_found : (k : LogKnown) (found : BookHistory) (number : ℕ) → Finds k found → k.number ≡ number → WorkingUnder k (λ row. row.tag < k.seen)
    → Working (state_of found) number (λ row. row.tag < releases_in found.log)
due_found k found number f is works = by_seat (seat_of (state_of found) number) (working_found k found number (λ row. row.tag < k.seen) f is works) where
  by_seat : (o : Option Seat) → IsSomeAnd o (λ row. (row.ended ≡ false) × (row.tag < k.seen)) → IsSomeAnd o (λ row. (row.ended ≡ false) × (row.tag < releases_in found.log))
  by_seat None is = is
  by_seat (Some row) is = (is.0, (let below = is.1 in let more = f.releases in omega (arith, below, more)))

pub due_in : (book : BookHistory) (number : ℕ) → IsLegal book → Working (state_of book) number (λ row. row.tag < releases_in book.log) → Working (state_of book) number (λ row. row.tag < (state_of book).releases)
due_in book number legal works = subst (λ n. Working (state_of book) number (λ row. row.tag < n)) (releases_counted book legal) works

-- entries of others are no openings of the seat
none_opened : (k : ℕ) (more : List Entry) → All (λ e. e.seat ≢ k) more → openings_by k more ≡ 0
none_opened k [] others = refl
none_opened k (e ∷ more) others =
    let rest = none_opened k more (All-tail (λ (x : Entry). x.seat ≢ k) e more others) in
    let step = count_cons (λ (entry : Entry). is_opening entry.call && entry.seat == k) e more in
    let other = ne_eqb e.seat k (All-head (λ (x : Entry). x.seat ≢ k) e more others) in
    let none : ◌≡◌ {A = ℕ} (cond (is_opening e.call && e.seat == k) 1 0) 0 = not_both (is_opening e.call) (e.seat == k) other in
    omega (arith, rest, step, none) where
      not_both : (a b : Bool) → b ≡ false → ◌≡◌ {A = ℕ} (cond (a && b) 1 0) 0
      not_both true b is = ap (λ (t : Bool). cond t 1 0) is
      not_both false b is = refl

pub openings_found : (k : LogKnown) (found : BookHistory) → Finds k found → openings_by k.number found.log ≡ opened k
openings_found k found f =
    let more = ap (openings_by k.number) f.log.1 ∙ sum_by-append (λ (entry : Entry). cond (is_opening entry.call && entry.seat == k.number) 1 0) k.known f.log.0 in
    let none = none_opened k.number f.log.0 f.log.2 in
    omega (arith, more, none)

-- each of these calls adds one entry
pub one_found : (key : Key) (answer : FindAnswer) (seat : ℕ) (old new : BookHistory) → FindsKey key answer seat old new → AddsOne seat old new
one_found key answer seat old new f = (call.Find key, f.step.0, f.step.2)

pub one_answered : (c : Call) (v : Verdict) (seat : ℕ) (old new : BookHistory) → Answers old seat c v new → AddsOne seat old new
one_answered c v seat old new a = (c, a.0, a.2)

pub one_logged : (c : Call) (r : Reply) (seat : ℕ) (old new : BookHistory) → Logged old seat c r new → AddsOne seat old new
one_logged c r seat old new l = (c, r, l)

pub one_acked : (acked : Acked) (seat : ℕ) (old new : BookHistory) → AcksAll acked seat old new → AddsOne seat old new
one_acked acked seat old new a = one_logged call.Ack (reply.Acked acked.tag) seat old new a.step

-- the clauses of the book, as one record
pub finds_key : {E : Type 0} (r : Result FindAnswer E) (seat : ℕ) (key : Key) (old new : BookHistory)
    → IfOk r (λ answer. Answers old seat (call.Find key) answer.verdict new)
    → IfOk r (λ answer. option_map scope_number answer.scope ≡ live_scope (state_of old) key.label)
    → IfOk r (λ answer. (answer.scope ≡ None) ↔ (answer.verdict ≡ verdict.NoScope))
    → IfOk r (λ answer. FindsKey key answer seat old new)
finds_key (Ok x) seat key old new step scope none = record { step = step; scope = scope; none = none }
finds_key (Err x) seat key old new step scope none = tt

pub acks_all : {E : Type 0} (r : Result Acked E) (seat : ℕ) (old new : BookHistory) → IsLegal old
    → IfOk r (λ acked. Logged old seat call.Ack (reply.Acked acked.tag) new)
    → IfOk r (λ acked. acked.scopes ≡ drop (tag_of (state_of old) seat) (released_in old.log))
    → IfOk r (λ acked. AcksAll acked seat old new)
acks_all (Ok x) seat old new legal step scopes = record { legal = legal; step = step; scopes = scopes }
acks_all (Err x) seat old new legal step scopes = tt

-- what the answer of a call tells, of the log that its seat found, left and knows behind it
module _ {T E : Type 0} (r : Result T E) (k k' : LogKnown) (found last : BookHistory) (finds : Finds k found) (legal : IsLegal last)
    (leaves : k' ≡ left_log last.log (found_log found.log k)) where
  pub told_calls : (Makes : T → ℕ → BookHistory → BookHistory → Type 0) → IfOk r (λ x. Makes x k.number found last) → IfOk r (λ x. Calls (Makes x) k k')
  told_calls Makes makes = by r makes where
    by : (t : Result T E) → IfOk t (λ x. Makes x k.number found last) → IfOk t (λ x. Calls (Makes x) k k')
    by (Ok x) makes = record { found = found; finds = finds; last = last; makes = makes; legal = legal; leaves = leaves }
    by (Err x) makes = tt

  pub done_calls : (Makes : ℕ → BookHistory → BookHistory → Type 0) → OnOk r (Makes k.number found last) → OnOk r (Calls Makes k k')
  done_calls Makes makes = by r makes where
    by : (t : Result T E) → OnOk t (Makes k.number found last) → OnOk t (Calls Makes k k')
    by (Ok x) makes = record { found = found; finds = finds; last = last; makes = makes; legal = legal; leaves = leaves }
    by (Err x) makes = tt

  pub kept_calls : OnErr r (last ≡ found) → OnErr r (Calls IsAsFound k k')
  kept_calls is = by r is where
    by : (t : Result T E) → OnErr t (last ≡ found) → OnErr t (Calls IsAsFound k k')
    by (Ok x) is = tt
    by (Err x) is = record { found = found; finds = finds; last = last; makes = is; legal = legal; leaves = leaves }
