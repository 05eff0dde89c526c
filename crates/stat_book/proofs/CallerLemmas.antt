-- What the callers of a book cite: the state after a call, and what of it stays for each seat.
use Rattle.std.proofs.Common.{◌≡◌, ◌≢◌, ℕ, zero, suc, ◌+◌, ◌<◌, ◌≤◌, ◌==◌, ◌&&◌, Bool, true, false, cond, Some, List, [], ◌∷◌, ◌++◌, slice_get, replicate, refl, ap, sym, ◌∙◌, subst, arith}
use Rattle.std.proofs.lemmas.Bool.Decides.{nat_tests}
use Rattle.std.specs.Option.{IsSomeAnd}
use Rattle.stat_defs.specs.Books.{BookHistory, is_released, releases_in}
use Rattle.stat_defs.specs.declared.configs.Config.{Config}
use Rattle.stat_defs.specs.declared.configs.ScopeSpec.{ScopeSpec}
use Rattle.stat_defs.specs.declared.history.Call.{Call}
use Rattle.stat_defs.specs.declared.history.Call.TheVariants as call
use Rattle.stat_defs.specs.declared.history.Entry.{Entry}
use Rattle.stat_defs.specs.declared.history.Reply.{Reply}
use Rattle.stat_defs.specs.declared.history.Reply.TheVariants as reply
use Rattle.stat_defs.specs.declared.history.Verdict.{Verdict}
use Rattle.book_state.specs.State.{NameRules, State, seat_of}
use Rattle.book_state.specs.Step.{effect, Works}
use Rattle.book_state.specs.Log.{empty, openings, replay_from, Run, held_by}
use Rattle.stat_book.specs.Calls.{rules_of, state_of, IsLegal, new_book, Logged, Answers, is_opening, openings_by}
use Rattle.book_state.proofs.Lists.{count_cons, count_push}
use Rattle.book_state.proofs.Growing.{left_seat, left_held, same_seats}
use Rattle.stat_book.proofs.Keeping.{releases_step}

module _ (old new : BookHistory) (by : ℕ) (c : Call) (r : Reply) (l : Logged old by c r new) where
  pub state_after : state_of new ≡ effect (rules_of old) by c r (state_of old)
  state_after = l.step.after

  -- another seat's entry leaves a seat, and what it holds
  pub other_seat_stays : (seat : ℕ) → seat ≢ by → seat_of (state_of new) seat ≡ seat_of (state_of old) seat
  other_seat_stays seat other = ap (λ (s : State). seat_of s seat) l.step.after ∙ left_seat (rules_of old) (state_of old) seat (record { seat = by; call = c; reply = r }) other

  pub other_holds : (seat : ℕ) → seat ≢ by → held_by (rules_of new) new.workers seat new.log ≡ held_by (rules_of old) old.workers seat old.log
  other_holds seat other =
      ap (λ (book : BookHistory). held_by (rules_of book) book.workers seat book.log) l.logged ∙ left_held (rules_of old) old.workers seat old.log (record { seat = by; call = c; reply = r }) other

  pub other_works : (seat : ℕ) → seat ≢ by → Works (state_of old) seat → Works (state_of new) seat
  other_works seat other works = subst (λ o. IsSomeAnd o (λ row. (row.ended ≡ false) × Unit {0})) (sym (other_seat_stays seat other)) works

  -- one entry is one opening at most
  pub openings_after : (seat : ℕ) → openings_by seat new.log ≤ openings_by seat old.log + 1
  openings_after seat =
      let e : Entry = record { seat = by; call = c; reply = r } in
      let more = ap (λ (book : BookHistory). openings_by seat book.log) l.logged ∙ count_push (λ (entry : Entry). is_opening entry.call && entry.seat == seat) old.log e in
      let one = at_most_one (is_opening c && by == seat) in
      omega (arith, more, one) where
        at_most_one : (t : Bool) → cond t 1 0 ≤ 1
        at_most_one true = omega arith
        at_most_one false = omega arith

-- the calls on scopes leave all seats
open_seats : (rules : NameRules) (by : ℕ) (label prefix : List ℕ) (r : Reply) (s : State) → (effect rules by (call.OpenScope label prefix) r s).seats ≡ s.seats
open_seats rules by label prefix (reply.Opened id) s = refl
open_seats rules by label prefix _ s = refl

release_seats : (rules : NameRules) (by : ℕ) (label : List ℕ) (r : Reply) (s : State) → (effect rules by (call.Release label) r s).seats ≡ s.seats
release_seats rules by label (reply.Released id) s = refl
release_seats rules by label _ s = refl

seats_kept : (s t : State) (seat : ℕ) → s.seats ≡ t.seats → Works t seat → Works s seat
seats_kept s t seat same works = subst (λ o. IsSomeAnd o (λ row. (row.ended ≡ false) × Unit {0})) (sym (same_seats s t seat same)) works

pub opened_works : (old new : BookHistory) (by : ℕ) (label prefix : List ℕ) (v : Verdict) → Answers old by (call.OpenScope label prefix) v new → (seat : ℕ) → Works (state_of old) seat → Works (state_of new) seat
opened_works old new by label prefix v a seat works =
    seats_kept (state_of new) (state_of old) seat (ap (λ (s : State). s.seats) a.2.step.after ∙ open_seats (rules_of old) by label prefix a.0 (state_of old)) works

pub released_works : (old new : BookHistory) (by : ℕ) (label : List ℕ) (v : Verdict) → Answers old by (call.Release label) v new → (seat : ℕ) → Works (state_of old) seat → Works (state_of new) seat
released_works old new by label v a seat works =
    seats_kept (state_of new) (state_of old) seat (ap (λ (s : State). s.seats) a.2.step.after ∙ release_seats (rules_of old) by label a.0 (state_of old)) works

-- in a new book each worker may call, and has opened nothing
first_seats : (rules : NameRules) (s : State) (id : ℕ) (scopes : List ScopeSpec) → (replay_from rules s (openings id scopes)).seats ≡ s.seats
first_seats rules s id [] = refl
first_seats rules s id (scope ∷ scopes) = first_seats rules (record s { scopes = s.scopes ++ record { label = scope.label; prefix = scope.prefix; live = true } ∷ [] }) (suc id) scopes

pub replicated : {X : Type 0} (n at : ℕ) (x : X) → at < n → slice_get (replicate n x) at ≡ Some x
replicated zero at x below = absurd (omega (arith, below))
replicated (suc n) zero x below = refl
replicated (suc n) (suc at) x below = replicated n at x (omega (arith, below))

pub new_works : (config : Config) (workers at : ℕ) → at < workers → Works (state_of (new_book config workers)) (suc at)
new_works config workers at below =
    let first = first_seats (rules_of (new_book config workers)) (empty workers) 0 config.scopes in
    seats_kept (state_of (new_book config workers)) (empty workers) (suc at) first
    (subst (λ o. IsSomeAnd o (λ row. (row.ended ≡ false) × Unit {0})) (sym (replicated workers at (record { tag = 0; held = []; ended = false }) below)) (refl, tt))

none_opened : (id at : ℕ) (scopes : List ScopeSpec) → openings_by (suc at) (openings id scopes) ≡ 0
none_opened id at [] = refl
none_opened id at (scope ∷ scopes) =
    let rest = none_opened (suc id) at scopes in
    let more = count_cons (λ (entry : Entry). is_opening entry.call && entry.seat == suc at) (record { seat = 0; call = call.OpenScope scope.label scope.prefix; reply = reply.Opened (record { 0 = id }) }) (openings (suc id) scopes) in
    let other : (0 == suc at) ≡ false = grind (arith, nat_tests) in
    let no : ◌≡◌ {A = ℕ} (cond (true && 0 == suc at) 1 0) 0 = rw other refl in
    omega (arith, rest, more, no)

pub new_openings : (config : Config) (workers at : ℕ) → openings_by (suc at) (new_book config workers).log ≡ 0
new_openings config workers at = none_opened 0 at config.scopes

-- the releases of a legal log are those that its replies tell
releases_from : (rules : NameRules) (s : State) (log : List Entry) → Run rules s log → (replay_from rules s log).releases ≡ s.releases + releases_in log
releases_from rules s [] run = omega arith
releases_from rules s (e ∷ log) run =
    let rest = releases_from rules (effect rules e.seat e.call e.reply s) log run.1 in
    let step = releases_step rules e.seat e.call e.reply s run.0 in
    let more = count_cons (λ (entry : Entry). is_released entry.reply) e log in
    omega (arith, rest, step, more)

pub releases_counted : (book : BookHistory) → IsLegal book → releases_in book.log ≡ (state_of book).releases
releases_counted book legal = let all = releases_from (rules_of book) (empty book.workers) book.log legal.steps in omega (arith, all)
