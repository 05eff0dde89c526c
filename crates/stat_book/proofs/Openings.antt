-- How many scopes a book can have: each seat opens few, and there are few seats.
use Rattle.std.proofs.Common.{◌≡◌, ℕ, zero, suc, ◌+◌, ◌*◌, ◌^◌, ◌<◌, ◌≤◌, ◌==◌, ◌&&◌, nat_lt, nat_le, Bool, true, false, cond, List, [], ◌∷◌, ◌++◌, length, refl, sym, ◌∙◌, subst, arith, length-append, suc-mul}
use Rattle.std.specs.List.{list_all, count_by}
use Rattle.std.proofs.lemmas.Bool.Decides.{nat_tests}
use Rattle.stat_defs.specs.declared.history.Call.{Call}
use Rattle.stat_defs.specs.declared.history.Call.TheVariants as call
use Rattle.stat_defs.specs.declared.history.Reply.{Reply}
use Rattle.stat_defs.specs.declared.history.Reply.TheVariants as reply
use Rattle.stat_defs.specs.declared.history.Entry.{Entry}
use Rattle.stat_defs.specs.declared.configs.ScopeSpec.{ScopeSpec}
use Rattle.book_state.specs.declared.limits.TheConstants.{MAX_WORKERS, MAX_OPENINGS}
use Rattle.book_state.specs.State.{NameRules, State, Seat}
use Rattle.book_state.specs.Step.{effect, on_seat, closed}
use Rattle.book_state.specs.Log.{empty, openings, is_sweep, fits_seat, replay_from, replay, Legal}
use Rattle.stat_book.specs.Calls.{is_opening, openings_by}
use Rattle.book_state.proofs.Lists.{both, length-change_at, count_cons}

abbrev opens : List Entry → ℕ
opens log = count_by (λ entry. is_opening entry.call) log

-- the openings of the seats below a number
abbrev opens_below : ℕ → List Entry → ℕ
opens_below n log = count_by (λ entry. is_opening entry.call && nat_lt entry.seat n) log

below_step : (o : Bool) (seat n all some one : ℕ) → all ≡ some + one
    → cond (o && nat_lt seat (suc n)) 1 0 + all ≡ (cond (o && nat_lt seat n) 1 0 + some) + (cond (o && seat == n) 1 0 + one)
below_step true seat n all some one e = grind (arith, nat_tests)
below_step false seat n all some one e = omega (arith, e)

below_more : (n : ℕ) (log : List Entry) → opens_below (suc n) log ≡ opens_below n log + openings_by n log
below_more n [] = refl
below_more n (e ∷ log) =
    let step = below_step (is_opening e.call) e.seat n (opens_below (suc n) log) (opens_below n log) (openings_by n log) (below_more n log) in
    let all = count_cons (λ (entry : Entry). is_opening entry.call && nat_lt entry.seat (suc n)) e log in
    let some = count_cons (λ (entry : Entry). is_opening entry.call && nat_lt entry.seat n) e log in
    let one = count_cons (λ (entry : Entry). is_opening entry.call && entry.seat == n) e log in
    omega (arith, step, all, some, one)

none_below : (log : List Entry) → opens_below 0 log ≡ 0
none_below [] = refl
none_below (e ∷ log) = count_cons (λ (entry : Entry). is_opening entry.call && nat_lt entry.seat 0) e log ∙ none_step (is_opening e.call) e.seat (opens_below 0 log) (none_below log) where
  none_step : (o : Bool) (seat rest : ℕ) → rest ≡ 0 → cond (o && nat_lt seat 0) 1 0 + rest ≡ 0
  none_step true seat rest e = grind (arith, nat_tests)
  none_step false seat rest e = omega (arith, e)

few_below : (most : ℕ) (log : List Entry) → ((seat : ℕ) → openings_by seat log ≤ most) → (n : ℕ) → opens_below n log ≤ n * most
few_below most log few zero = let e = none_below log in omega (arith, e)
few_below most log few (suc n) =
    let more = below_more n log in let before = few_below most log few n in let here = few n in
    let one_more = suc-mul n most in
    omega (arith, more, before, here, one_more)

-- every seat of a legal log is the store's or a worker's
seat_step : (sweep : Bool) (workers seat : ℕ) → cond sweep (seat == 0) (nat_le 1 seat && nat_le seat workers) ≡ true → nat_lt seat (workers + 1) ≡ true
seat_step true workers seat fits = grind (arith, nat_tests)
seat_step false workers seat fits = let parts = both (nat_le 1 seat) (nat_le seat workers) fits in grind (arith, nat_tests)

all_step : (o below : Bool) (all some : ℕ) → below ≡ true → all ≤ some → cond o 1 0 + all ≤ cond (o && below) 1 0 + some
all_step true true all some is le = omega (arith, le)
all_step true false all some is le = absurd cc
all_step false below all some is le = omega (arith, le)

more_below : (workers : ℕ) (e : Entry) (log : List Entry)
    → cond (is_opening e.call) 1 0 + opens log ≤ cond (is_opening e.call && nat_lt e.seat (workers + 1)) 1 0 + opens_below (workers + 1) log → opens (e ∷ log) ≤ opens_below (workers + 1) (e ∷ log)
more_below workers e log step =
    let all = count_cons (λ (entry : Entry). is_opening entry.call) e log in
    let some = count_cons (λ (entry : Entry). is_opening entry.call && nat_lt entry.seat (workers + 1)) e log in
    omega (arith, step, all, some)

rest_below : (workers : ℕ) (log : List Entry) → list_all (fits_seat workers) log ≡ true → opens log ≤ opens_below (workers + 1) log
rest_below workers [] fits = omega arith
rest_below workers (e ∷ log) fits =
    let parts = both (fits_seat workers e) (list_all (fits_seat workers) log) fits in
    let step = all_step (is_opening e.call) (nat_lt e.seat (workers + 1)) (opens log) (opens_below (workers + 1) log) (seat_step (is_sweep e.call) workers e.seat parts.0) (rest_below workers log parts.1) in
    more_below workers e log step

first_below : (workers id : ℕ) (scopes : List ScopeSpec) (rest : List Entry) → opens rest ≤ opens_below (workers + 1) rest
    → opens (openings id scopes ++ rest) ≤ opens_below (workers + 1) (openings id scopes ++ rest)
first_below workers id [] rest le = le
first_below workers id (scope ∷ scopes) rest le =
    let store : nat_lt 0 (workers + 1) ≡ true = grind (arith, nat_tests) in
    let more = openings (suc id) scopes ++ rest in
    more_below workers (record { seat = 0; call = call.OpenScope scope.label scope.prefix; reply = reply.Opened (record { 0 = id }) }) more
    (all_step true (nat_lt 0 (workers + 1)) (opens more) (opens_below (workers + 1) more) store (first_below workers (suc id) scopes rest le))

module _ (rules : NameRules) where
  on_seat_scopes : (f : Seat → Seat) (seat : ℕ) (s : State) → (on_seat f seat s).scopes ≡ s.scopes
  on_seat_scopes f zero s = refl
  on_seat_scopes f (suc at) s = refl

  -- a call adds at most one scope, and an opening alone does
  scopes_step : (seat : ℕ) (c : Call) (r : Reply) (s : State) → length (effect rules seat c r s).scopes ≤ length s.scopes + cond (is_opening c) 1 0
  scopes_step seat (call.OpenScope label prefix) (reply.Opened id) s = let n = length-append s.scopes (record { label = label; prefix = prefix; live = true } ∷ []) in omega (arith, n)
  scopes_step seat (call.Release label) (reply.Released id) s = let n = length-change_at closed id.0 s.scopes in omega (arith, n)
  scopes_step seat (call.Find key) (reply.Made id numbers) s = rw on_seat_scopes (omega arith)
  scopes_step seat (call.Find key) (reply.Found id) s = rw on_seat_scopes (omega arith)
  scopes_step seat (call.Find key) reply.Rejected s = rw on_seat_scopes (omega arith)
  scopes_step seat (call.SetText id text) reply.TextSet s = omega arith
  scopes_step seat call.Ack (reply.Acked tag) s = rw on_seat_scopes (omega arith)
  scopes_step seat call.Sweep (reply.Swept n) s = omega arith
  scopes_step seat call.End reply.Ended s = rw on_seat_scopes (omega arith)
  scopes_step seat c r s = omega arith

  scopes_from : (s : State) (log : List Entry) → length (replay_from rules s log).scopes ≤ length s.scopes + opens log
  scopes_from s [] = omega arith
  scopes_from s (e ∷ log) =
      let one = scopes_step e.seat e.call e.reply s in
      let rest = scopes_from (effect rules e.seat e.call e.reply s) log in
      let all = count_cons (λ (entry : Entry). is_opening entry.call) e log in
      omega (arith, one, rest, all)

  -- so the numbers of all scopes fit 32 bits
  pub scopes_fit : (scopes : List ScopeSpec) (workers : ℕ) (log : List Entry) → Legal rules scopes workers log → workers ≤ MAX_WORKERS
      → ((seat : ℕ) → openings_by seat log ≤ MAX_OPENINGS) → length (replay rules workers log).scopes < 2 ^ 32
  scopes_fit scopes workers log legal few_workers few =
      let from = scopes_from (empty workers) log in
      let below : opens log ≤ opens_below (workers + 1) log =
      subst (λ (l : List Entry). opens l ≤ opens_below (workers + 1) l) (sym legal.begins) (first_below workers 0 scopes legal.rest (rest_below workers legal.rest legal.seats)) in
      let most = few_below MAX_OPENINGS log few (workers + 1) in
      omega (arith, from, below, most, few_workers)
