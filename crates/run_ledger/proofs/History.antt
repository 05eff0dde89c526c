-- There is one history, which each worker's events follow, with a sweep for each flush.
use Rattle.std.proofs.Common.{◌≡◌, ◌≢◌, ◌==◌, ◌+◌, ◌≤◌, ◌&&◌, nat_le, ℕ, suc, cond, not, Bool, true, false, List, [], ◌∷◌, ◌++◌, map, length, drop, refl, ap, sym, ◌∙◌, subst, arith}
use Rattle.std.specs.Prelude.{count_by}
use Rattle.std.specs.List.{list_all}
use Rattle.std.proofs.lemmas.Bool.{leb-true}
use Rattle.std.proofs.lemmas.List.{drop_at, length-map, append_assoc, map-append}
use Rattle.std.proofs.lemmas.List.Elements.{All-push, All-weaker}
use Rattle.std.proofs.lemmas.List.Sums.{sum_by-append, sum_by-cons}
use Rattle.stat_defs.specs.declared.configs.ScopeSpec.{ScopeSpec}
use Rattle.stat_defs.specs.declared.history.Call.{Call}
use Rattle.stat_defs.specs.declared.history.Call.TheVariants as call
use Rattle.stat_defs.specs.declared.history.Reply.TheVariants as reply
use Rattle.stat_defs.specs.declared.history.Entry.{Entry}
use Rattle.stat_defs.specs.declared.reports.FlushRecord.{FlushRecord}
use Rattle.seat_history.specs.History.{past, entries_by}
use Rattle.seat_history.proofs.Logs.{past-goes-on}
use Rattle.book_state.specs.State.{NameRules}
use Rattle.book_state.specs.Log.{openings, is_sweep, fits_seat, Legal}
use Rattle.book_state.specs.SeatLaws.{is_end}
use Rattle.book_state.specs.Follows.{Follows}
use Rattle.book_state.proofs.Growing.{chain_left}
use Rattle.book_state.proofs.Lists.{both}
use Rattle.ledger.specs.Ledger.{RunPlan}
use Rattle.ledger.specs.Lists.{EachNumbered, OfLast}
use Rattle.ledger.specs.Work.{events_in, verdicts_in}
use Rattle.ledger.proofs.Lists.{number_apart}
use Rattle.run_ledger.specs.Told.{FlushTold, WorkerTold}
use Rattle.run_ledger.specs.Accounts.{WorkerAccounts, FollowsEvents}
use Rattle.ledger.proofs.Members.{each_as, each_both, each_mapped, of_last}

-- each worker follows its events in the whole log
module _ (rules : NameRules) (workers : ℕ) (found : List Entry) (sweep : Entry) (log : List Entry) (whole : log ≡ found ++ sweep ∷ []) (by_store : sweep.seat ≡ 0) where
  follows : (w : ℕ) (told : WorkerTold) → 1 ≤ w → WorkerAccounts found w told × FollowsEvents rules workers w told → Follows rules workers w (events_in told.work) (verdicts_in told.work) log
  follows w told above (is, follow) =
      let known : List Entry = told.seat.known in
      let more : List Entry = is.known.0 in
      let same : log ≡ known ++ (more ++ sweep ∷ []) = whole ∙ ap (λ (l : List Entry). l ++ sweep ∷ []) is.known.1 ∙ append_assoc known more (sweep ∷ []) in
      let number = is.number in
      subst (λ (l : List Entry). Follows rules workers w (events_in told.work) (verdicts_in told.work) l) (sym same)
      (chain_left rules workers w (events_in told.work) (verdicts_in told.work) known (more ++ sweep ∷ []) follow
      (All-push (λ (e : Entry). w ≢ e.seat) more sweep
      (All-weaker (λ (e : Entry). e.seat ≢ told.seat.number) (λ (e : Entry). w ≢ e.seat) (λ e other mine. other (sym (number ∙ mine))) more is.known.2)
      (λ mine. omega (arith, above, mine, by_store))))

  pub all_follow : (told : List WorkerTold) → EachNumbered (WorkerAccounts found) 1 told → EachNumbered (FollowsEvents rules workers) 1 told
      → EachNumbered (λ w work. Follows rules workers w (events_in work) (verdicts_in work) log) 1 (map (λ worker. worker.work) told)
  all_follow told each follow =
      each_mapped (λ (worker : WorkerTold). worker.work) (λ w work. Follows rules workers w (events_in work) (verdicts_in work) log) 1 told
      (each_as (λ w worker. WorkerAccounts found w worker × FollowsEvents rules workers w worker) (λ w worker. Follows rules workers w (events_in worker.work) (verdicts_in worker.work) log) 1 told follows
      (each_both (WorkerAccounts found) (FollowsEvents rules workers) 1 told each follow))

-- the sweeps are the flusher's entries
abbrev sweeps_in : List Entry → ℕ
sweeps_in log = count_by (λ (e : Entry). is_sweep e.call) log

no_sweeps : (k : ℕ) (scopes : List ScopeSpec) → sweeps_in (openings k scopes) ≡ 0
no_sweeps k [] = refl
no_sweeps k (scope ∷ scopes) =
    let rest = no_sweeps (suc k) scopes in
    let whole = sum_by-cons (λ (e : Entry). cond (is_sweep e.call) 1 0) (record { seat = 0; call = call.OpenScope scope.label scope.prefix; reply = reply.Opened (record { 0 = k }) }) (openings (suc k) scopes) in
    omega (arith, rest, whole)

abbrev of_store : List Entry → List Entry
of_store log = entries_by 0 log

store_sweeps : (workers : ℕ) (log : List Entry) → list_all (fits_seat workers) log ≡ true → length (of_store log) ≡ sweeps_in log
store_sweeps workers [] fit = refl
store_sweeps workers (e ∷ log) fit =
    let parts = both (fits_seat workers e) (list_all (fits_seat workers) log) fit in
    let rest = store_sweeps workers log parts.1 in
    let whole = sum_by-cons (λ (x : Entry). cond (is_sweep x.call) 1 0) e log in
    by_case (is_sweep e.call) refl rest whole parts.0 where
      by_case : (t : Bool) → is_sweep e.call ≡ t → length (of_store log) ≡ sweeps_in log → sweeps_in (e ∷ log) ≡ cond (is_sweep e.call) 1 0 + sweeps_in log
          → fits_seat workers e ≡ true → length (of_store (e ∷ log)) ≡ sweeps_in (e ∷ log)
      by_case true is rest whole fits =
          let own : (e.seat == 0) ≡ true = sym (ap (λ (t : Bool). cond t (e.seat == 0) (nat_le 1 e.seat && nat_le e.seat workers)) is) ∙ fits in
          let one : ◌≡◌ {A = ℕ} (cond (is_sweep e.call) 1 0) 1 = ap (λ (t : Bool). cond t 1 0) is in
          let longer : length (of_store (e ∷ log)) ≡ suc (length (of_store log)) = ap (λ (t : Bool). length (cond t (e ∷ of_store log) (of_store log))) own in
          omega (arith, rest, whole, one, longer)
      by_case false is rest whole fits =
          let worker = both (nat_le 1 e.seat) (nat_le e.seat workers) (sym (ap (λ (t : Bool). cond t (e.seat == 0) (nat_le 1 e.seat && nat_le e.seat workers)) is) ∙ fits) in
          let above = leb-true 1 e.seat worker.0 in
          let other : (e.seat == 0) ≡ false = number_apart e.seat 0 (λ same. omega (arith, above, same)) in
          let none : ◌≡◌ {A = ℕ} (cond (is_sweep e.call) 1 0) 0 = ap (λ (t : Bool). cond t 1 0) is in
          let same : length (of_store (e ∷ log)) ≡ length (of_store log) = ap (λ (t : Bool). length (cond t (e ∷ of_store log) (of_store log))) other in
          omega (arith, rest, whole, none, same)

pub all_sweeps : (plan : RunPlan) (workers : ℕ) (log : List Entry) (flushes : List FlushTold) → Legal plan.rules plan.scopes workers log
    → entries_by 0 (past (openings 0 plan.scopes) log) ≡ map (λ flush. flush.sweep) flushes → sweeps_in log ≡ length flushes
all_sweeps plan workers log flushes legal are =
    let rest = past-goes-on (openings 0 plan.scopes) log legal.rest legal.begins in
    let count : length (of_store legal.rest) ≡ length flushes =
    ap (λ (l : List Entry). length (of_store l)) (sym rest) ∙ ap (λ (l : List Entry). length l) are ∙ length-map flushes (λ (f : FlushTold). f.sweep) in
    let own = store_sweeps workers legal.rest legal.seats in
    let whole = sum_by-append (λ (e : Entry). cond (is_sweep e.call) 1 0) (openings 0 plan.scopes) legal.rest in
    let before = no_sweeps 0 plan.scopes in
    let split : sweeps_in log ≡ sweeps_in (openings 0 plan.scopes ++ legal.rest) = ap sweeps_in legal.begins in
    omega (arith, count, own, whole, before, split)

-- no worker ends behind the last sweep
abbrev pub NoneEnds : List Entry → FlushRecord → Type 0
NoneEnds log last = list_all (λ (e : Entry). not (is_end e.call)) (drop last.at log) ≡ true

pub none_ends : (log : List Entry) (flushes : List FlushTold) (last : FlushTold) → log ≡ last.found ++ last.sweep ∷ [] → last.shown.at ≡ length last.found → last.sweep.call ≡ call.Sweep
    → OfLast (NoneEnds log) (map (λ flush. flush.shown) (flushes ++ last ∷ []))
none_ends log flushes last whole at is =
    let behind : drop last.shown.at log ≡ last.sweep ∷ [] =
    ap (λ (l : List Entry). drop last.shown.at l) whole ∙ drop_at last.found (last.sweep ∷ []) last.shown.at (sym at) in
    let none : NoneEnds log last.shown =
    ap (λ (l : List Entry). list_all (λ (e : Entry). not (is_end e.call)) l) behind ∙ ap (λ (c : Call). not (is_end c) && true) is in
    subst (λ (l : List FlushRecord). OfLast (NoneEnds log) l) (sym (map-append (λ (f : FlushTold). f.shown) flushes (last ∷ [])))
    (of_last (NoneEnds log) (map (λ (f : FlushTold). f.shown) flushes) last.shown none)
