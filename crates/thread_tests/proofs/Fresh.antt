-- A worker's seat that holds nothing.
use Rattle.std.proofs.Common.{◌≡◌, ℕ, zero, suc, ◌<◌, ◌≤◌, ◌++◌, ◌∷◌, true, false, List, [], Option, refl, ap, sym, ◌∙◌, subst, arith, Result, Ok, Err, IfOk, OnErr}
use Rattle.std.specs.Option.{IsSomeAnd}
use Rattle.stat_defs.specs.Books.{BookHistory}
use Rattle.stat_defs.specs.declared.configs.Config.{Config}
use Rattle.stat_defs.specs.declared.configs.ScopeSpec.{ScopeSpec}
use Rattle.stat_defs.specs.declared.history.Call.{Call}
use Rattle.stat_defs.specs.declared.history.Call.TheVariants as call
use Rattle.stat_defs.specs.declared.history.Reply.{Reply}
use Rattle.stat_defs.specs.declared.history.Reply.TheVariants as reply
use Rattle.stat_defs.specs.declared.history.Verdict.{Verdict}
use Rattle.book_state.specs.declared.limits.TheConstants.{MAX_OPENINGS}
use Rattle.book_state.specs.State.{NameRules, State, Seat, seat_of}
use Rattle.book_state.specs.Step.{effect, Working}
use Rattle.book_state.specs.Log.{empty, openings, replay_from}
use Rattle.book_state.proofs.Growing.{same_seats}
use Rattle.stat_book.specs.Calls.{rules_of, state_of, new_book}
use Rattle.stat_book.proofs.CallerLemmas.{replicated, new_openings}
use Rattle.seat_history.specs.declared.known.LogKnown.{LogKnown}
use Rattle.seat_history.specs.History.{known_history, new_known}
use Rattle.book_access.specs.Calling.{known_state, WorkingUnder, Calls, opened}
use Rattle.book_access.specs.Making.{IsAsFound, AnswersCall}
use Rattle.book_access.proofs.Called.{working_found}

module _ (k k' : LogKnown) (May : Seat → Type 0) where
  -- what the seat knows of the book that it left
  kept_by : (Makes : ℕ → BookHistory → BookHistory → Type 0) (t : Calls Makes k k') → t.last.config ≡ t.found.config → t.last.workers ≡ t.found.workers
      → seat_of (state_of t.last) k.number ≡ seat_of (state_of t.found) k.number → WorkingUnder k May → WorkingUnder k' May
  kept_by Makes t config workers seat works =
      let found = working_found k t.found k.number May t.finds refl works in
      let last : Working (state_of t.last) k.number May = subst (λ (o : Option Seat). IsSomeAnd o (λ row. (row.ended ≡ false) × May row)) (sym seat) found in
      let history : t.last ≡ known_history k' = whole t.last.config t.last.workers
      (config ∙ (t.finds.config ∙ sym (ap (λ (z : LogKnown). z.config) t.leaves))) (workers ∙ (t.finds.workers ∙ sym (ap (λ (z : LogKnown). z.workers) t.leaves))) (sym (ap (λ (z : LogKnown). z.known) t.leaves)) in
      subst (λ (n : ℕ). Working (known_state k') n May) (sym (ap (λ (z : LogKnown). z.number) t.leaves)) (subst (λ (h : BookHistory). Working (state_of h) k.number May) history last) where
        whole : (config : Config) (workers : ℕ) → config ≡ k'.config → workers ≡ k'.workers → t.last.log ≡ k'.known → record { config = config; workers = workers; log = t.last.log } ≡ known_history k'
        whole config workers c w l = λ i. record { config = c i; workers = w i; log = l i }

  -- a call that leaves all seats leaves this one
  pub kept_answer : {E : Type 0} (r : Result Verdict E) (c : Call) → ((rules : NameRules) (by : ℕ) (reply : Reply) (s : State) → (effect rules by c reply s).seats ≡ s.seats)
      → IfOk r (λ v. Calls (AnswersCall c v) k k') → OnErr r (Calls IsAsFound k k') → WorkingUnder k May → WorkingUnder k' May
  kept_answer (Ok v) c seats t err works =
      let m = t.makes.2 in
      kept_by (AnswersCall c v) t (ap (λ (h : BookHistory). h.config) m.logged) (ap (λ (h : BookHistory). h.workers) m.logged)
      (same_seats (state_of t.last) (state_of t.found) k.number (ap (λ (s : State). s.seats) m.step.after ∙ seats (rules_of t.found) k.number t.makes.0 (state_of t.found))) works
  kept_answer (Err x) c seats step t works =
      kept_by IsAsFound t (ap (λ (h : BookHistory). h.config) t.makes) (ap (λ (h : BookHistory). h.workers) t.makes) (ap (λ (h : BookHistory). seat_of (state_of h) k.number) t.makes) works

pub open_seats : (label prefix : List ℕ) (rules : NameRules) (by : ℕ) (r : Reply) (s : State) → (effect rules by (call.OpenScope label prefix) r s).seats ≡ s.seats
open_seats label prefix rules by (reply.Opened id) s = refl
open_seats label prefix rules by _ s = refl

pub release_seats : (label : List ℕ) (rules : NameRules) (by : ℕ) (r : Reply) (s : State) → (effect rules by (call.Release label) r s).seats ≡ s.seats
release_seats label rules by (reply.Released id) s = refl
release_seats label rules by _ s = refl

first_seats : (rules : NameRules) (s : State) (id : ℕ) (scopes : List ScopeSpec) → (replay_from rules s (openings id scopes)).seats ≡ s.seats
first_seats rules s id [] = refl
first_seats rules s id (scope ∷ scopes) = first_seats rules (record s { scopes = s.scopes ++ record { label = scope.label; prefix = scope.prefix; live = true } ∷ [] }) (suc id) scopes

-- a worker of a new book holds nothing
pub new_fresh : (config : Config) (workers at : ℕ) → at < workers → WorkingUnder (new_known (new_book config workers) (suc at)) (λ row. row.held ≡ [])
new_fresh config workers at below =
    let first = first_seats (rules_of (new_book config workers)) (empty workers) 0 config.scopes in
    subst (λ (o : Option Seat). IsSomeAnd o (λ row. (row.ended ≡ false) × (row.held ≡ []))) (sym (same_seats (state_of (new_book config workers)) (empty workers) (suc at) first))
    (subst (λ (o : Option Seat). IsSomeAnd o (λ row. (row.ended ≡ false) × (row.held ≡ []))) (sym (replicated workers at (record { tag = 0; held = []; ended = false }) below)) (refl, refl))

-- the seat of this number of a new book of two workers is one
pub worker_fresh : (config : Config) (first : BookHistory) (k : LogKnown) (number : ℕ) → first ≡ new_book config 2 → k ≡ new_known first number → 1 ≤ number → number ≤ 2 → WorkingUnder k (λ row. row.held ≡ [])
worker_fresh config first k zero is new low high = absurd (omega (arith, low))
worker_fresh config first k (suc at) is new low high =
    subst (λ (z : LogKnown). WorkingUnder z (λ row. row.held ≡ [])) (sym (new ∙ ap (λ (h : BookHistory). new_known h (suc at)) is)) (new_fresh config 2 at (omega (arith, high)))

pub worker_room : (config : Config) (first : BookHistory) (k : LogKnown) (number : ℕ) → first ≡ new_book config 2 → k ≡ new_known first number → 1 ≤ number → opened k < MAX_OPENINGS
worker_room config first k zero is new low = absurd (omega (arith, low))
worker_room config first k (suc at) is new low =
    let none : opened k ≡ 0 = ap opened (new ∙ ap (λ (h : BookHistory). new_known h (suc at)) is) ∙ new_openings config 2 at in
    subst (λ (n : ℕ). n < MAX_OPENINGS) (sym none) (omega arith)
