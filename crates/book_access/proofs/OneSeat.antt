-- A book that none but its seat calls: the seat finds what it left.
use Rattle.std.proofs.Common.{◌≡◌, ◌≢◌, ℕ, ◌++◌, ◌≤◌, List, [], ◌∷◌, refl, ap, sym, ◌∙◌, arith, Result, Ok, Err, IfOk, OnOk, OnErr, append-nil, subst}
use Rattle.std.proofs.lemmas.List.Elements.{All-nil}
use Rattle.stat_defs.specs.Books.{BookHistory, releases_in}
use Rattle.stat_defs.specs.declared.history.Entry.{Entry}
use Rattle.stat_defs.specs.declared.history.Call.{Call}
use Rattle.stat_defs.specs.declared.history.Reply.{Reply}
use Rattle.stat_book.specs.Calls.{IsLegal, Logged}
use Rattle.std.proofs.lemmas.List.{append_cancel_right}
use Rattle.seat_history.specs.declared.known.LogKnown.{LogKnown}
use Rattle.seat_history.specs.History.{Finds, past, found_log, left_log}
use Rattle.seat_history.proofs.Logs.{past-goes-on, past-none}
use Rattle.book_access.specs.Calling.{Calls}
use Rattle.book_access.specs.Making.{IsAsFound, LogsCall, AddsOne}
use Rattle.book_access.specs.Owned.{owned_known}

module _ (number : ℕ) (old new : BookHistory) where
  pub finds_own : Finds (owned_known number old) old
  finds_own = record {
    config = refl;
    workers = refl;
    log = ([], sym (append-nil old.log), All-nil (λ (e : Entry). e.seat ≢ number));
    releases = (omega arith);
  }

  -- the log that it left is that of the book
  leaves_own : (mine : List Entry) → new ≡ record old { log = old.log ++ mine } → owned_known number new ≡ left_log new.log (found_log old.log (owned_known number old))
  leaves_own mine logged = λ i. record {
    number = number;
    config = config_is i;
    workers = workers_is i;
    first = [];
    known = new.log;
    made = made_is i;
    seen = releases_in new.log;
  } where
    log_is : new.log ≡ old.log ++ mine
    log_is = ap (λ (h : BookHistory). h.log) logged

    config_is : new.config ≡ old.config
    config_is = ap (λ (h : BookHistory). h.config) logged

    workers_is : new.workers ≡ old.workers
    workers_is = ap (λ (h : BookHistory). h.workers) logged

    made_is : new.log ≡ old.log ++ past old.log new.log
    made_is = log_is ∙ ap (λ (l : List Entry). old.log ++ l) (sym (past-goes-on old.log new.log mine log_is))

  pub owned_calls : (Makes : ℕ → BookHistory → BookHistory → Type 0) → Makes number old new → IsLegal new → (mine : List Entry)
      → new ≡ record old { log = old.log ++ mine } → Calls Makes (owned_known number old) (owned_known number new)
  owned_calls Makes makes legal mine logged = record {
    found = old;
    finds = finds_own;
    last = new;
    makes = makes;
    legal = legal;
    leaves = leaves_own mine logged;
  }

  -- what the answer of a call tells
  pub owned_told : {T E : Type 0} (r : Result T E) (Makes : T → ℕ → BookHistory → BookHistory → Type 0) → IsLegal new
      → ((x : T) → Makes x number old new → AddsOne number old new) → IfOk r (λ x. Makes x number old new) → IfOk r (λ x. Calls (Makes x) (owned_known number old) (owned_known number new))
  owned_told (Ok x) Makes legal one makes = let adds = one x makes in owned_calls (Makes x) makes legal (record { seat = number; call = adds.0; reply = adds.1 } ∷ []) adds.2.logged
  owned_told (Err x) Makes legal one makes = tt

  pub owned_done : {T E : Type 0} (r : Result T E) (Makes : ℕ → BookHistory → BookHistory → Type 0) → IsLegal new
      → (Makes number old new → AddsOne number old new) → OnOk r (Makes number old new) → OnOk r (Calls Makes (owned_known number old) (owned_known number new))
  owned_done (Ok x) Makes legal one makes = let adds = one makes in owned_calls Makes makes legal (record { seat = number; call = adds.0; reply = adds.1 } ∷ []) adds.2.logged
  owned_done (Err x) Makes legal one makes = tt

  pub owned_kept : {T E : Type 0} (r : Result T E) → IsLegal new → OnErr r (new ≡ old) → OnErr r (Calls IsAsFound (owned_known number old) (owned_known number new))
  owned_kept (Ok x) legal err = tt
  owned_kept (Err x) legal err = owned_calls IsAsFound err legal [] (err ∙ λ i. record { config = old.config; workers = old.workers; log = sym (append-nil old.log) i })

-- What a call of the seat made, it made of the book itself: nothing came between.
module _ (number number' : ℕ) (a b : BookHistory) (Makes : ℕ → BookHistory → BookHistory → Type 0) (under : Calls Makes (owned_known number a) (owned_known number' b))
    (mine : List Entry) (logged : under.last ≡ record under.found { log = under.found.log ++ mine }) where
  same_number : number' ≡ number
  same_number = ap (λ (k : LogKnown). k.number) under.leaves

  log_is : under.last.log ≡ under.found.log ++ mine
  log_is = ap (λ (h : BookHistory). h.log) logged

  left_is : b.log ≡ under.last.log
  left_is = ap (λ (k : LogKnown). k.known) under.leaves

  found_log_is : under.found.log ≡ a.log
  found_log_is = append_cancel_right under.found.log a.log mine
      (sym log_is ∙ (sym left_is ∙ (ap (λ (k : LogKnown). k.made) under.leaves ∙ ap (λ (l : List Entry). a.log ++ l) (past-goes-on under.found.log under.last.log mine log_is))))

  found_is : under.found ≡ a
  found_is = λ i. record { config = under.finds.config i; workers = under.finds.workers i; log = found_log_is i }

  last_is : under.last ≡ b
  last_is = λ i. record { config = config_is i; workers = workers_is i; log = sym left_is i } where
    config_is : under.last.config ≡ b.config
    config_is = ap (λ (h : BookHistory). h.config) logged ∙ (under.finds.config ∙ sym (ap (λ (k : LogKnown). k.config) under.leaves))

    workers_is : under.last.workers ≡ b.workers
    workers_is = ap (λ (h : BookHistory). h.workers) logged ∙ (under.finds.workers ∙ sym (ap (λ (k : LogKnown). k.workers) under.leaves))

  made_own : Makes number a b
  made_own = subst (λ (h : BookHistory). Makes number h b) found_is (subst (λ (h : BookHistory). Makes number under.found h) last_is under.makes)

module _ (number number' : ℕ) (a b : BookHistory) where
  pub owned_logged : (c : Call) (r : Reply) → Calls (LogsCall c r) (owned_known number a) (owned_known number' b) → (Logged a number c r b) × (number' ≡ number)
  owned_logged c r under = let mine = record { seat = number; call = c; reply = r } ∷ [] in
      (made_own number number' a b (LogsCall c r) under mine under.makes.logged, same_number number number' a b (LogsCall c r) under mine under.makes.logged)

  pub owned_same : Calls IsAsFound (owned_known number a) (owned_known number' b) → (b ≡ a) × (number' ≡ number)
  owned_same under = (made_own number number' a b IsAsFound under [] none, same_number number number' a b IsAsFound under [] none) where
    none : under.last ≡ record under.found { log = under.found.log ++ [] }
    none = under.makes ∙ λ i. record { config = under.found.config; workers = under.found.workers; log = sym (append-nil under.found.log) i }
