-- What each worker left accounts for what it did, in the log that the last sweep found.
use Rattle.std.proofs.Common.{◌≡◌, ◌⊎◌, ℕ, suc, List, [], ◌∷◌, ◌++◌, map, refl, ap, sym, ◌∙◌, subst, append_assoc}
use Rattle.std.specs.List.{AllByRecursion}
use Rattle.stat_defs.specs.Books.{BookHistory}
use Rattle.stat_defs.specs.declared.history.Call.TheVariants as call
use Rattle.stat_defs.specs.declared.history.Reply.TheVariants as reply
use Rattle.stat_defs.specs.declared.history.Entry.{Entry}
use Rattle.seat_history.specs.declared.known.LogKnown.{LogKnown}
use Rattle.seat_history.specs.History.{SeatHistory, first_history, entries_by, past}
use Rattle.book_state.specs.State.{NameRules}
use Rattle.book_state.specs.Log.{replay}
use Rattle.book_state.specs.Follows.{Follows}
use Rattle.stat_book.specs.Calls.{rules_of}
use Rattle.book_seat.proofs.Followed.{ended_known}
use Rattle.locked_book.specs.Sharing.{first_of, known_by}
use Rattle.metric_words.specs.Counters.{firsts}
use Rattle.metric_words.specs.CounterLedger.{worker_part}
use Rattle.ledger.specs.Lists.{EachNumbered}
use Rattle.ledger.specs.Work.{events_in, verdicts_in}
use Rattle.run_ledger.specs.Accounts.{WorkerAccounts, FollowsEvents}
use Rattle.store_parts.specs.declared.store.Store.{Store}
use Rattle.recorder.specs.declared.ended.Ended.{Ended}
use Rattle.recorder.specs.Ending.{told_at_end}
use Rattle.recorder.specs.RecorderKept.{IsCounterIn}
use Rattle.recorder.specs.Tied.{HasEnded, HasFollowedToEnd}
use Rattle.recorder.proofs.SeatMoves.{counter_stays}
use Rattle.recorder.proofs.UnitLemmas.{still_added}
use Rattle.store_closing.proofs.Pending.{AddsTo}

module _ (store : Store) (found : List Entry) where
  abbrev first : BookHistory
  first = first_of store.book

  abbrev IsInHistory : Ended → Type 0
  IsInHistory ended = SeatHistory first found (known_by ended.seat)

  one_accounts : (w : ℕ) (ended : Ended) → HasEnded store w ended → IsInHistory ended → WorkerAccounts found w (told_at_end ended)
  one_accounts w ended has history =
      let q : LogKnown = known_by ended.seat in
      let e = has.ends in
      let number : has.before.number ≡ w = sym (ap (λ (k : LogKnown). k.number) e.leaves) ∙ has.number in record {
        number = has.number;
        made = ap (λ (h : BookHistory). entries_by q.number (past h.log found)) history.made_with ∙ history.made;
        before = e.found.log;
        ended = ap (λ (k : LogKnown). k.known) e.leaves ∙ (ap (λ (h : BookHistory). h.log) e.makes.logged
            ∙ ap (λ (n : ℕ). e.found.log ++ record { seat = n; call = call.End; reply = reply.Ended } ∷ []) number);
        known = history.known;
        did = has.did;
      }

  pub workers_account : (n : ℕ) (ended : List Ended) → EachNumbered (HasEnded store) n ended → AllByRecursion IsInHistory ended
      → EachNumbered (WorkerAccounts found) n (map told_at_end ended)
  workers_account n [] each all = tt
  workers_account n (e ∷ ended) each all = (one_accounts n e each.0 all.0, workers_account (suc n) ended each.1 all.1)

  -- and follows its events, where its seat did up to its end
  one_follows : (w : ℕ) (ended : Ended) → HasEnded store w ended → IsInHistory ended → HasFollowedToEnd ended → FollowsEvents (rules_of first) first.workers w (told_at_end ended)
  one_follows w ended has history followed =
      let q : LogKnown = known_by ended.seat in
      subst (λ (n : ℕ). Follows (rules_of first) first.workers n (events_in ended.work.items) (verdicts_in ended.work.items) q.known) has.number
      (subst (λ (rules : NameRules). Follows rules first.workers q.number (events_in ended.work.items) (verdicts_in ended.work.items) q.known) (ap rules_of history.made_with)
      (subst (λ (n : ℕ). Follows (rules_of (record { config = q.config; workers = q.workers; log = q.known })) n q.number (events_in ended.work.items) (verdicts_in ended.work.items) q.known) (ap (λ (h : BookHistory). h.workers) history.made_with)
      (ended_known followed.before q (events_in ended.work.items) (verdicts_in ended.work.items) followed.followed followed.ends)))

  pub workers_follow : (n : ℕ) (ended : List Ended) → EachNumbered (HasEnded store) n ended → AllByRecursion IsInHistory ended
      → EachNumbered (λ w e. HasFollowedToEnd e → FollowsEvents (rules_of first) first.workers w (told_at_end e)) n ended
  workers_follow n [] each all = tt
  workers_follow n (e ∷ ended) each all = ((λ followed. one_follows n e each.0 all.0 followed), workers_follow (suc n) ended each.1 all.1)

  -- it added to counters alone, those of the log behind the sweep
  module _ (sweep : Entry) (id : ℕ) where
    one_adds : (w : ℕ) (ended : Ended) → HasEnded store w ended → IsInHistory ended
        → AddsTo (replay (rules_of first) first.workers (found ++ sweep ∷ [])) id (worker_part ended.counts)
    one_adds w ended has history =
        let q : LogKnown = known_by ended.seat in
        let more : List Entry = history.known.0 ++ sweep ∷ [] in
        let log : found ++ sweep ∷ [] ≡ q.known ++ more = ap (λ (l : List Entry). l ++ sweep ∷ []) history.known.1 ∙ append_assoc q.known history.known.0 (sweep ∷ []) in
        still_added _ _ refl (has.made id) (λ counter.
        subst (λ (h : BookHistory). IsCounterIn (replay (rules_of h) h.workers (found ++ sweep ∷ [])) id) history.made_with
        (subst (λ (l : List Entry). IsCounterIn (replay (rules_of (first_history q)) q.workers l) id) (sym log)
        (counter_stays (rules_of (first_history q)) q.workers q.known more id counter)))

    pub workers_add : (n : ℕ) (ended : List Ended) → EachNumbered (HasEnded store) n ended → AllByRecursion IsInHistory ended
        → AllByRecursion (AddsTo (replay (rules_of first) first.workers (found ++ sweep ∷ [])) id) (map (λ e. worker_part e.counts) ended)
    workers_add n [] each all = tt
    workers_add n (e ∷ ended) each all = (one_adds n e each.0 all.0, workers_add (suc n) ended each.1 all.1)
