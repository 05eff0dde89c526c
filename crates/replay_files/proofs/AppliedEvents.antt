-- Events that are applied one after another.
use Rattle.std.proofs.Common.{◌≡◌, ◌+◌, ◌==◌, ◌&&◌, List, [], ◌∷◌, ◌++◌, length, length-append, append-nil, append_assoc, refl, ap, sym, ◌∙◌, arith}
use Rattle.std.specs.List.{zip}
use Rattle.std.proofs.lemmas.List.Folds.{list_all-append}
use Rattle.stat_defs.specs.Books.{BookHistory}
use Rattle.stat_defs.specs.declared.events.Event.{Event}
use Rattle.stat_defs.specs.declared.history.Entry.{Entry}
use Rattle.stat_defs.specs.declared.history.Verdict.{Verdict}
use Rattle.ledger.specs.Work.{Work}
use Rattle.plain_store.specs.Worker.{WorkerHistory}
use Rattle.plain_store.specs.Store.{StoreHistory, Applied}
use Rattle.replay_files.specs.Applying.{with_applied, AreApplied}

pub none_applied : (store : StoreHistory) → AreApplied store [] [] store
none_applied store = record {
  entries = [];
  mine = refl;
  a_verdict_each = refl;
  applied = λ i. record store {
    worker = record store.worker {
      book = record store.worker.book { log = sym (append-nil store.worker.book.log) i };
      events = sym (append-nil store.worker.events) i;
      verdicts = sym (append-nil store.worker.verdicts) i;
    };
    counted = sym (append-nil store.counted) i;
  };
}

pub one_applied : (old new : StoreHistory) (e : Event) (v : Verdict) → Applied old e v new
    → AreApplied old (e ∷ []) (v ∷ []) new
one_applied old new e v applied =
    let with_worker : WorkerHistory → StoreHistory = λ w. record old { worker = w; counted = old.counted ++ (e, v) ∷ [] } in
    let events : List Event = old.worker.events ++ e ∷ [] in
    let verdicts : List Verdict = old.worker.verdicts ++ v ∷ [] in
    let with_book : BookHistory → StoreHistory =
    λ b. with_worker (record old.worker { book = b; events = events; verdicts = verdicts }) in
    record {
      entries = applied.worker.added.more;
      mine = applied.worker.added.mine;
      a_verdict_each = refl;
      applied = applied.rest ∙ ap with_worker applied.worker.decided ∙ ap with_book applied.worker.added.logged;
    }

-- the events of two lists with their verdicts
pub zip_append : (es fs : List Event) (vs ws : List Verdict) → length vs ≡ length es
    → zip (es ++ fs) (vs ++ ws) ≡ zip es vs ++ zip fs ws
zip_append [] fs [] ws each = refl
zip_append [] fs (v ∷ vs) ws each = absurd (omega (arith, each))
zip_append (e ∷ es) fs [] ws each = absurd (omega (arith, each))
zip_append (e ∷ es) fs (v ∷ vs) ws each =
    ap (λ (work : Work). (e, v) ∷ work) (zip_append es fs vs ws (omega (arith, each)))

joined : (store : StoreHistory) (es fs : List Event) (vs ws : List Verdict) (xs ys : List Entry)
    → length vs ≡ length es
    → with_applied (with_applied store es vs xs) fs ws ys ≡ with_applied store (es ++ fs) (vs ++ ws) (xs ++ ys)
joined store es fs vs ws xs ys each = λ i. record store {
  worker = record store.worker {
    book = record store.worker.book { log = append_assoc store.worker.book.log xs ys i };
    events = append_assoc store.worker.events es fs i;
    verdicts = append_assoc store.worker.verdicts vs ws i;
  };
  counted = (append_assoc store.counted (zip es vs) (zip fs ws)
      ∙ ap (λ (work : Work). store.counted ++ work) (sym (zip_append es fs vs ws each))) i;
}

-- some events, and others behind them
pub both_applied : (a b c : StoreHistory) (es fs : List Event) (vs ws : List Verdict) → AreApplied a es vs b
    → AreApplied b fs ws c → AreApplied a (es ++ fs) (vs ++ ws) c
both_applied a b c es fs vs ws first second = record {
  entries = first.entries ++ second.entries;
  mine = list_all-append (λ (entry : Entry). entry.seat == 1) first.entries second.entries
      ∙ (λ i. first.mine i && second.mine i);
  a_verdict_each =
      omega (arith, first.a_verdict_each, second.a_verdict_each, length-append es fs, length-append vs ws);
  applied = second.applied ∙ ap (λ (s : StoreHistory). with_applied s fs ws second.entries) first.applied
      ∙ joined a es fs vs ws first.entries second.entries first.a_verdict_each;
}

-- how many events there are now
pub more_events : (old new : StoreHistory) (es : List Event) (vs : List Verdict) → AreApplied old es vs new
    → length new.worker.events ≡ length old.worker.events + length es
more_events old new es vs are =
    ap (λ (s : StoreHistory). length s.worker.events) are.applied ∙ length-append old.worker.events es
