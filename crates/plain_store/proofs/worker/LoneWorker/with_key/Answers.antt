use Rattle.std.proofs.Common.{◌≡◌, false, true, List, [], length, ap, sym, ◌∙◌, subst, arith}
use Rattle.stat_defs.specs.Books.{BookHistory}
use Rattle.stat_defs.specs.declared.events.Event.{Event}
use Rattle.stat_defs.specs.declared.history.Verdict.{Verdict}
use Rattle.stat_book.specs.Calls.{new_book, IsLegal}
use Rattle.book_access.specs.declared.owned.OwnedBook.{OwnedBook}
use Rattle.plain_store.proofs.WorkerLemmas.{FollowedIn, first_seat, first_works, first_follows, none_opened_first}
use Rattle.plain_store.proofs.worker.LoneWorker.with_key.Goals as goal

pub new-requires : goal.new-requires
new-requires c = first_seat c.in_ok-book.book c.args.config.now c.in_ok-book.ensures c.has_legal_log.ensures

pub invariant_of-result : goal.invariant_of-result
invariant_of-result c =
    let book = c.in_ok-book.book in let config = c.args.config.now in let kept = ap (λ (o : OwnedBook). o.book) c.new.ensures in
    let is : ◌≡◌ {A = BookHistory} c.new.result.book (new_book config 1) = kept ∙ c.in_ok-book.ensures in
    let events = ap (λ (l : List Event). length l) c.new-2.ensures in
    let verdicts = ap (λ (l : List Verdict). length l) c.new-3.ensures in
    record {
      one_worker = ap (λ (b : BookHistory). b.workers) is;
      number = ap (λ (o : OwnedBook). o.number) c.new.ensures;
      works = λ not_ended. first_works c.new.result.book config is (subst IsLegal (sym kept) c.has_legal_log.ensures);
      few_openings = (let few = none_opened_first c.new.result.book config is in omega (arith, few));
      a_verdict_each = verdicts ∙ sym events;
      followed = λ whole.
          subst (λ (es : List Event). FollowedIn c.new.result.book es c.new-3.result.items false) (sym c.new-2.ensures)
          (subst (λ (vs : List Verdict). FollowedIn c.new.result.book [] vs false) (sym c.new-3.ensures) (first_follows c.new.result.book config is));
    }

pub returns : goal.returns
returns c = λ i. record { book = (ap (λ (o : OwnedBook). o.book) c.new.ensures ∙ c.in_ok-book.ensures) i; events = c.new-2.ensures i; verdicts = c.new-3.ensures i; ended = false; whole = true }
