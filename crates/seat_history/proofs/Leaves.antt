-- What a seat that found a log may leave.
use Rattle.std.proofs.Common.{◌≡◌, ℕ, List, [], ◌++◌, sym, ap, ◌∙◌, append-nil, append_assoc, All}
use Rattle.std.proofs.lemmas.List.Elements.{All-nil, All-append}
use Rattle.stat_defs.specs.declared.history.Entry.{Entry}
use Rattle.stat_defs.specs.Books.{BookHistory}
use Rattle.seat_history.specs.declared.known.LogKnown.{LogKnown}
use Rattle.seat_history.specs.History.{Finds, MayLeave, found_log, left_log}
use Rattle.seat_history.proofs.Logs.{past-goes-on}

-- a book may be left as it was found
pub leaves-as-found : (k l : LogKnown) (found : BookHistory) → l ≡ found_log found.log k → Finds k found → MayLeave l found
leaves-as-found k l found e f = record {
  config = f.config ∙ ap (λ (z : LogKnown). z.config) (sym e);
  workers = f.workers ∙ ap (λ (z : LogKnown). z.workers) (sym e);
  log = ([], ap (λ (z : LogKnown). z.known) (sym e) ∙ sym (append-nil l.known), All-nil (λ x. x.seat ≡ l.number));
}

-- and with further entries of the seat's number
pub leaves-more : (k : LogKnown) (before after : BookHistory) (more : List Entry) → MayLeave k before → after.config ≡ before.config → after.workers ≡ before.workers → after.log ≡ before.log ++ more → All (λ x. x.seat ≡ k.number) more → MayLeave k after
leaves-more k before after more m c w is all = record {
  config = c ∙ m.config;
  workers = w ∙ m.workers;
  log = (m.log.0 ++ more, is ∙ (ap (λ l. l ++ more) m.log.1 ∙ append_assoc k.known m.log.0 more), All-append (λ x. x.seat ≡ k.number) m.log.0 more m.log.2 all);
}

-- the entries that its calls made, once it has left
pub made-more : (k : LogKnown) (last : BookHistory) (more : List Entry) → last.log ≡ k.known ++ more → (left_log last.log k).made ≡ k.made ++ more
made-more k last more is = ap (λ ys. k.made ++ ys) (past-goes-on k.known last.log more is)
