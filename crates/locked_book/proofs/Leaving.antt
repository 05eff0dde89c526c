-- What any one call of the book leaves of the names: the condition of `leave` holds after it.
use Rattle.std.proofs.Common.{◌≡◌, ℕ, suc, ◌+◌, ◌*◌, ◌<◌, ◌≤◌, List, [], ◌∷◌, ◌++◌, length, refl, ap, ◌∙◌, subst, arith, append-nil, append_assoc, length-append, All}
use Rattle.std.proofs.lemmas.List.Elements.{All-append, All-weaker}
use Rattle.stat_defs.specs.Books.{BookHistory}
use Rattle.stat_defs.specs.declared.history.Call.{Call}
use Rattle.stat_defs.specs.declared.history.Reply.{Reply}
use Rattle.stat_defs.specs.declared.history.Entry.{Entry}
use Rattle.stat_defs.specs.declared.history.NameOp.{NameOp}
use Rattle.stat_defs.specs.Changes.{at_of, id_of, NeverFalls}
use Rattle.book_state.specs.declared.limits.TheConstants.{MAX_METRICS}
use Rattle.name_changes.specs.Changes.{changes_by}
use Rattle.name_changes.proofs.Cutting.{changes-grow}
use Rattle.stat_book.specs.Calls.{rules_of, state_of, IsLegal, Logged}
use Rattle.stat_book.specs.NameChanges.{changes_of}
use Rattle.stat_book.proofs.Changing.{changes-with, changes-few, changes-small}
use Rattle.book_lock.specs.declared.view.LockPart.{LockPart}
use Rattle.book_lock.specs.Naming.{MayName}
use Rattle.book_lock.proofs.Standing.{all-behind, rising-append, later-by}

-- A lock with room for two changes of each metric that may be made has room for every call's changes.
pub logged_may_name : (q : LockPart) (old new : BookHistory) (by : ℕ) (c : Call) (r : Reply) → MayName q old.log (changes_of old) → Logged old by c r new → IsLegal new → 2 * MAX_METRICS ≤ q.room → length q.seat.known ≤ length old.log
    → MayName q new.log (changes_of new)
logged_may_name q old new by c r m step legal room known =
    let e : Entry = record { seat = by; call = c; reply = r } in let made : List NameOp = changes_by (state_of old) (suc (length old.log)) c r in
    let grown : new.log ≡ old.log ++ e ∷ [] = ap (λ (h : BookHistory). h.log) step.logged in
    let whole : new ≡ record old { log = old.log ++ e ∷ [] } = step.logged in
    let is : changes_of new ≡ changes_of old ++ made = ap changes_of whole ∙ changes-with old e (old.log ++ e ∷ []) refl in
    let long : length new.log ≡ length old.log + 1 = ap length grown ∙ length-append old.log (e ∷ []) in
    let alone = append-nil made in
    let late : All (λ x. length old.log < at_of x) made = subst (All (λ x. length old.log < at_of x)) alone (changes-grow.late (rules_of old) (state_of old) (length old.log) (e ∷ [])) in
    let within : All (λ x. at_of x ≤ length old.log + 1) made = subst (All (λ x. at_of x ≤ length old.log + 1)) alone (changes-grow.within (rules_of old) (state_of old) (length old.log) (e ∷ [])) in
    let rising : NeverFalls made = subst NeverFalls alone (changes-grow.rising (rules_of old) (state_of old) (length old.log) (e ∷ [])) in
    let few = changes-few new legal in
    let ids : All (λ x. id_of x < MAX_METRICS) made = all-behind (λ x. id_of x < MAX_METRICS) (changes_of old) made (subst (All (λ x. id_of x < MAX_METRICS)) is (changes-small new legal)) in record {
      more = m.more ++ made;
      goes_on = is ∙ (ap (λ (l : List NameOp). l ++ made) m.goes_on ∙ append_assoc q.names m.more made);
      few = omega arith;
      late = All-append (λ x. length q.seat.known < at_of x) m.more made m.late (All-weaker (λ x. length old.log < at_of x) (λ x. length q.seat.known < at_of x) (λ x h. omega arith) made late);
      within = All-append (λ x. at_of x ≤ length new.log) m.more made (All-weaker (λ x. at_of x ≤ length old.log) (λ x. at_of x ≤ length new.log) (λ x h. omega arith) m.more m.within)
          (All-weaker (λ x. at_of x ≤ length old.log + 1) (λ x. at_of x ≤ length new.log) (λ x h. omega arith) made within);
      rising = rising-append m.more made m.rising rising (later-by (length old.log) m.more made m.within late);
      small = All-append (λ x. 2 * id_of x < q.room) m.more made m.small (All-weaker (λ x. id_of x < MAX_METRICS) (λ x. 2 * id_of x < q.room) (λ x h. omega arith) made ids);
    }
