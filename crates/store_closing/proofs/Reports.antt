-- What the parties of a store tell, put together: plain facts of lists.
use Rattle.std.proofs.Common.{◌≡◌, ◌==◌, ◌+◌, ℕ, suc, Bool, true, false, List, [], ◌∷◌, ◌++◌, map, length, refl, ap, sym, subst, arith, eq-eqb, ne_eqb}
use Rattle.std.specs.List.{AllByRecursion, zip}
use Rattle.stat_defs.specs.declared.history.Entry.{Entry}
use Rattle.book_state.specs.State.{NameRules}
use Rattle.ledger.specs.Lists.{EachNumbered}
use Rattle.ledger.specs.Work.{Work, events_in, verdicts_in, apart}
use Rattle.ledger.proofs.Members.{all_as}
use Rattle.run_ledger.specs.Told.{WorkerTold, FlushTold}
use Rattle.run_ledger.specs.Accounts.{FlushAccounts}
use Rattle.run_ledger.proofs.Grows.{run_grows}

cons_both : {X : Type 0} (x y : X) (xs ys : List X) → x ≡ y → xs ≡ ys → ◌≡◌ {A = List X} (x ∷ xs) (y ∷ ys)
cons_both x y xs ys e es = λ i. e i ∷ es i

zip_own : (work : Work) → zip (events_in work) (verdicts_in work) ≡ work
zip_own [] = refl
zip_own (told ∷ work) = ap (λ (l : Work). told ∷ l) (zip_own work)

-- each worker's events and verdicts are its work
pub apart_own : (workers : List WorkerTold)
    → map (λ (w : WorkerTold). w.work) workers ≡ apart (map (λ (w : WorkerTold). events_in w.work) workers) (map (λ (w : WorkerTold). verdicts_in w.work) workers)
apart_own [] = refl
apart_own (w ∷ workers) = cons_both _ _ _ _ (sym (zip_own w.work)) (apart_own workers)

-- flushes account for a log that went on
pub flushes_on : (rules : NameRules) (workers : ℕ) (log log' more : List Entry) (flushes : List FlushTold) → log' ≡ log ++ more
    → AllByRecursion (FlushAccounts rules workers log false) flushes → AllByRecursion (FlushAccounts rules workers log' false) flushes
flushes_on rules workers log log' more flushes e all =
    subst (λ (l : List Entry). AllByRecursion (FlushAccounts rules workers l false) flushes) (sym e)
    (all_as (FlushAccounts rules workers log false) (FlushAccounts rules workers (log ++ more) false) flushes (λ flush is. run_grows.flush rules workers log more flush is) all)

-- all but the last of a list, and the last one, where the last is told by its number
pub each_and_last : {X : Type 0} (P : Bool → X → Type 0) (n : ℕ) (xs : List X) (last : X) (count : ℕ) → count ≡ n + length xs + 1
    → AllByRecursion (P false) xs → P true last → EachNumbered (λ k x. P (suc k == count) x) n (xs ++ last ∷ [])
each_and_last P n [] last count e all at_end = (subst (λ (b : Bool). P b last) (sym (eq-eqb (suc n) count (omega (arith, e)))) at_end, tt)
each_and_last P n (x ∷ xs) last count e all at_end = (
  subst (λ (b : Bool). P b x) (sym (ne_eqb (suc n) count (λ (same : suc n ≡ count). omega (arith, e, same)))) all.0,
  each_and_last P (suc n) xs last count (omega (arith, e)) all.1 at_end,
)
