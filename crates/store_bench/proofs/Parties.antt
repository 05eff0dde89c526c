-- The parties of a store stay its parties, whatever they are asked for.
use Rattle.std.proofs.Common.{◌≡◌, ℕ, ◌+◌, suc, true, List, [], ◌∷◌, All, Result, Ok, Err, IfOk, OnErr, ap, ◌∙◌, sym, subst, arith}
use Rattle.std.specs.List.{AllByRecursion}
use Rattle.std.proofs.lemmas.List.Elements.{All-from_recursion}
use Rattle.stat_defs.specs.declared.configs.Config.{Config}
use Rattle.ledger.specs.Lists.{EachNumbered}
use Rattle.store_parts.specs.declared.store.Store.{Store}
use Rattle.recorder.specs.Knowing.{RecorderKnown}
use Rattle.recorder.specs.Tied.{IsNewWorker}
use Rattle.store_opening.specs.declared.opening.Opened.{Opened}
use Rattle.store_opening.specs.Opening.{Opens}
use Rattle.store_bench.specs.Held.{IsAtHand, IsOpened}

module _ (store : Store) where
  at_hand : (n : ℕ) (rs : List RecorderKnown) → EachNumbered (IsNewWorker store) n rs → AllByRecursion (IsAtHand store 0) rs
  at_hand n [] new = tt
  at_hand n (r ∷ rs) new = (
    record { of = new.0.worker.of; cell = new.0.worker.cell; few = (let none = new.0.given in omega (arith, none)) },
    at_hand (suc n) rs new.1,
  )

pub is_opened : (config : Config) (workers : ℕ) (opened : Opened) → Opens config workers opened → IsOpened opened
is_opened config workers opened opens = record {
  recorders = All-from_recursion (IsAtHand opened.store 0) opened.recorders.items (at_hand opened.store 1 opened.recorders.items opens.recorders);
  flusher = record { of = opens.flusher.of; between = λ idle. opens.flusher.round };
  reader = opens.reader.of;
}
