-- What a store tells of itself can be shown.
use Rattle.std.proofs.Common.{◌≤◌, ◌<◌, ◌^◌, ℕ, [], subst, arith}
use Rattle.std.proofs.lemmas.List.Elements.{recursion_from_All}
use Rattle.std.proofs.lemmas.List.Sums.{sum_by-cons}
use Rattle.stat_defs.specs.declared.history.Entry.{Entry}
use Rattle.loglinear_bins.specs.declared.place.TheConstants.{MAX_COUNT}
use Rattle.book_state.specs.Log.{Legal}
use Rattle.book_state.specs.Stored.{IsLawfulCall}
use Rattle.stat_book.specs.Calls.{rules_of}
use Rattle.ledger.specs.Flushes.{flushed}
use Rattle.ledger.specs.Work.{units_by}
use Rattle.flush_view.specs.Showing.{values_taken}
use Rattle.live_view.specs.Live.{CanBeShown}
use Rattle.plain_store.specs.Store.{StoreHistory}
use Rattle.store_pages.specs.Telling.{TellsItself, StoresCanBeShown}
use Rattle.store_pages.proofs.Bounded.{AreLawful, units_few, values_few, values_within, lawful_within}

module _ (store : StoreHistory) (tells : TellsItself store) where
  lawful : AreLawful store.counted
  lawful = recursion_from_All _ store.counted tells.lawful

  units : (id : ℕ) → flushed id store.flushes < 2 ^ 63
  units id =
      let shown = tells.accounts.units id in
      let one = sum_by-cons (units_by id) store.counted [] in
      let each = units_few id store.counted lawful in
      let few = tells.few in
      omega (arith, shown, one, each, few)

  values : (id : ℕ) → values_taken id store.flushes ≤ MAX_COUNT
  values id =
      let within = values_within (rules_of store.worker.book) store.worker.book.log store.counted store.flushes id 0
      store.flushes tells.accounts.fit in
      let taken = tells.accounts.values in
      let each = values_few store.counted in
      let few = tells.few in
      omega (arith, within, taken, each, few)

  pub can_be_shown : CanBeShown store.worker.book.config 1 store.worker.book.log store.flushes
  can_be_shown = record {
    legal = subst (λ (n : ℕ). Legal (rules_of store.worker.book) store.worker.book.config.scopes n store.worker.book.log)
        tells.one_worker tells.legal;
    workers_few = omega arith;
    calls = recursion_from_All (λ (entry : Entry). IsLawfulCall entry.call) store.worker.book.log tells.calls;
    rising = tells.rising;
    units = units;
    lawful = lawful_within (rules_of store.worker.book) store.worker.book.log store.counted store.flushes lawful 0
        store.flushes tells.accounts.fit;
    values = values;
  }

pub stores_can_be_shown : StoresCanBeShown
stores_can_be_shown store tells = can_be_shown store tells
