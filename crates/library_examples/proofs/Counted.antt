-- A new store whose calls keep it one of its configuration, and its report.
use Rattle.std.proofs.Common.{◌≡◌, ℕ, ◌+◌, ◌*◌, ◌≤◌, ◌<◌, List, [], ◌∷◌, length, length-append, ap, sym, ◌∙◌, subst, arith}
use Rattle.stat_defs.specs.Configs.{IsConfig}
use Rattle.stat_defs.specs.declared.configs.Config.{Config}
use Rattle.stat_defs.specs.declared.events.Event.{Event}
use Rattle.stat_defs.specs.declared.history.Verdict.{Verdict}
use Rattle.stat_defs.specs.declared.reports.FlushRecord.{FlushRecord}
use Rattle.stat_defs.specs.declared.reports.Report.{Report}
use Rattle.event_script.specs.declared.limits.TheConstants as file
use Rattle.plain_store.specs.declared.worker.TheConstants as worker
use Rattle.plain_store.specs.Worker.{WorkerHistory}
use Rattle.flush_view.specs.Showing.{IsShowable}
use Rattle.plain_store.specs.Store.{StoreHistory, Applied, new_store, IsReportOfStore}
use Rattle.library_examples.specs.StoreOf.{IsStoreOf}
use Rattle.library_examples.specs.Counting.{Stays}
use Rattle.library_examples.proofs.StoreShown.{stores_show}

pub one_event_more : (old new : StoreHistory) (e : Event) (v : Verdict) → Applied old e v new
    → length new.worker.events ≡ length old.worker.events + 1
one_event_more old new e v applied =
    ap (λ (w : WorkerHistory). length w.events) applied.worker.decided ∙ length-append old.worker.events (e ∷ [])

module _ (config : Config) (first : StoreHistory) (is : first ≡ new_store config) where
  pub room_for_lines : length first.worker.events + file.MAX_EVENTS ≤ worker.MAX_EVENTS
  room_for_lines =
      let none = ap (λ (s : StoreHistory). length s.worker.events) is in omega (arith, none)

  pub room_for_two : length first.worker.events + 1 < worker.MAX_EVENTS
  room_for_two =
      let none = ap (λ (s : StoreHistory). length s.worker.events) is in omega (arith, none)

  pub room_for_all : (n : ℕ) → n * file.MAX_EVENTS ≤ worker.MAX_EVENTS
      → length first.worker.events + n * file.MAX_EVENTS ≤ worker.MAX_EVENTS
  room_for_all n few = let none = ap (λ (s : StoreHistory). length s.worker.events) is in omega (arith, none, few)

  pub no_records : (records : List FlushRecord) (store : StoreHistory) → records ≡ []
      → store.flushes ≡ first.flushes → records ≡ store.flushes
  no_records records store none same = none ∙ sym (same ∙ ap (λ (s : StoreHistory). s.flushes) is)

  module _ (store : StoreHistory) (report : Report) (reported : IsReportOfStore store report) where
    pub showable_after : IsConfig config → Stays first store → IsShowable config report
    showable_after lawful stays =
        stores_show.shows config store report lawful
        (stays config (subst (λ (s : StoreHistory). IsStoreOf config s) (sym is) (stores_show.made config))) reported

    pub records_and_last : (records : List FlushRecord) (n m : ℕ) → records ≡ store.flushes
        → length records ≡ n + m → n ≡ 0 → length report.flushes ≡ m + 1
    records_and_last records n m told long none =
        let as_long = ap (λ (fs : List FlushRecord). length fs) (told) in
        let whole = ap (λ (fs : List FlushRecord). length fs) reported.flushes in
        let one_more = length-append store.flushes (reported.given.last ∷ []) in
        omega (arith, long, none, as_long, whole, one_more)
