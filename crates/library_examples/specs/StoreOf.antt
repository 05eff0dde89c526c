-- A store of a configuration between its calls, and the report of its flushes. This project's own.
use Rattle.std.specs.Prelude.{◌≡◌, ◌≤◌, ◌<◌, ◌+◌, true, List, [], ◌∷◌, ◌++◌, length, map, All}
use Rattle.std.specs.List.{zip}
use Rattle.std.specs.List.Sorted.{IsNonDecreasing}
use Rattle.stat_defs.specs.Configs.{IsConfig}
use Rattle.stat_defs.specs.declared.configs.Config.{Config}
use Rattle.stat_defs.specs.declared.events.Event.{Event}
use Rattle.stat_defs.specs.declared.history.Verdict.{Verdict}
use Rattle.stat_defs.specs.declared.reports.FlushRecord.{FlushRecord}
use Rattle.stat_defs.specs.declared.reports.Report.{Report}
use Rattle.event_script.specs.Grammar.{IsLawful}
use Rattle.plain_store.specs.declared.worker.TheConstants.{MAX_EVENTS}
use Rattle.flush_view.specs.Showing.{IsShowable}
use Rattle.plain_store.specs.Store.{StoreHistory, new_store, Applied, Flushes, IsReportOfStore}
use Rattle.replay_files.specs.Applying.{AreApplied}

-- A store of this configuration, none of whose calls was cut short by want of memory: each event that was decided was
-- counted. Its events are lawful, and its flushes stand in the order of their sweeps.
pub record IsStoreOf (config : Config) (store : StoreHistory) : Type 0 where
  pub configured : store.worker.book.config ≡ config
  pub one_worker : store.worker.book.workers ≡ 1
  pub decided_whole : store.worker.whole ≡ true
  pub counted : store.counted ≡ zip store.worker.events store.worker.verdicts
  pub flushed_whole : store.whole ≡ true
  pub lawful : All IsLawful store.worker.events
  pub few : length store.worker.events ≤ MAX_EVENTS
  pub a_verdict_each : length store.worker.verdicts ≡ length store.worker.events
  pub rising : IsNonDecreasing (map (λ flush. flush.at) store.flushes)
  pub logged : All (λ flush. flush.at < length store.worker.book.log) store.flushes

-- A new store is one of its configuration, and its calls keep that. When it is finished, the report of its flushes can
-- be shown.
pub record StoresShow : Type 0 where
  pub made : (config : Config) → IsStoreOf config (new_store config)
  pub event : (config : Config) (old new : StoreHistory) (e : Event) (v : Verdict)
      → IsStoreOf config old → IsLawful e → length old.worker.events < MAX_EVENTS → Applied old e v new
      → IsStoreOf config new
  pub events : (config : Config) (old new : StoreHistory) (es : List Event) (vs : List Verdict)
      → IsStoreOf config old → All IsLawful es → length old.worker.events + length es ≤ MAX_EVENTS
      → AreApplied old es vs new → IsStoreOf config new
  pub flush : (config : Config) (old new : StoreHistory) (flush : FlushRecord)
      → IsStoreOf config old → Flushes old flush new → IsStoreOf config new
  pub shows : (config : Config) (store : StoreHistory) (report : Report)
      → IsConfig config → IsStoreOf config store → IsReportOfStore store report → IsShowable config report
