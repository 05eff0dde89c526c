-- The report of a store that was finished can be shown.
use Rattle.std.proofs.Common.{◌≡◌, ℕ, ◌≤◌, true, List, [], ◌∷◌, ◌++◌, map, length, append-nil, ap, sym, ◌∙◌, subst, arith}
use Rattle.std.specs.List.{zip, flat_map, AllByRecursion}
use Rattle.std.specs.List.Sorted.{IsNonDecreasing}
use Rattle.std.proofs.lemmas.List.Elements.{recursion_from_All}
use Rattle.std.proofs.lemmas.List.Sums.{sum_by-cons}
use Rattle.stat_defs.specs.Configs.{IsConfig, IsScopeSpec}
use Rattle.stat_defs.specs.declared.configs.Config.{Config}
use Rattle.stat_defs.specs.declared.events.Event.{Event}
use Rattle.stat_defs.specs.declared.history.Entry.{Entry}
use Rattle.stat_defs.specs.declared.history.Verdict.{Verdict}
use Rattle.stat_defs.specs.declared.ids.Kind.TheVariants.{Counter}
use Rattle.stat_defs.specs.declared.ids.MetricId.{MetricId}
use Rattle.stat_defs.specs.declared.reports.FlushRecord.{FlushRecord}
use Rattle.stat_defs.specs.declared.reports.LastFlush.{LastFlush}
use Rattle.stat_defs.specs.declared.reports.Reading.{Reading}
use Rattle.stat_defs.specs.declared.reports.Report.{Report}
use Rattle.event_script.specs.Grammar.{IsLawful}
use Rattle.book_state.specs.declared.limits.TheConstants.{MAX_WORKERS}
use Rattle.book_state.specs.Log.{replay, Legal}
use Rattle.book_state.specs.Follows.{Follows}
use Rattle.ledger.specs.Lists.{OfLast}
use Rattle.ledger.specs.Work.{Work, Recording, verdicts_in, recordings, units_of}
use Rattle.ledger.specs.Gauges.{gauge_word, GaugeFits}
use Rattle.ledger.specs.Segments.{segments, left_over}
use Rattle.ledger.specs.Flushes.{ids_made, FitAll, flushed}
use Rattle.ledger.specs.Ledger.{RunPlan, HasHistory, Account, plan_of}
use Rattle.ledger.proofs.Pieces.{segments_whole}
use Rattle.ledger.proofs.PartLists.{nothing_left}
use Rattle.ledger.proofs.Words.{one_worker}
use Rattle.ledger.proofs.WorkLists.{zip_events, zip_verdicts}
use Rattle.flush_view.specs.Showing.{IsShowable}
use Rattle.flush_view.proofs.CallsLawful.{calls_lawful}
use Rattle.flush_view.proofs.Ends.{ends_of_workers}
use Rattle.flush_view.proofs.InLog.{legal_with_ends}
use Rattle.flush_view.proofs.Recorded.{LawfulWork, AreBounded, events_in_files}
use Rattle.flush_view.proofs.Showable.{units, values, lawful}
use Rattle.plain_store.specs.Store.{StoreHistory, Accounts, IsReportOfStore}
use Rattle.library_examples.specs.StoreOf.{IsStoreOf, StoresShow}
use Rattle.library_examples.proofs.StoreKept.{place, rising_push, made, event, events, flushed as flush_kept}

told_lawful : (es : List Event) (vs : List Verdict) → AllByRecursion IsLawful es → LawfulWork (zip es vs)
told_lawful [] vs all = tt
told_lawful (e ∷ es) [] all = tt
told_lawful (e ∷ es) (v ∷ vs) all = (all.0, told_lawful es vs all.1)

told_few : (es : List Event) (vs : List Verdict) → length (zip es vs) ≤ length es
told_few [] vs = omega arith
told_few (e ∷ es) [] = omega arith
told_few (e ∷ es) (v ∷ vs) = let rest = told_few es vs in omega (arith, rest)

words_fit : (work : Work) (readings : List Reading)
    → AllByRecursion (λ reading. reading.word ≡ gauge_word reading.id.0 work) readings
    → AllByRecursion (λ reading. GaugeFits reading.id.0 reading.word (work ∷ [])) readings
words_fit work [] are = tt
words_fit work (r ∷ readings) are = (
  subst (λ (word : ℕ). GaugeFits r.id.0 word (work ∷ [])) (sym are.0) (one_worker r.id.0 work),
  words_fit work readings are.1,
)

last_push : (P : FlushRecord → Type 0) (flushes : List FlushRecord) (flush : FlushRecord) → P flush
    → OfLast P (flushes ++ flush ∷ [])
last_push P [] flush p = p
last_push P (f ∷ []) flush p = p
last_push P (f ∷ (g ∷ fs)) flush p = last_push P (g ∷ fs) flush p

module _ (store : StoreHistory) (report : Report) (is : IsStoreOf store.worker.book.config store)
    (reported : IsReportOfStore store report) where
  abbrev config : Config
  config = store.worker.book.config

  abbrev plan : RunPlan
  plan = plan_of config

  abbrev given : LastFlush
  given = reported.given

  abbrev work : Work
  work = zip store.worker.events store.worker.verdicts

  bounded : AreBounded (events_in_files MAX_WORKERS) (work ∷ [])
  bounded = record {
    lawful = (told_lawful store.worker.events store.worker.verdicts (recursion_from_All IsLawful store.worker.events is.lawful), tt);
    few = (
        let told = told_few store.worker.events store.worker.verdicts in
        let few = is.few in
        let whole = sum_by-cons (λ (w : Work). length w) work [] in omega (arith, told, few, whole));
  }

  history : HasHistory plan (work ∷ []) report
  history = record {
    legal = subst (λ (log : List Entry). Legal plan.rules plan.scopes 1 log) (sym reported.log)
        (subst (λ (n : ℕ). Legal plan.rules plan.scopes n given.log) is.one_worker reported.finished.legal);
    follows = (
      subst (λ (es : List Event). Follows plan.rules 1 1 es (verdicts_in work) report.log)
          (sym (zip_events store.worker.events store.worker.verdicts is.a_verdict_each))
          (subst (λ (vs : List Verdict). Follows plan.rules 1 1 store.worker.events vs report.log)
          (sym (zip_verdicts store.worker.events store.worker.verdicts is.a_verdict_each))
          (subst (λ (log : List Entry). Follows plan.rules 1 1 store.worker.events store.worker.verdicts log)
          (sym reported.log) (reported.finished.follows is.decided_whole))),
      tt,
    );
  }

  account : Account plan (work ∷ []) report
  account =
      let counted : store.counted ≡ work = is.counted in
      let shown : Accounts (record store { counted = work }) given.log true given.last =
      subst (λ (w : Work). Accounts (record store { counted = w }) given.log true given.last) counted
      (reported.finished.accounts is.flushed_whole) in
      record {
        flushes = subst (λ (fs : List FlushRecord). FitAll plan.rules report.log (work ∷ []) fs) (sym reported.flushes)
            (subst (λ (l : List Entry). FitAll plan.rules l (work ∷ []) (store.flushes ++ given.last ∷ []))
            (sym reported.log)
            (subst (λ (w : Work). FitAll plan.rules given.log (w ∷ []) (store.flushes ++ given.last ∷ [])) counted
            (reported.finished.all_fit is.flushed_whole)));
        units = subst (λ (fs : List FlushRecord). AllByRecursion (λ id. flushed id.0 fs ≡ units_of id.0 (work ∷ []))
            (ids_made Counter (replay plan.rules 1 report.log))) (sym reported.flushes)
            (of_all (ids_made Counter (replay plan.rules 1 report.log)) shown.units);
        values = (
          subst (λ (fs : List FlushRecord). flat_map (λ segment. segment) (segments 1 work fs) ≡ recordings work)
              (sym reported.flushes)
              (whole (nothing_left work store.flushes given.last shown.fits.parts)),
          tt,
        );
        words = subst (λ (fs : List FlushRecord). OfLast (λ last.
            AllByRecursion (λ reading. GaugeFits reading.id.0 reading.word (work ∷ [])) last.gauges) fs)
            (sym reported.flushes)
            (last_push (λ last. AllByRecursion (λ reading. GaugeFits reading.id.0 reading.word (work ∷ [])) last.gauges)
            store.flushes given.last
            (words_fit work given.last.gauges
            (recursion_from_All (λ (reading : Reading). reading.word ≡ gauge_word reading.id.0 work) given.last.gauges shown.words)));
      }
    where
      of_all : (ids : List MetricId)
          → ((id : ℕ) → flushed id (store.flushes ++ given.last ∷ []) ≡ units_of id (work ∷ []))
          → AllByRecursion (λ id. flushed id.0 (store.flushes ++ given.last ∷ []) ≡ units_of id.0 (work ∷ [])) ids
      of_all [] units = tt
      of_all (id ∷ ids) units = (units id.0, of_all ids units)

      whole : left_over 1 work (store.flushes ++ given.last ∷ []) ≡ []
          → flat_map (λ segment. segment) (segments 1 work (store.flushes ++ given.last ∷ [])) ≡ recordings work
      whole none =
          let taken : List Recording = flat_map (λ segment. segment) (segments 1 work (store.flushes ++ given.last ∷ [])) in
          sym (append-nil taken) ∙ ap (λ (l : List Recording). taken ++ l) (sym none)
          ∙ segments_whole 1 work (store.flushes ++ given.last ∷ [])

  rising : IsNonDecreasing (map place report.flushes)
  rising =
      let at = reported.finished.at in
      subst (λ (fs : List FlushRecord). IsNonDecreasing (map place fs)) (sym reported.flushes)
      (rising_push store.flushes given.last is.rising
      (λ k d within. let low = is.logged k d within in omega (arith, low, at)))

  shown : IsConfig config → IsShowable config report
  shown lawful_config = record {
    legal = legal_with_ends plan (work ∷ []) report history;
    workers = subst (λ (n : ℕ). n ≤ MAX_WORKERS) (sym (ends_of_workers plan (work ∷ []) report history)) (omega arith);
    calls = calls_lawful plan (work ∷ []) report
        (recursion_from_All IsScopeSpec config.scopes lawful_config.scopes.each) bounded.lawful history;
    rising = rising;
    units = units plan (work ∷ []) report account bounded;
    lawful = lawful plan (work ∷ []) report account bounded;
    values = values plan (work ∷ []) report account bounded;
  }

shows : (config : Config) (store : StoreHistory) (report : Report) → IsConfig config → IsStoreOf config store
    → IsReportOfStore store report → IsShowable config report
shows asked store report lawful_config is reported =
    subst (λ (c : Config). IsShowable c report) is.configured
    (shown store report (subst (λ (c : Config). IsStoreOf c store) (sym is.configured) is) reported
    (subst IsConfig (sym is.configured) lawful_config))

pub stores_show : StoresShow
stores_show = record {
  made = λ config. made config;
  event = λ config old new e v was lawful room applied. event config old new was e v lawful room applied;
  events = λ config old new es vs was lawful room applied. events config old new was es vs lawful room applied;
  flush = λ config old new flush was flushes. flush_kept config old new was flush flushes;
  shows = λ config store report lawful is reported. shows config store report lawful is reported;
}
