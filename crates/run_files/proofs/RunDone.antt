-- A run that came to its end.
use Rattle.std.proofs.Common.{◌≡◌, ℕ, suc, Ok, Err, IfOk, List, [], ◌∷◌, ◌++◌, map, length, refl, sym, ap, ◌∙◌, subst}
use Rattle.std.specs.declared.result.Result.{Result}
use Rattle.stat_defs.specs.Books.{BookHistory}
use Rattle.stat_defs.specs.declared.configs.Config.{Config}
use Rattle.stat_defs.specs.declared.memory.NoMemory.{NoMemory}
use Rattle.stat_defs.specs.declared.reports.Report.{Report}
use Rattle.stat_defs.specs.declared.reports.Reported.{Reported}
use Rattle.stats_io.specs.States.{SourceState}
use Rattle.name_changes.specs.Changes.{names_in_log}
use Rattle.ledger.specs.Ledger.{HasNames, plan_of}
use Rattle.ledger.specs.Lists.{EachNumbered}
use Rattle.recorder.specs.declared.ended.Ended.{Ended}
use Rattle.recorder.specs.Tied.{HasEnded}
use Rattle.store_closing.specs.Closes.{HaveEnded, Closes}
use Rattle.worker_run.specs.declared.given.Given.{Given}
use Rattle.worker_run.specs.declared.given.Worked.{Worked}
use Rattle.run_files.specs.declared.returning.Returned.{Returned}
use Rattle.run_files.specs.declared.starting.Started.{Started}
use Rattle.run_files.specs.Reporting.{Reports}
use Rattle.run_files.specs.Returning.{AreBack}
use Rattle.run_files.specs.Run.{IsRunOfGiven}
use Rattle.run_files.specs.Starting.{IsStarted}
use Rattle.run_files.proofs.ReportMade.{run_made}
use Rattle.run_files.proofs.WorkersDone.{AreWorked, jobs_worked, each_ended, a_worker_each}

module _ {S : Type 0} (state : S → SourceState) (config : Config) (files : List (Given S)) (started : Started S)
    (done : Returned) (is : IsStarted config files started)
    (back : AreBack state started.store started.sides started.jobs.items done) where
  worked : AreWorked state started.store 1 files back.workers
  worked = subst (λ (fs : List (Given S)). AreWorked state started.store 1 fs back.workers) is.given
      (jobs_worked state started.store 1 started.jobs.items back.workers is.numbers back.each)

  ended_count : (workers : List Worked) → length (map (λ x. x.ended) workers) ≡ length workers
  ended_count [] = refl
  ended_count (x ∷ xs) = ap (λ (n : ℕ). suc n) (ended_count xs)

  -- all its workers have ended
  pub have_ended : HaveEnded started.store done.gathered.ended.items
  have_ended = record {
    each = subst (λ (ended : List Ended). EachNumbered (HasEnded started.store) 1 ended) back.gathered.ended
        (each_ended state started.store 1 files back.workers worked);
    all = sym (ap (λ (ended : List Ended). length ended) back.gathered.ended)
        ∙ (ended_count back.workers ∙ (a_worker_each state started.store 1 files back.workers worked
        ∙ sym (ap (λ (book : BookHistory). book.workers) is.book)));
  }

  reported : (given : Reported) → Reports started.store done given → IsRunOfGiven state config files given.report
  reported given made =
      let all = back.gathered in
      run_made state config started.store files back.workers done.flushings.records.items done.flushings.flusher
      done.readings.records.items done.readings.admin made.last given.report
      (ap (λ (book : BookHistory). book.config) is.book) worked
      back.flushings.flushed.shown (back.flushings.number ∙ is.rounds.0)
      back.readings.read.shown (back.readings.number ∙ is.rounds.1)
      (subst (λ (ended : List Ended).
      Closes started.store ended done.flushings.flusher done.readings.admin made.last) (sym all.ended) made.closes)
      (ap (λ (r : Reported). r.report) made.is ∙ (λ i. record {
        verdicts = sym all.verdicts i;
        flushes = done.flushings.records.items ++ made.last.last ∷ [];
        log = made.last.log;
        reads = done.readings.records.items;
        ends = sym all.ends i;
      }))

  -- its report
  pub run_done : (result : Result Reported NoMemory) → IfOk result (Reports started.store done)
      → IfOk result (λ made. IsRunOfGiven state config files made.report)
  run_done (Ok given) made = reported given made
  run_done (Err e) made = tt

  -- and the names in its log
  pub run_names_known : (result : Result Reported NoMemory) → IfOk result (Reports started.store done)
      → IfOk result (HasNames (plan_of config).rules (length files))
  run_names_known (Ok given) made =
      subst (HasNames (plan_of config).rules (length files)) (sym made.is)
      (made.closes.names
      ∙ ap (λ (book : BookHistory). names_in_log (plan_of book.config).rules book.workers made.last.log) is.book)
  run_names_known (Err e) made = tt
