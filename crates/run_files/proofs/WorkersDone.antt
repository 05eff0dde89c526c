-- What the workers of a run did with their files.
use Rattle.std.proofs.Common.{◌≡◌, ℕ, suc, None, List, [], ◌∷◌, map, length, refl, sym, ap, ◌∙◌, subst}
use Rattle.std.specs.List.{AllZip, AllByRecursion, zip}
use Rattle.stat_defs.specs.declared.events.Event.{Event}
use Rattle.stat_defs.specs.declared.history.Verdict.{Verdict}
use Rattle.stat_defs.specs.declared.reports.FileEnd.{FileEnd}
use Rattle.stat_defs.specs.declared.reports.FileEnd.TheVariants.{Whole, BadLine, LineTooLong, TooBig, TooMany, ReadFault, NotOpened}
use Rattle.stat_defs.specs.declared.reports.Report.{Report}
use Rattle.stat_defs.specs.declared.reports.WorkerEnd.{WorkerEnd}
use Rattle.stats_io.specs.States.{SourceState}
use Rattle.event_script.specs.FileEvents.{AreEventsOf}
use Rattle.file_reading.specs.SourceRead.{taken_at}
use Rattle.ledger.specs.Ledger.{AreRead, TakenAtFault}
use Rattle.ledger.specs.Lists.{EachNumbered}
use Rattle.ledger.specs.Work.{Work, events_in, verdicts_in}
use Rattle.run_ledger.specs.Told.{WorkerTold}
use Rattle.store_parts.specs.declared.store.Store.{Store}
use Rattle.recorder.specs.Ending.{told_at_end}
use Rattle.recorder.specs.Tied.{HasEnded, HasFollowedToEnd}
use Rattle.worker_run.specs.declared.given.Given.{Given}
use Rattle.worker_run.specs.declared.given.Given.TheVariants.{Opened, Missing}
use Rattle.worker_run.specs.declared.given.Job.{Job}
use Rattle.worker_run.specs.declared.given.Worked.{Worked}
use Rattle.worker_run.specs.Working.{IsFileRead, IsWorked}
use Rattle.run_files.specs.Run.{content_of}

-- the events of a worker, and its verdicts, as its recorder tells them
abbrev pub events_by : Worked → List Event
events_by worked = events_in worked.ended.work.items

abbrev pub verdicts_by : Worked → List Verdict
verdicts_by worked = verdicts_in worked.ended.work.items

told_count : (work : Work) → length (verdicts_in work) ≡ length (events_in work)
told_count [] = refl
told_count (told ∷ work) = ap suc (told_count work)

-- bytes are counted at a read fault alone
counted_end : (end : FileEnd) (taken bytes : ℕ) → taken ≡ taken_at end bytes → TakenAtFault end taken
counted_end Whole taken bytes is = is
counted_end (BadLine n) taken bytes is = is
counted_end (LineTooLong n) taken bytes is = is
counted_end TooBig taken bytes is = is
counted_end TooMany taken bytes is = is
counted_end ReadFault taken bytes is = tt
counted_end NotOpened taken bytes is = is

module _ {S : Type 0} (state : S → SourceState) where
  -- what was read of a file is a run of its content
  file_run : (file : Given S) (events : List Event) (end : WorkerEnd) → IsFileRead state file events end
      → AreEventsOf (content_of state file) end.end end.taken events
  file_run (Opened source) events end read = read.is_run
  file_run Missing events end read =
      subst (λ (e : WorkerEnd). AreEventsOf None e.end e.taken events) (sym read.1) read.0

  file_counted : (file : Given S) (events : List Event) (end : WorkerEnd) → IsFileRead state file events end
      → TakenAtFault end.end end.taken
  file_counted (Opened source) events end read = counted_end end.end end.taken (length read.given) read.taken
  file_counted Missing events end read = subst (λ (e : WorkerEnd). TakenAtFault e.end e.taken) (sym read.1) refl

  module _ (store : Store) where
    -- each file has a worker, the first of which has this number
    abbrev pub AreWorked : ℕ → List (Given S) → List Worked → Type 0
    AreWorked w [] [] = Unit {0}
    AreWorked w [] (x ∷ xs) = ⊥
    AreWorked w (file ∷ files) [] = ⊥
    AreWorked w (file ∷ files) (x ∷ xs) = IsWorked state store w file x × AreWorked (suc w) files xs

    -- the workers of jobs that came to an end
    pub jobs_worked : (w : ℕ) (jobs : List (Job S)) (workers : List Worked)
        → EachNumbered (λ number job. job.number ≡ number) w jobs
        → AllZip (λ job done. IsWorked state store job.number job.given done) jobs workers
        → AreWorked w (map (λ job. job.given) jobs) workers
    jobs_worked w [] [] numbers done = tt
    jobs_worked w [] (x ∷ xs) numbers done = absurd done
    jobs_worked w (job ∷ jobs) [] numbers done = absurd done
    jobs_worked w (job ∷ jobs) (x ∷ xs) numbers done = (
      subst (λ (n : ℕ). IsWorked state store n job.given x) numbers.0 done.0,
      jobs_worked (suc w) jobs xs numbers.1 done.1,
    )

    read_by : (w : ℕ) (file : Given S) (x : Worked) → IsWorked state store w file x
        → IsFileRead state file (events_by x) x.end
    read_by w file x is = subst (λ (events : List Event). IsFileRead state file events x.end) (sym is.applied) is.read

    pub each_ended : (w : ℕ) (files : List (Given S)) (workers : List Worked) → AreWorked w files workers
        → EachNumbered (HasEnded store) w (map (λ x. x.ended) workers)
    each_ended w [] [] are = tt
    each_ended w [] (x ∷ xs) are = absurd are
    each_ended w (file ∷ files) [] are = absurd are
    each_ended w (file ∷ files) (x ∷ xs) are = (are.0.ended, each_ended (suc w) files xs are.1)

    -- what each tells that follows its events where its seat has done so
    pub follow_all : (w : ℕ) (files : List (Given S)) (workers : List Worked) (Follow : ℕ → WorkerTold → Type 0)
        → AreWorked w files workers
        → EachNumbered (λ n e. HasFollowedToEnd e → Follow n (told_at_end e)) w (map (λ x. x.ended) workers)
        → EachNumbered Follow w (map told_at_end (map (λ x. x.ended) workers))
    follow_all w [] [] Follow are each = tt
    follow_all w [] (x ∷ xs) Follow are each = absurd are
    follow_all w (file ∷ files) [] Follow are each = absurd are
    follow_all w (file ∷ files) (x ∷ xs) Follow are each =
        (each.0 are.0.followed, follow_all (suc w) files xs Follow are.1 each.1)

    pub a_worker_each : (w : ℕ) (files : List (Given S)) (workers : List Worked) → AreWorked w files workers
        → length workers ≡ length files
    a_worker_each w [] [] are = refl
    a_worker_each w [] (x ∷ xs) are = absurd are
    a_worker_each w (file ∷ files) [] are = absurd are
    a_worker_each w (file ∷ files) (x ∷ xs) are = ap suc (a_worker_each (suc w) files xs are.1)

    pub files_read : (w : ℕ) (files : List (Given S)) (workers : List Worked) → AreWorked w files workers
        → AllZip (λ file told. IsFileRead state file told.1 told.0) files
        (zip (map (λ x. x.end) workers) (map events_by workers))
    files_read w [] [] are = tt
    files_read w [] (x ∷ xs) are = absurd are
    files_read w (file ∷ files) [] are = absurd are
    files_read w (file ∷ files) (x ∷ xs) are = (read_by w file x are.0, files_read (suc w) files xs are.1)

    files_run : (w : ℕ) (files : List (Given S)) (workers : List Worked) → AreWorked w files workers
        → AllZip (λ content told. AreEventsOf content told.0.end told.0.taken told.1) (map (content_of state) files)
        (zip (map (λ x. x.end) workers) (map events_by workers))
    files_run w [] [] are = tt
    files_run w [] (x ∷ xs) are = absurd are
    files_run w (file ∷ files) [] are = absurd are
    files_run w (file ∷ files) (x ∷ xs) are =
        (file_run file (events_by x) x.end (read_by w file x are.0), files_run (suc w) files xs are.1)

    files_counted : (w : ℕ) (files : List (Given S)) (workers : List Worked) → AreWorked w files workers
        → AllByRecursion (λ end. TakenAtFault end.end end.taken) (map (λ x. x.end) workers)
    files_counted w [] [] are = tt
    files_counted w [] (x ∷ xs) are = absurd are
    files_counted w (file ∷ files) [] are = absurd are
    files_counted w (file ∷ files) (x ∷ xs) are =
        (file_counted file (events_by x) x.end (read_by w file x are.0), files_counted (suc w) files xs are.1)

    -- the verdicts that the workers told are those of their recorders
    pub verdicts_told : (w : ℕ) (files : List (Given S)) (workers : List Worked) → AreWorked w files workers
        → map (λ x. x.verdicts.items) workers ≡ map verdicts_by workers
    verdicts_told w [] [] are = refl
    verdicts_told w [] (x ∷ xs) are = absurd are
    verdicts_told w (file ∷ files) [] are = absurd are
    verdicts_told w (file ∷ files) (x ∷ xs) are =
        λ i. (sym are.0.decided i ∷ verdicts_told (suc w) files xs are.1 i)

    verdict_counts : (workers : List Worked)
        → map length (map verdicts_by workers) ≡ map length (map events_by workers)
    verdict_counts [] = refl
    verdict_counts (x ∷ xs) = λ i. (told_count x.ended.work.items i ∷ verdict_counts xs i)

    mapped_count : {X Y : Type 0} (f : X → Y) (xs : List X) → length (map f xs) ≡ length xs
    mapped_count f [] = refl
    mapped_count f (x ∷ xs) = ap suc (mapped_count f xs)

    -- the files were read as a report with these ends and verdicts tells
    pub are_read : (w : ℕ) (files : List (Given S)) (workers : List Worked) (report : Report)
        → AreWorked w files workers → report.verdicts ≡ map verdicts_by workers
        → report.ends ≡ map (λ x. x.end) workers
        → AreRead (map (content_of state) files) (map events_by workers) report
    are_read w files workers report are verdicts ends =
        let each = a_worker_each w files workers are in record {
          an_end_each = ap length ends ∙ (mapped_count (λ (x : Worked). x.end) workers
              ∙ (each ∙ sym (mapped_count (content_of state) files)));
          verdicts_each = ap length verdicts ∙ (mapped_count verdicts_by workers
              ∙ (each ∙ sym (mapped_count (content_of state) files)));
          a_verdict_each = ap (map length) verdicts ∙ verdict_counts workers;
          read = subst (λ (es : List WorkerEnd).
              AllZip (λ content told. AreEventsOf content told.0.end told.0.taken told.1) (map (content_of state) files)
              (zip es (map events_by workers))) (sym ends) (files_run w files workers are);
          counted = subst (AllByRecursion (λ (end : WorkerEnd). TakenAtFault end.end end.taken)) (sym ends)
              (files_counted w files workers are);
        }
