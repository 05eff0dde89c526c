-- A file that was opened and read, and one that could not be opened.
use Rattle.std.proofs.Common.{◌≡◌, ◌≢◌, ℕ, Option, Some, None, List, [], length, refl, sym, ◌∙◌, subst}
use Rattle.std.specs.Io.KnownBytes.{Keeps}
use Rattle.stat_defs.specs.Faults.{Rose}
use Rattle.stat_defs.specs.declared.events.Event.{Event}
use Rattle.stat_defs.specs.declared.reports.FileEnd.{FileEnd}
use Rattle.stat_defs.specs.declared.reports.FileEnd.TheVariants.{Whole, BadLine, LineTooLong, TooBig, TooMany, ReadFault, NotOpened}
use Rattle.stat_defs.specs.declared.reports.WorkerEnd.{WorkerEnd}
use Rattle.stats_io.specs.States.{SourceState, ShelfState}
use Rattle.stats_io.specs.Open.{IsUnpulled}
use Rattle.stats_io.specs.Told.{MayBe}
use Rattle.stats_io.proofs.Pieces.{kept_consumes}
use Rattle.event_script.specs.FileEvents.{AreEventsOf}
use Rattle.file_reading.specs.WorkerEnd.{IsOpened, HasCause}
use Rattle.file_reading.specs.FileRead.{IsFile}
use Rattle.file_reading.specs.SourceRead.{taken_at, IsSourceRead}

-- the bytes of what is left are those of the content
kept_may_be : (content left : Option (List ℕ)) (bytes : List ℕ) → Keeps content left → MayBe left bytes
    → MayBe content bytes
kept_may_be None left bytes same is = tt
kept_may_be (Some told) None bytes same is = absurd same
kept_may_be (Some told) (Some xs) bytes same is = sym same ∙ is

-- a run over what is left of a source is one over the content that it was opened on
run_of_content : (content left : Option (List ℕ)) (end : FileEnd) (taken : ℕ) (events : List Event)
    → Keeps content left → AreEventsOf left end taken events → AreEventsOf content end taken events
run_of_content content left Whole taken events same run = (run.0, kept_may_be content left run.0 same run.1, run.2)
run_of_content content left (BadLine n) taken events same run =
    (run.0, kept_may_be content left run.0 same run.1, run.2)
run_of_content content left (LineTooLong n) taken events same run =
    (run.0, kept_may_be content left run.0 same run.1, run.2)
run_of_content content left TooBig taken events same run = (run.0, kept_may_be content left run.0 same run.1, run.2)
run_of_content content left TooMany taken events same run = (run.0, kept_may_be content left run.0 same run.1, run.2)
run_of_content content left ReadFault taken events same run =
    (run.0, kept_may_be content left run.0 same run.1, run.2, run.3)
run_of_content content left NotOpened taken events same run = run

module _ {S : Type 0} (source : S → SourceState) where
  -- a source that was opened, with no fault before
  opened_of : (content : Option (List ℕ)) (name : List ℕ) (before after : ShelfState) (opened : S)
      (events : List Event) (end : WorkerEnd) → IsUnpulled content name (source opened) → after ≡ before
      → (read : IsSourceRead source opened events end)
      → IsOpened source content name before after read.given end
  opened_of content name before after opened events end is same read = record {
    later = read.last;
    origin = read.origin ∙ is.origin;
    consumed = kept_consumes content (source opened).left (source read.last).left read.given is.left read.consumed;
    count_before = read.count_before ∙ is.no_faults;
    count_after = read.count_after;
    shelf = same;
  }

  cause_of : (content : Option (List ℕ)) (name : List ℕ) (before after : ShelfState) (given : List ℕ)
      (worker : WorkerEnd) (end : FileEnd) → IsOpened source content name before after given worker
      → worker.taken ≡ taken_at end (length given) → (end ≡ ReadFault → Rose worker.faults_before worker.faults_after)
      → end ≢ NotOpened → HasCause source content name before after worker end
  cause_of content name before after given worker Whole opened taken rose was =
      record { given = given; opened = opened; taken = taken }
  cause_of content name before after given worker (BadLine n) opened taken rose was =
      record { given = given; opened = opened; taken = taken }
  cause_of content name before after given worker (LineTooLong n) opened taken rose was =
      record { given = given; opened = opened; taken = taken }
  cause_of content name before after given worker TooBig opened taken rose was =
      record { given = given; opened = opened; taken = taken }
  cause_of content name before after given worker TooMany opened taken rose was =
      record { given = given; opened = opened; taken = taken }
  cause_of content name before after given worker ReadFault opened taken rose was =
      record { given = given; opened = opened; rose = rose refl; taken = taken }
  cause_of content name before after given worker NotOpened opened taken rose was = absurd (was refl)

  -- a file that was opened and read
  pub file_read : {F : Type 0} (shelf : F → ShelfState) (holds : List ℕ → Option (List ℕ)) (name : List ℕ)
      (before after : F) (opened : S) (events : List Event) (end : WorkerEnd)
      → IsUnpulled (holds name) name (source opened) → shelf after ≡ shelf before
      → IsSourceRead source opened events end
      → IsFile shelf source holds name before after (record { events = events; end = end })
  file_read shelf holds name before after opened events end is same read = record {
    run = run_of_content (holds name) (source opened).left end.end end.taken events is.left read.is_run;
    cause = cause_of (holds name) name (shelf before) (shelf after) read.given end end.end
        (opened_of (holds name) name (shelf before) (shelf after) opened events end is same read)
        read.taken read.rose read.opened;
  }

  -- a file that could not be opened
  pub file_unopened : {F : Type 0} (shelf : F → ShelfState) (holds : List ℕ → Option (List ℕ)) (name : List ℕ)
      (before after : F) (end : WorkerEnd) → end.end ≡ NotOpened
      → HasCause source (holds name) name (shelf before) (shelf after) end NotOpened
      → IsFile shelf source holds name before after (record { events = []; end = end })
  file_unopened shelf holds name before after end is cause = record {
    run = subst (λ (e : FileEnd). AreEventsOf (holds name) e end.taken []) (sym is) refl;
    cause = subst (λ (e : FileEnd). HasCause source (holds name) name (shelf before) (shelf after) end e) (sym is)
        cause;
  }
