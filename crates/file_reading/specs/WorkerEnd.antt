-- Why a file ended as it did. This project's own.
use Rattle.std.specs.Prelude.{◌≡◌, ℕ, Option, List, length}
use Rattle.std.specs.Io.KnownBytes.{Consumes}
use Rattle.stat_defs.specs.Faults.{Rose}
use Rattle.stat_defs.specs.declared.reports.FileEnd.{FileEnd}
use Rattle.stat_defs.specs.declared.reports.FileEnd.TheVariants.{Whole, BadLine, LineTooLong, TooBig, TooMany}
use Rattle.stat_defs.specs.declared.reports.FileEnd.TheVariants.{ReadFault, NotOpened}
use Rattle.stat_defs.specs.declared.reports.WorkerEnd.{WorkerEnd}
use Rattle.stats_io.specs.States.{SourceState, ShelfState}
use Rattle.stats_io.specs.Open.{IsUnopened}

module _ {S : Type 0} (source : S → SourceState) (content : Option (List ℕ)) (name : List ℕ)
    (before after : ShelfState) where
  -- The file was opened, which leaves the shelf's count. The end's two counts are those of its source: 0 as it was
  -- opened, and that of a later state, which has given these bytes of the file.
  pub record IsOpened (given : List ℕ) (end : WorkerEnd) : Type 0 where
    pub later : S
    pub origin : (source later).origin ≡ name
    pub consumed : Consumes content (source later).left given
    pub count_before : end.faults_before ≡ 0
    pub count_after : end.faults_after ≡ (source later).faults
    pub shelf : after ≡ before

  -- the source's count rose, and so many bytes were taken from it
  pub record IsReadFault (end : WorkerEnd) : Type 0 where
    pub given : List ℕ
    pub opened : IsOpened given end
    pub rose : Rose end.faults_before end.faults_after
    pub taken : end.taken ≡ length given

  -- the file was read up to this end
  pub record IsRead (end : WorkerEnd) : Type 0 where
    pub given : List ℕ
    pub opened : IsOpened given end
    pub taken : end.taken ≡ 0

  -- the opening of this name failed last, and the shelf's count rose
  pub record IsFailedOpening (end : WorkerEnd) : Type 0 where
    pub count_before : end.faults_before ≡ before.faults
    pub count_after : end.faults_after ≡ after.faults
    pub unopened : IsUnopened name before after
    pub taken : end.taken ≡ 0

  -- the cause of a file's end
  abbrev pub HasCause : WorkerEnd → FileEnd → Type 0
  HasCause end Whole = IsRead end
  HasCause end (BadLine n) = IsRead end
  HasCause end (LineTooLong n) = IsRead end
  HasCause end TooBig = IsRead end
  HasCause end TooMany = IsRead end
  HasCause end ReadFault = IsReadFault end
  HasCause end NotOpened = IsFailedOpening end
