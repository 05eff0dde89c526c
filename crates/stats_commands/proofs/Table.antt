-- A call keeps the table of statuses.
use Rattle.std.proofs.Common.{◌≡◌, ◌≢◌, ◌⊎◌, ℕ, true, false, Option, Some, None, List, [], ◌∷◌, codes, refl, ap, ◌∙◌, subst, inl, inr, arith}
use Rattle.std.specs.Option.{option_and_then}
use Rattle.stat_defs.specs.declared.configs.Config.{Config}
use Rattle.stat_defs.specs.declared.reports.FileEnd.{FileEnd}
use Rattle.stat_defs.specs.declared.reports.FileEnd.TheVariants.{Whole, BadLine, LineTooLong, TooBig, TooMany}
use Rattle.stat_defs.specs.declared.reports.FileEnd.TheVariants.{ReadFault, NotOpened}
use Rattle.stat_defs.specs.declared.reports.Report.{Report}
use Rattle.boot_load.specs.declared.fault.LoadFault.{LoadFault}
use Rattle.boot_load.specs.declared.fault.LoadFault.TheVariants as unloaded
use Rattle.output_options.specs.declared.OutputOptions.{OutputOptions}
use Rattle.replay_files.specs.ReplayReport.{IsReplayOf}
use Rattle.command_words.specs.Command.{Command, Run, Replay, Check, Bins, Load, command}
use Rattle.load_report.specs.LoadReport.{IsLoadOf}
use Rattle.stats_commands.specs.Quiet.{without_threads, quiet_command}
use Rattle.stats_commands.specs.BinLines.{bin_lines}
use Rattle.stats_commands.specs.World.{World, Sight}
use Rattle.stats_commands.specs.FaultLines.{out_of_memory, said_of}
use Rattle.stats_commands.specs.Outcome.{IsSaid, IsWritten, IsPrinted, IsUnstarted, Prints, IsRefused, IsUnread, Refuses, IsBootFault, Checks, IsCutShort, IsGivenUp, Reports, IsBinned, IsSummarized, Summarizes, IsCall}
use Rattle.stats_commands.specs.Outcome.{ends_of, status_of_all, status_of_boot}
use Rattle.stats_commands.specs.Statuses.{WritesText, BreaksOff, WritesLittle, IsUnloaded, IsOfFiles, KeepsTable, CallsKeepTable}
use Rattle.stats_commands.specs.declared.outcome.Outcome.{Outcome}
use Rattle.stats_commands.specs.declared.status.TheConstants.{DONE, NO_COMMAND, BAD_BOOT, BAD_FILE, UNREADABLE, UNWRITTEN, NO_MEMORY}

all_is : (ends : List FileEnd) → (status_of_all ends ≡ DONE) ⊎ ((status_of_all ends ≡ BAD_FILE) ⊎ (status_of_all ends ≡ UNREADABLE))
all_is [] = inl refl
all_is (Whole ∷ ends) = all_is ends
all_is (BadLine n ∷ ends) = inr (inl refl)
all_is (LineTooLong n ∷ ends) = inr (inl refl)
all_is (TooBig ∷ ends) = inr (inl refl)
all_is (TooMany ∷ ends) = inr (inl refl)
all_is (ReadFault ∷ ends) = inr (inr refl)
all_is (NotOpened ∷ ends) = inr (inr refl)

boot_is : (fault : LoadFault) → fault ≢ unloaded.NoMemory → (status_of_boot fault ≡ BAD_BOOT) ⊎ (status_of_boot fault ≡ UNREADABLE)
boot_is unloaded.TooBig some = inl refl
boot_is (unloaded.Faulty fault) some = inl refl
boot_is (unloaded.BadPattern path) some = inl refl
boot_is unloaded.OpenFailed some = inr refl
boot_is (unloaded.ReadFailed count) some = inr refl
boot_is unloaded.NoMemory some = absurd (some refl)

module _ {K F S O E : Type 0} (see : Sight K F S O E) (before after : World K F O E) (says : Option Command) (report : Option Report) (status : ℕ) where
  abbrev Table : Type 0
  Table = KeepsTable see before after says status report

  -- one status each
  at_done : status ≡ DONE → WritesText see before after → (report ≡ None) ⊎ IsOfFiles see before after report DONE → Table
  at_done e text files = record {
    done = λ z. (text, files);
    no_command = λ z. absurd (omega (arith, e, z));
    bad_boot = λ z. absurd (omega (arith, e, z));
    bad_file = λ z. absurd (omega (arith, e, z));
    unreadable = λ z. absurd (omega (arith, e, z));
    unwritten = λ z. absurd (omega (arith, e, z));
    no_memory = λ z. absurd (omega (arith, e, z));
    no_other = omega (arith, e);
  }

  pub at_no_command : status ≡ NO_COMMAND → says ≡ None → report ≡ None → IsRefused see before after → Table
  at_no_command e none no_report is = record {
    done = λ z. absurd (omega (arith, e, z));
    no_command = λ z. (none, no_report, is);
    bad_boot = λ z. absurd (omega (arith, e, z));
    bad_file = λ z. absurd (omega (arith, e, z));
    unreadable = λ z. absurd (omega (arith, e, z));
    unwritten = λ z. absurd (omega (arith, e, z));
    no_memory = λ z. absurd (omega (arith, e, z));
    no_other = omega (arith, e);
  }

  at_bad_boot : status ≡ BAD_BOOT → report ≡ None → IsUnloaded see before after BAD_BOOT → Table
  at_bad_boot e no_report is = record {
    done = λ z. absurd (omega (arith, e, z));
    no_command = λ z. absurd (omega (arith, e, z));
    bad_boot = λ z. (no_report, is);
    bad_file = λ z. absurd (omega (arith, e, z));
    unreadable = λ z. absurd (omega (arith, e, z));
    unwritten = λ z. absurd (omega (arith, e, z));
    no_memory = λ z. absurd (omega (arith, e, z));
    no_other = omega (arith, e);
  }

  at_bad_file : status ≡ BAD_FILE → IsOfFiles see before after report BAD_FILE → Table
  at_bad_file e is = record {
    done = λ z. absurd (omega (arith, e, z));
    no_command = λ z. absurd (omega (arith, e, z));
    bad_boot = λ z. absurd (omega (arith, e, z));
    bad_file = λ z. is;
    unreadable = λ z. absurd (omega (arith, e, z));
    unwritten = λ z. absurd (omega (arith, e, z));
    no_memory = λ z. absurd (omega (arith, e, z));
    no_other = omega (arith, e);
  }

  at_unreadable : status ≡ UNREADABLE → ((report ≡ None) × IsUnloaded see before after UNREADABLE) ⊎ IsOfFiles see before after report UNREADABLE → Table
  at_unreadable e is = record {
    done = λ z. absurd (omega (arith, e, z));
    no_command = λ z. absurd (omega (arith, e, z));
    bad_boot = λ z. absurd (omega (arith, e, z));
    bad_file = λ z. absurd (omega (arith, e, z));
    unreadable = λ z. is;
    unwritten = λ z. absurd (omega (arith, e, z));
    no_memory = λ z. absurd (omega (arith, e, z));
    no_other = omega (arith, e);
  }

  at_unwritten : status ≡ UNWRITTEN → BreaksOff see before after → Table
  at_unwritten e is = record {
    done = λ z. absurd (omega (arith, e, z));
    no_command = λ z. absurd (omega (arith, e, z));
    bad_boot = λ z. absurd (omega (arith, e, z));
    bad_file = λ z. absurd (omega (arith, e, z));
    unreadable = λ z. absurd (omega (arith, e, z));
    unwritten = λ z. is;
    no_memory = λ z. absurd (omega (arith, e, z));
    no_other = omega (arith, e);
  }

  at_no_memory : status ≡ NO_MEMORY → report ≡ None → WritesLittle see before after → IsSaid (see.err before.err) (see.err after.err) out_of_memory → Table
  at_no_memory e no_report little said = record {
    done = λ z. absurd (omega (arith, e, z));
    no_command = λ z. absurd (omega (arith, e, z));
    bad_boot = λ z. absurd (omega (arith, e, z));
    bad_file = λ z. absurd (omega (arith, e, z));
    unreadable = λ z. absurd (omega (arith, e, z));
    unwritten = λ z. absurd (omega (arith, e, z));
    no_memory = λ z. (no_report, little, said);
    no_other = omega (arith, e);
  }

  -- what a call may come to
  pub of_unstarted : report ≡ None → IsUnstarted before.out after.out (see.err before.err) (see.err after.err) status → Table
  of_unstarted no_report is = at_no_memory is.status_is no_report (inl is.unwritten) is.said

  pub of_boot : (boot : List ℕ) (boot_faults : ℕ) → report ≡ None → IsBootFault see before after boot status boot_faults → Table
  of_boot boot boot_faults no_report is = by (boot_is is.fault is.no_want)
    where
      unloaded_as : (k : ℕ) → status_of_boot is.fault ≡ k → IsUnloaded see before after k
      unloaded_as k e = record { fault = is.fault; no_want = is.no_want; status_is = e; unwritten = is.unwritten; said = is.said }

      by : (status_of_boot is.fault ≡ BAD_BOOT) ⊎ (status_of_boot is.fault ≡ UNREADABLE) → Table
      by (inl e) = at_bad_boot (is.status_is ∙ e) no_report (unloaded_as BAD_BOOT e)
      by (inr e) = at_unreadable (is.status_is ∙ e) (inl (no_report, unloaded_as UNREADABLE e))

  pub of_printed : (text : List ℕ) → report ≡ None
      → IsPrinted (see.out before.out) (see.out after.out) (see.err before.err) (see.err after.err) text status → Table
  of_printed text no_report is = by is.written
    where
      by : IsWritten (see.out before.out) (see.out after.out) text DONE status → Table
      by (inl whole) = at_done whole.0 (text, whole.1) (inl no_report)
      by (inr cut) = at_unwritten cut.0 (text, cut.1)

  pub of_checks : (boot : List ℕ) (boot_faults : ℕ) → report ≡ None → Checks see before after boot status boot_faults → Table
  of_checks boot boot_faults no_report (inl is) = of_printed _ no_report is.1.printed
  of_checks boot boot_faults no_report (inr (inl is)) = of_boot boot boot_faults no_report is
  of_checks boot boot_faults no_report (inr (inr is)) = of_unstarted no_report is.1

  pub of_binned : (values : List ℕ) → report ≡ None → IsBinned see before after values status → Table
  of_binned values no_report is = by is.printed
    where
      by : Prints see.out before.out after.out (see.err before.err) (see.err after.err) (bin_lines values) status → Table
      by (inl printed) = of_printed _ no_report printed
      by (inr up) = of_unstarted no_report up

  -- nothing was read
  of_unread : report ≡ None → IsUnread see before after status → Table
  of_unread no_report is = at_no_memory is.status_is no_report (inl is.out) is.said

  pub of_words : says ≡ None → report ≡ None → Refuses see before after status → Table
  of_words none no_report (inl is) = at_no_command is.0 none no_report is.1
  of_words none no_report (inr is) = of_unread no_report is

  -- a report's text was written, or a front of it
  of_written : (told : Report) (text : List ℕ) → report ≡ Some told
      → IsWritten (see.out before.out) (see.out after.out) text (status_of_all (ends_of told)) status
      → IsSaid (see.err before.err) (see.err after.err) (said_of (ends_of told) status) → Table
  of_written told text came (inr cut) said = at_unwritten cut.0 (text, cut.1)
  of_written told text came (inl whole) said = by (all_is (ends_of told))
    where
      files_as : (k : ℕ) → status_of_all (ends_of told) ≡ k → IsOfFiles see before after report k
      files_as k e = (
        told,
        came,
        record {
          status_is = e;
          text = (text, whole.1);
          said = subst (λ (n : ℕ). IsSaid (see.err before.err) (see.err after.err) (said_of (ends_of told) n)) (whole.0 ∙ e) said;
        },
      )

      by : (status_of_all (ends_of told) ≡ DONE) ⊎ ((status_of_all (ends_of told) ≡ BAD_FILE) ⊎ (status_of_all (ends_of told) ≡ UNREADABLE)) → Table
      by (inl e) = at_done (whole.0 ∙ e) (text, whole.1) (inr (files_as DONE e))
      by (inr (inl e)) = at_bad_file (whole.0 ∙ e) (files_as BAD_FILE e)
      by (inr (inr e)) = at_unreadable (whole.0 ∙ e) (inr (files_as UNREADABLE e))

-- a run or a replay
module _ {K F S O E : Type 0} (see : Sight K F S O E) (before after : World K F O E) (says : Option Command)
    (Comes : Config → List (List ℕ) → F → F → Report → Type 0) (options : OutputOptions) (boot : List ℕ) (names : List (List ℕ)) where
  given_up : (status : ℕ) → IsGivenUp see before after Comes options boot names status → KeepsTable see before after says status None
  given_up status is = at_no_memory see before after says None status is.status_is refl (by is.written) is.said
    where
      by : (after.out ≡ before.out) ⊎ IsCutShort see before after Comes options boot names → WritesLittle see before after
      by (inl none) = inl none
      by (inr cut) = inr (_, cut.front)

  pub of_reports : (status : ℕ) (report : Option Report) (boot_faults : ℕ)
      → Reports see before after Comes options boot names status report boot_faults
      → KeepsTable see before after says status report
  of_reports status None boot_faults (inl fault) = of_boot see before after says None status boot boot_faults refl fault
  of_reports status None boot_faults (inr up) = given_up status up.1
  of_reports status (Some report) boot_faults is =
      of_written see before after says (Some report) status report _ refl is.1.written is.1.said

-- a load, alone or side by side
pub of_summary : {K F S O E : Type 0} (see : Sight K F S O E) (before after : World K F O E) (outcome : Outcome) (says : Option Command)
    (Comes : Config → ℕ → ℕ → Report → Type 0) (scripts n : ℕ) → Summarizes see before after Comes scripts n outcome
    → KeepsTable see before after says outcome.status outcome.report
of_summary see before after outcome says Comes scripts n is = by is.comes
  where
    by : ((outcome.boot_faults ≡ 0) × IsSummarized see before after Comes scripts n outcome.status)
        ⊎ (IsBootFault see before after (codes "-") outcome.status outcome.boot_faults ⊎ ((outcome.boot_faults ≡ 0)
        × IsUnstarted before.out after.out (see.err before.err) (see.err after.err) outcome.status))
        → KeepsTable see before after says outcome.status outcome.report
    by (inl done) = of_printed see before after says outcome.report outcome.status done.1.text is.report done.1.printed
    by (inr (inl fault)) = of_boot see before after says outcome.report outcome.status (codes "-") outcome.boot_faults is.report fault
    by (inr (inr up)) = of_unstarted see before after says outcome.report outcome.status is.report up.1

-- a command that starts no thread
module _ {K F S O E : Type 0} (see : Sight K F S O E) (before after : World K F O E) (outcome : Outcome) where
  pub of_quiet : (said : Command) (says : Option Command) → IsCall see before after says outcome → says ≡ Some said
      → without_threads said ≡ Some said → KeepsTable see before after says outcome.status outcome.report
  of_quiet (Run options boot names) says is e quiet = absurd cc
  of_quiet (Replay options boot names) says is e quiet =
      of_reports see before after says (IsReplayOf see.shelf see.source (see.holds before.shelf)) options boot names outcome.status
      outcome.report outcome.boot_faults (is.replayed options boot names e)
  of_quiet (Check boot) says is e quiet =
      let checked = is.checked boot e in
      of_checks see before after says outcome.report outcome.status boot outcome.boot_faults checked.0 checked.1
  of_quiet (Bins values) says is e quiet =
      let binned = is.binned values e in
      of_binned see before after says outcome.report outcome.status values binned.0 binned.2
  of_quiet (Load false scripts n) says is e quiet =
      of_summary see before after outcome says IsLoadOf scripts n (is.loaded scripts n e)
  of_quiet (Load true scripts n) says is e quiet = absurd cc

  pub of_refused : (says : Option Command) → IsCall see before after says outcome → says ≡ None
      → KeepsTable see before after says outcome.status outcome.report
  of_refused says is none =
      let refused = is.refused none in
      of_words see before after says outcome.report outcome.status none refused.0 refused.2

pub calls_keep : {K F S O E : Type 0} (see : Sight K F S O E) → CallsKeepTable see
calls_keep see before after words outcome is = by (command words) refl
  where
    by : (said : Option Command) → command words ≡ said → KeepsTable see before after (quiet_command words) outcome.status outcome.report
    by None e = of_refused see before after outcome (quiet_command words) is (ap (λ said. option_and_then without_threads said) e)
    by (Some (Run options boot names)) e =
        of_refused see before after outcome (quiet_command words) is (ap (λ said. option_and_then without_threads said) e)
    by (Some (Replay options boot names)) e =
        of_quiet see before after outcome (Replay options boot names) (quiet_command words) is (ap (λ said. option_and_then without_threads said) e) refl
    by (Some (Check boot)) e =
        of_quiet see before after outcome (Check boot) (quiet_command words) is (ap (λ said. option_and_then without_threads said) e) refl
    by (Some (Bins values)) e =
        of_quiet see before after outcome (Bins values) (quiet_command words) is (ap (λ said. option_and_then without_threads said) e) refl
    by (Some (Load true scripts n)) e =
        of_refused see before after outcome (quiet_command words) is (ap (λ said. option_and_then without_threads said) e)
    by (Some (Load false scripts n)) e =
        of_quiet see before after outcome (Load false scripts n) (quiet_command words) is (ap (λ said. option_and_then without_threads said) e) refl
