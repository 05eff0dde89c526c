-- What is written and said of files.
use Rattle.std.proofs.Common.{◌≡◌, ◌≢◌, ◌≤◌, ◌<◌, ℕ, cond, Option, None, Some, Result, Ok, Err, List, [], ◌++◌, codes, refl, sym, ap, ◌∙◌, subst, inl, inr, arith}
use Rattle.std.proofs.lemmas.Bool.{ne_eqb}
use Rattle.std.proofs.lemmas.List.{append-nil}
use Rattle.std.proofs.KnownBytes.{Appends-trans}
use Rattle.stat_defs.specs.Faults.{Rose}
use Rattle.stat_defs.specs.declared.configs.Config.{Config}
use Rattle.stat_defs.specs.declared.reports.FileEnd.{FileEnd}
use Rattle.stat_defs.specs.declared.reports.Report.{Report}
use Rattle.stats_io.specs.States.{SinkState}
use Rattle.stats_io.specs.Push.{AppendsFront}
use Rattle.boot_load.specs.Load.{Loads}
use Rattle.boot_load.specs.declared.loading.Boot.{Boot}
use Rattle.text_parts.specs.Answer.{IsTextAnswer}
use Rattle.text_parts.specs.declared.fault.TextFault.{TextFault}
use Rattle.text_parts.specs.declared.fault.TextFault.TheVariants.{WriteFault, NoMemory}
use Rattle.report_text.specs.ReportText.{report_text}
use Rattle.output_options.specs.declared.OutputOptions.{OutputOptions}
use Rattle.stats_commands.specs.FaultLines.{fault_lines, said_of, with_write_line}
use Rattle.stats_commands.specs.World.{World, Sight}
use Rattle.stats_commands.specs.Outcome.{IsSaid, IsWritten, IsReportOver, Reports, ends_of, status_of_all}
use Rattle.stats_commands.specs.Replay.{Records, EndsAs, EndsWith}
use Rattle.stats_commands.specs.declared.status.TheConstants.{NO_COMMAND, UNWRITTEN}
use Rattle.stats_commands.specs.declared.replay.Recorded.{Recorded}
use Rattle.stats_commands.proofs.FileEnds.{status_all_small, status_all_is_no_usage}
use Rattle.stats_commands.proofs.BootRefused.{boot_is_no_usage}

-- a count that did not rise over two calls rose in neither
calm_first : (a b c : ℕ) → b ≤ c → (Rose a c → ⊥) → Rose a b → ⊥
calm_first a b c later calm rose = calm (omega arith)

calm_next : (a b c : ℕ) → a ≤ b → (Rose a c → ⊥) → Rose b c → ⊥
calm_next a b c later calm rose = calm (omega arith)

-- two texts that were said, one after the other
pub said_both : (x y z : SinkState) (one next : List ℕ) → x.faults ≤ y.faults → y.faults ≤ z.faults → IsSaid x y one → IsSaid y z next
    → IsSaid x z (one ++ next)
said_both x y z one next first second said more calm =
    Appends-trans x.written y.written z.written one next
    (said (calm_first x.faults y.faults z.faults second calm)) (more (calm_next x.faults y.faults z.faults first calm))

-- where the output was written there is no line on it
pub no_write_line : (lines : List ℕ) (status : ℕ) → status < UNWRITTEN → with_write_line lines status ≡ lines
no_write_line lines status small =
    ap (λ b. lines ++ cond b (codes "write failed\n") []) (ne_eqb status UNWRITTEN (λ e. omega (arith, small, e)))
    ∙ append-nil lines

-- what is said where the output was written
pub said_whole : (before after : SinkState) (ends : List FileEnd) (text : List ℕ) → text ≡ fault_lines 1 ends
    → IsSaid before after text → IsSaid before after (said_of ends (status_of_all ends))
said_whole before after ends text is said =
    subst (IsSaid before after) (is ∙ sym (no_write_line (fault_lines 1 ends) (status_of_all ends) (status_all_small ends))) said

-- and where a push failed
pub said_cut : (x y z : SinkState) (ends : List FileEnd) (text : List ℕ) → text ≡ fault_lines 1 ends → x.faults ≤ y.faults → y.faults ≤ z.faults
    → IsSaid x y text → IsSaid y z (codes "write failed\n") → IsSaid x z (said_of ends UNWRITTEN)
said_cut x y z ends text is first second said more =
    subst (λ (t : List ℕ). IsSaid x z (t ++ codes "write failed\n")) is (said_both x y z text (codes "write failed\n") first second said more)

-- how a replay whose text was written ends, and one whose text was cut off
pub ended_whole : (x y : SinkState) (report : Report) (done : Unit {0}) (written : Result (Unit {0}) TextFault) (text : List ℕ) (status : ℕ)
    → written ≡ Ok done → text ≡ fault_lines 1 (ends_of report) → status ≡ status_of_all (ends_of report) → IsSaid x y text
    → EndsAs x y report written status (Some report)
ended_whole x y report done written text status is lines same said =
    subst (λ (w : Result (Unit {0}) TextFault). EndsAs x y report w status (Some report)) (sym is)
    (refl, same, subst (λ (n : ℕ). IsSaid x y (said_of (ends_of report) n)) (sym same) (said_whole x y (ends_of report) text lines said))

pub ended_cut : (x y z : SinkState) (report : Report) (written : Result (Unit {0}) TextFault) (text : List ℕ)
    → written ≡ Err WriteFault → text ≡ fault_lines 1 (ends_of report) → x.faults ≤ y.faults → y.faults ≤ z.faults
    → IsSaid x y text → IsSaid y z (codes "write failed\n") → EndsAs x z report written UNWRITTEN (Some report)
ended_cut x y z report written text is lines first second said more =
    subst (λ (w : Result (Unit {0}) TextFault). EndsAs x z report w UNWRITTEN (Some report)) (sym is)
    (refl, refl, said_cut x y z (ends_of report) text lines first second said more)

-- how a text was written and how that was said come to how the replay ends
pub ends_with : {O : Type 0} (sink : O → SinkState) (out_before out_after : O) (err_before err_after : SinkState) (text : List ℕ)
    (report : Report) (written : Result (Unit {0}) TextFault) (status : ℕ) (told : Option Report)
    → IsTextAnswer (sink out_before) (sink out_after) text written → EndsAs err_before err_after report written status told
    → EndsWith sink out_before out_after err_before err_after text report status told
ends_with sink ob oa eb ea text report (Ok done) status told is how =
    subst (λ (o : Option Report). EndsWith sink ob oa eb ea text report status o) (sym how.0) (refl, inl (how.1, is), how.2)
ends_with sink ob oa eb ea text report (Err WriteFault) status told is how =
    subst (λ (o : Option Report). EndsWith sink ob oa eb ea text report status o) (sym how.0) (refl, inr (how.1, is), how.2)
ends_with sink ob oa eb ea text report (Err NoMemory) status told is how =
    subst (λ (o : Option Report). EndsWith sink ob oa eb ea text report status o) (sym how.0) (how.1, inr is.front, how.2)

module _ {K F S O E : Type 0} (see : Sight K F S O E) (before after : World K F O E) (Comes : Config → List (List ℕ) → F → F → Report → Type 0)
    (options : OutputOptions) (boot : List ℕ) (names : List (List ℕ)) where
  -- no report has the status of words that are no command
  pub report_is_no_usage : (status : ℕ) (report : Option Report) (boot_faults : ℕ)
      → Reports see before after Comes options boot names status report boot_faults → status ≢ NO_COMMAND
  report_is_no_usage status None boot_faults (inl fault) e = boot_is_no_usage fault.fault (sym fault.status_is ∙ e)
  report_is_no_usage status None boot_faults (inr up) e = absurd (omega (arith, up.1.status_is, e))
  report_is_no_usage status (Some report) boot_faults is e = by is.1.written
    where
      by : IsWritten (see.out before.out) (see.out after.out) (report_text options is.1.loaded.config report) (status_of_all (ends_of report)) status → ⊥
      by (inl whole) = status_all_is_no_usage (ends_of report) (sym whole.0 ∙ e)
      by (inr cut) = absurd (omega (arith, cut.0, e))

  module _ (between : F) (loaded : Boot)
      (load : Loads see.source (see.holds before.shelf boot) boot (see.shelf before.shelf) (see.shelf between) (see.maker before.maker) (see.maker after.maker) (Ok loaded))
      (recorded : Recorded) (is : Records Comes loaded.config names between after.shelf recorded) where
    report_over : IsReportOver see before after Comes options boot names loaded recorded.report
    report_over = record { between = between; boot_loaded = load; comes = is.comes }

    -- the text is that of the configuration that was loaded
    text_of_loaded : report_text options recorded.config recorded.report ≡ report_text options loaded.config recorded.report
    text_of_loaded = ap (λ (c : Config). report_text options c recorded.report) is.config_is

    pub reports_of : (status : ℕ) (report : Option Report) (boot_faults : ℕ) → boot_faults ≡ 0
        → EndsWith see.out before.out after.out (see.err before.err) (see.err after.err) (report_text options recorded.config recorded.report) recorded.report status report
        → Reports see before after Comes options boot names status report boot_faults
    reports_of status None boot_faults read (is_status, inl none, said) =
        inr (read, record { status_is = is_status; written = inl none; said = said })
    reports_of status None boot_faults read (is_status, inr front, said) = inr (
      read,
      record {
        status_is = is_status;
        written = inr (record {
          loaded = loaded;
          report = recorded.report;
          over = report_over;
          front = subst (AppendsFront (see.out before.out).written (see.out after.out).written) text_of_loaded front;
        });
        said = said;
      },
    )
    reports_of status (Some report) boot_faults read done = (
      read,
      record {
        loaded = loaded;
        over = subst (IsReportOver see before after Comes options boot names loaded) (sym done.0) report_over;
        written = rw done.0 (subst (λ (text : List ℕ). IsWritten (see.out before.out) (see.out after.out) text (status_of_all (ends_of recorded.report)) status)
            text_of_loaded done.1);
        said = rw done.0 done.2;
      },
    )
