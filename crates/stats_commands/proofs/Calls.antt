-- What a call comes to, by its command.
use Rattle.std.proofs.Common.{◌≡◌, ◌≢◌, ◌⊎◌, ℕ, false, Option, Some, None, List, codes, refl, sym, ◌∙◌, subst, inl, inr, arith}
use Rattle.stats_io.specs.States.{SinkState}
use Rattle.output_options.specs.declared.OutputOptions.{OutputOptions}
use Rattle.command_words.specs.Command.{Command, Replay, Check, Bins, Load}
use Rattle.stats_commands.specs.BinLines.{bin_lines}
use Rattle.stats_commands.specs.World.{World, Sight}
use Rattle.stats_commands.specs.FaultLines.{out_of_memory}
use Rattle.stats_commands.specs.Outcome.{IsSaid, IsWritten, IsPrinted, IsUnstarted, Prints, IsRefused, Checks, Replays, IsBinned, Reports, IsBootFault, IsSummarized, Summarizes, IsCall}
use Rattle.load_report.specs.LoadReport.{IsLoadOf}
use Rattle.stat_defs.specs.declared.configs.Config.{Config}
use Rattle.stat_defs.specs.declared.reports.Report.{Report}
use Rattle.stats_commands.specs.declared.status.TheConstants.{DONE, NO_COMMAND, NO_MEMORY}
use Rattle.stats_commands.specs.declared.outcome.Outcome.{Outcome}
use Rattle.stats_commands.proofs.BootRefused.{boot_is_no_usage}
use Rattle.replay_files.specs.ReplayReport.{IsReplayOf}
use Rattle.stats_commands.proofs.Replayed.{report_is_no_usage}

printed_is_no_usage : (a b x y : SinkState) (text : List ℕ) (status : ℕ) → IsPrinted a b x y text status → status ≢ NO_COMMAND
printed_is_no_usage a b x y text status is e = by is.written
  where
    by : IsWritten a b text DONE status → ⊥
    by (inl whole) = absurd (omega (arith, whole.0, e))
    by (inr cut) = absurd (omega (arith, cut.0, e))

module _ {K F S O E : Type 0} (see : Sight K F S O E) (before after : World K F O E) where
  check_is_no_usage : (boot : List ℕ) (status boot_faults : ℕ) → Checks see before after boot status boot_faults → status ≢ NO_COMMAND
  check_is_no_usage boot status boot_faults (inl is) e =
      printed_is_no_usage (see.out before.out) (see.out after.out) (see.err before.err) (see.err after.err) _ status is.1.printed e
  check_is_no_usage boot status boot_faults (inr (inl is)) e = boot_is_no_usage is.fault (sym is.status_is ∙ e)
  check_is_no_usage boot status boot_faults (inr (inr is)) e = absurd (omega (arith, is.1.status_is, e))

  bins_are_no_usage : (values : List ℕ) (status : ℕ) → IsBinned see before after values status → status ≢ NO_COMMAND
  bins_are_no_usage values status is e = by is.printed
    where
      by : Prints see.out before.out after.out (see.err before.err) (see.err after.err) (bin_lines values) status → ⊥
      by (inl printed) = printed_is_no_usage (see.out before.out) (see.out after.out) (see.err before.err) (see.err after.err) (bin_lines values) status printed e
      by (inr up) = absurd (omega (arith, up.status_is, e))

  pub summary_is_no_usage : (Comes : Config → ℕ → ℕ → Report → Type 0) (scripts n : ℕ) (outcome : Outcome)
      → Summarizes see before after Comes scripts n outcome → outcome.status ≢ NO_COMMAND
  summary_is_no_usage Comes scripts n outcome is e = by is.comes
    where
      by : ((outcome.boot_faults ≡ 0) × IsSummarized see before after Comes scripts n outcome.status)
          ⊎ (IsBootFault see before after (codes "-") outcome.status outcome.boot_faults ⊎ ((outcome.boot_faults ≡ 0)
          × IsUnstarted before.out after.out (see.err before.err) (see.err after.err) outcome.status)) → ⊥
      by (inl done) = printed_is_no_usage (see.out before.out) (see.out after.out) (see.err before.err) (see.err after.err) done.1.text outcome.status done.1.printed e
      by (inr (inl fault)) = boot_is_no_usage fault.fault (sym fault.status_is ∙ e)
      by (inr (inr up)) = absurd (omega (arith, up.1.status_is, e))

  -- memory was wanting before the words were read
  module _ (maker : after.maker ≡ before.maker) (shelf : after.shelf ≡ before.shelf) (out : after.out ≡ before.out)
      (said : IsSaid (see.err before.err) (see.err after.err) out_of_memory) where
    abbrev unread : Outcome
    unread = record { status = NO_MEMORY; report = None; boot_faults = 0 }

    unstarted_now : IsUnstarted before.out after.out (see.err before.err) (see.err after.err) NO_MEMORY
    unstarted_now = record { status_is = refl; unwritten = out; said = said }

    pub unread_reports : (Comes : Config → List (List ℕ) → F → F → Report → Type 0) (options : OutputOptions) (boot : List ℕ)
        (names : List (List ℕ)) → Reports see before after Comes options boot names NO_MEMORY None 0
    unread_reports Comes options boot names = inr (refl, record { status_is = refl; written = inl out; said = said })

    pub unread_summarizes : (Comes : Config → ℕ → ℕ → Report → Type 0) (scripts n : ℕ)
        → Summarizes see before after Comes scripts n unread
    unread_summarizes Comes scripts n = record { report = refl; shelf = shelf; comes = inr (inr (refl, unstarted_now)) }

    pub call_unread : (says_now : Option Command) → IsCall see before after says_now unread
    call_unread says_now = record {
      usage_status = λ one. absurd (omega (arith, one));
      refused = λ no. (refl, refl, inr (record { status_is = refl; maker = maker; shelf = shelf; out = out; said = said }));
      replayed = λ options boot names says. unread_reports (IsReplayOf see.shelf see.source (see.holds before.shelf)) options boot names;
      checked = λ boot says. (refl, inr (inr (refl, unstarted_now)));
      binned = λ values says. (refl, refl, record { maker = maker; shelf = shelf; printed = inr unstarted_now });
      loaded = λ scripts n says. unread_summarizes IsLoadOf scripts n;
    }

  module _ (says_now : Option Command) where
    pub call_refused : says_now ≡ None → IsRefused see before after
        → IsCall see before after says_now (record { status = NO_COMMAND; report = None; boot_faults = 0 })
    call_refused none is = record {
      usage_status = λ one. none;
      refused = λ no. (refl, refl, inl (refl, is));
      replayed = λ options boot names says. absurd cc;
      checked = λ boot says. absurd cc;
      binned = λ values says. absurd cc;
      loaded = λ scripts n says. absurd cc;
    }

    pub call_replayed : (options : OutputOptions) (boot : List ℕ) (names : List (List ℕ)) (outcome : Outcome)
        → says_now ≡ Some (Replay options boot names) → Replays see before after options boot names outcome
        → IsCall see before after says_now outcome
    call_replayed options boot names outcome says is = record {
      usage_status = λ one. absurd (report_is_no_usage see before after (IsReplayOf see.shelf see.source (see.holds before.shelf)) options boot names outcome.status outcome.report outcome.boot_faults is one);
      refused = λ no. absurd cc;
      replayed = λ o b ns also.
          let asked : options ≡ o = cc in
          let one : boot ≡ b = cc in
          let all : names ≡ ns = cc in
          subst (λ (l : List (List ℕ)). Replays see before after o b l outcome) all
          (subst (λ (l : List ℕ). Replays see before after o l names outcome) one
          (subst (λ (x : OutputOptions). Replays see before after x boot names outcome) asked is));
      checked = λ b also. absurd cc;
      binned = λ values also. absurd cc;
      loaded = λ scripts n also. absurd cc;
    }

    pub call_checked : (boot : List ℕ) (outcome : Outcome) → says_now ≡ Some (Check boot) → outcome.report ≡ None
        → Checks see before after boot outcome.status outcome.boot_faults → IsCall see before after says_now outcome
    call_checked boot outcome says none is = record {
      usage_status = λ one. absurd (check_is_no_usage boot outcome.status outcome.boot_faults is one);
      refused = λ no. absurd cc;
      replayed = λ o b ns also. absurd cc;
      checked = λ b also. (none, let one : boot ≡ b = cc in subst (λ (l : List ℕ). Checks see before after l outcome.status outcome.boot_faults) one is);
      binned = λ values also. absurd cc;
      loaded = λ scripts n also. absurd cc;
    }

    pub call_binned : (values : List ℕ) (outcome : Outcome) → says_now ≡ Some (Bins values) → outcome.report ≡ None
        → outcome.boot_faults ≡ 0 → IsBinned see before after values outcome.status → IsCall see before after says_now outcome
    call_binned values outcome says none unread is = record {
      usage_status = λ one. absurd (bins_are_no_usage values outcome.status is one);
      refused = λ no. absurd cc;
      replayed = λ o b ns also. absurd cc;
      checked = λ b also. absurd cc;
      binned = λ vs also. (none, unread, let all : values ≡ vs = cc in subst (λ (l : List ℕ). IsBinned see before after l outcome.status) all is);
      loaded = λ scripts n also. absurd cc;
    }

    pub call_loaded : (scripts n : ℕ) (outcome : Outcome) → says_now ≡ Some (Load false scripts n)
        → Summarizes see before after IsLoadOf scripts n outcome → IsCall see before after says_now outcome
    call_loaded scripts n outcome says is = record {
      usage_status = λ one. absurd (summary_is_no_usage IsLoadOf scripts n outcome is one);
      refused = λ no. absurd cc;
      replayed = λ o b ns also. absurd cc;
      checked = λ b also. absurd cc;
      binned = λ values also. absurd cc;
      loaded = λ w e also.
          let same : scripts ≡ w = cc in
          let long : n ≡ e = cc in
          subst (λ (m : ℕ). Summarizes see before after IsLoadOf w m outcome) long
          (subst (λ (k : ℕ). Summarizes see before after IsLoadOf k n outcome) same is);
    }
