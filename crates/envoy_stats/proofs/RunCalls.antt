-- What a call comes to whose words say a run, a load side by side, or any other one.
use Rattle.std.proofs.Common.{◌≡◌, ◌∙◌, ℕ, true, false, Option, Some, None, List, subst}
use Rattle.std.specs.Option.{option_and_then}
use Rattle.output_options.specs.declared.OutputOptions.{OutputOptions}
use Rattle.command_words.specs.Command.{Command, Run, Replay, Check, Bins, Load, command}
use Rattle.run_report.specs.RunReport.{IsRunOf}
use Rattle.load_run.specs.LoadRun.{IsLoadRunOf}
use Rattle.stats_commands.specs.Quiet.{without_threads}
use Rattle.stats_commands.specs.World.{World, Sight}
use Rattle.stats_commands.specs.declared.outcome.Outcome.{Outcome}
use Rattle.stats_commands.specs.Outcome.{IsSaid, Summarizes, IsCall}
use Rattle.stats_commands.specs.FaultLines.{out_of_memory}
use Rattle.stats_commands.specs.declared.status.TheConstants.{NO_MEMORY}
use Rattle.stats_commands.proofs.Replayed.{report_is_no_usage}
use Rattle.stats_commands.proofs.Calls.{summary_is_no_usage, call_unread, unread_reports, unread_summarizes}
use Rattle.envoy_stats.specs.Running.{Runs, IsProgramCall}

-- no quiet command is a run
no_quiet_run : (o : Option Command) (options : OutputOptions) (boot : List ℕ) (names : List (List ℕ))
    → option_and_then without_threads o ≡ Some (Run options boot names) → ⊥
no_quiet_run None options boot names e = cc
no_quiet_run (Some (Run x b n)) options boot names e = cc
no_quiet_run (Some (Replay x b n)) options boot names e = cc
no_quiet_run (Some (Check b)) options boot names e = cc
no_quiet_run (Some (Bins vs)) options boot names e = cc
no_quiet_run (Some (Load true w n)) options boot names e = cc
no_quiet_run (Some (Load false w n)) options boot names e = cc

-- nor a load side by side
no_quiet_load : (o : Option Command) (scripts n : ℕ) → option_and_then without_threads o ≡ Some (Load true scripts n) → ⊥
no_quiet_load None scripts n e = cc
no_quiet_load (Some (Run x b ns)) scripts n e = cc
no_quiet_load (Some (Replay x b ns)) scripts n e = cc
no_quiet_load (Some (Check b)) scripts n e = cc
no_quiet_load (Some (Bins vs)) scripts n e = cc
no_quiet_load (Some (Load true w m)) scripts n e = cc
no_quiet_load (Some (Load false w m)) scripts n e = cc

module _ {K F S O E : Type 0} (see : Sight K F S O E) (before after : World K F O E) (words : List (List ℕ)) (outcome : Outcome) where
  pub program_runs : (options : OutputOptions) (boot : List ℕ) (names : List (List ℕ)) → command words ≡ Some (Run options boot names)
      → Runs see before after options boot names outcome → IsProgramCall see before after words outcome
  program_runs options boot names says is = record {
    call = record {
      usage_status = λ one. absurd (report_is_no_usage see before after (IsRunOf see.shelf see.source (see.holds before.shelf)) options boot names outcome.status outcome.report outcome.boot_faults is one);
      refused = λ no. absurd cc;
      replayed = λ o b ns also. absurd cc;
      checked = λ b also. absurd cc;
      binned = λ vs also. absurd cc;
      loaded = λ w n also. absurd cc;
    };
    ran = λ o b ns also.
        let asked : options ≡ o = cc in
        let one : boot ≡ b = cc in
        let all : names ≡ ns = cc in
        subst (λ (l : List (List ℕ)). Runs see before after o b l outcome) all
        (subst (λ (l : List ℕ). Runs see before after o l names outcome) one
        (subst (λ (x : OutputOptions). Runs see before after x boot names outcome) asked is));
    loaded = λ w n also. absurd cc;
  }

  pub program_loads : (scripts n : ℕ) → command words ≡ Some (Load true scripts n)
      → Summarizes see before after IsLoadRunOf scripts n outcome → IsProgramCall see before after words outcome
  program_loads scripts n says is = record {
    call = record {
      usage_status = λ one. absurd (summary_is_no_usage see before after IsLoadRunOf scripts n outcome is one);
      refused = λ no. absurd cc;
      replayed = λ o b ns also. absurd cc;
      checked = λ b also. absurd cc;
      binned = λ vs also. absurd cc;
      loaded = λ w m also. absurd cc;
    };
    ran = λ o b ns also. absurd cc;
    loaded = λ w m also.
        let same : scripts ≡ w = cc in
        let long : n ≡ m = cc in
        subst (λ (k : ℕ). Summarizes see before after IsLoadRunOf w k outcome) long
        (subst (λ (k : ℕ). Summarizes see before after IsLoadRunOf k n outcome) same is);
  }

  pub program_quiet : (said : Option Command) → said ≡ command words → option_and_then without_threads said ≡ said
      → IsCall see before after (option_and_then without_threads said) outcome → IsProgramCall see before after words outcome
  program_quiet said says quiet is = record {
    call = subst (λ (o : Option Command). IsCall see before after o outcome) (quiet ∙ says) is;
    ran = λ o b ns also. absurd (no_quiet_run said o b ns (quiet ∙ (says ∙ also)));
    loaded = λ w n also. absurd (no_quiet_load said w n (quiet ∙ (says ∙ also)));
  }

-- memory was wanting before the words were read
pub program_unread : {K F S O E : Type 0} (see : Sight K F S O E) (before after : World K F O E) (words : List (List ℕ))
    → after.maker ≡ before.maker → after.shelf ≡ before.shelf → after.out ≡ before.out
    → IsSaid (see.err before.err) (see.err after.err) out_of_memory
    → IsProgramCall see before after words (record { status = NO_MEMORY; report = None; boot_faults = 0 })
program_unread see before after words maker shelf out said = record {
  call = call_unread see before after maker shelf out said (command words);
  ran = λ options boot names says. unread_reports see before after maker shelf out said
      (IsRunOf see.shelf see.source (see.holds before.shelf)) options boot names;
  loaded = λ scripts n says. unread_summarizes see before after maker shelf out said IsLoadRunOf scripts n;
}
