-- The names that came with the report of a run or a replay are those that its views are made of.
use Rattle.std.proofs.Common.{◌≡◌, ℕ, suc, List, [], ◌∷◌, map, length, refl, ap, sym, ◌∙◌, arith}
use Rattle.std.proofs.lemmas.List.{length-map}
use Rattle.stat_defs.specs.declared.configs.Config.{Config}
use Rattle.stat_defs.specs.declared.events.Event.{Event}
use Rattle.stat_defs.specs.declared.history.Verdict.{Verdict}
use Rattle.stat_defs.specs.declared.reports.Reported.{Reported}
use Rattle.name_changes.specs.Changes.{names_in_log}
use Rattle.ledger.specs.Ledger.{RunPlan, HasHistory, HasNames, plan_of, last_flush_alone}
use Rattle.ledger.specs.Work.{Work, apart, together}
use Rattle.flush_view.specs.Showing.{NamesOfLedgers}
use Rattle.flush_view.specs.Views.{view_rules, names_shown}
use Rattle.flush_view.proofs.Ends.{ends_of_workers}

-- each list of events has its work
work_each : (events : List (List Event)) (verdicts : List (List Verdict)) → length verdicts ≡ length events
    → length (apart events verdicts) ≡ length verdicts
work_each [] [] same = refl
work_each [] (vs ∷ verdicts) same = absurd (omega (arith, same))
work_each (es ∷ events) [] same = refl
work_each (es ∷ events) (vs ∷ verdicts) same = ap suc (work_each events verdicts (omega (arith, same)))

-- as many as have these lengths
as_many : (xss : List (List Verdict)) (yss : List (List Event)) → map (λ xs. length xs) xss ≡ map (λ ys. length ys) yss
    → length xss ≡ length yss
as_many xss yss same =
    sym (length-map xss (λ (xs : List Verdict). length xs)) ∙ ap (λ (l : List ℕ). length l) same
    ∙ length-map yss (λ (ys : List Event). length ys)

module _ (config : Config) (made : Reported) where
  names_of : (plan : RunPlan) (workers : List Work) (n : ℕ) → HasHistory plan workers made.report
      → length workers ≡ n → HasNames (view_rules config).names n made
      → made.names ≡ names_shown (view_rules config).names made.report.log
  names_of plan workers n history many has =
      has ∙ ap (λ (k : ℕ). names_in_log (view_rules config).names k made.report.log)
      (sym (ends_of_workers plan workers made.report history ∙ many))

pub names_of_ledgers : NamesOfLedgers
names_of_ledgers = record {
  run = λ config contents events made is has.
      names_of config made (plan_of config) (apart events made.report.verdicts) (length contents) is.history
      (work_each events made.report.verdicts (as_many made.report.verdicts events is.read.a_verdict_each)
      ∙ is.read.verdicts_each) has;
  replay = λ config contents events made is has.
      names_of config made (last_flush_alone (plan_of config)) (together events made.report.verdicts) 1 is.history refl has;
}
