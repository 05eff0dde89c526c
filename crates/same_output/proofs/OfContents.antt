-- The contents of its files determine what a run of independent files writes.
use Rattle.std.proofs.Common.{◌≡◌, ℕ, false, Some, List, [], ◌∷◌, map, length, sym, ap, ◌∙◌, subst, arith}
use Rattle.std.specs.List.{zip, AllByRecursion, AllZip}
use Rattle.std.proofs.lemmas.List.{length-map}
use Rattle.stat_defs.specs.declared.configs.Config.{Config}
use Rattle.stat_defs.specs.declared.events.Event.{Event}
use Rattle.stat_defs.specs.declared.reports.Report.{Report}
use Rattle.stat_defs.specs.declared.reports.WorkerEnd.{WorkerEnd}
use Rattle.tag_rules.specs.Bounds.{bounds_for}
use Rattle.ledger.specs.Ledger.{AreRead, ReplayLedger, Ledger, Direct, plan_of}
use Rattle.ledger.specs.OneReport.{NoFault, NoneFailed}
use Rattle.ledger.proofs.Contents.{Given, as_file, ends_once}
use Rattle.flush_view.specs.Views.{view_rules}
use Rattle.flush_view.specs.Output.{ViewText, output}
use Rattle.same_output.specs.Independent.{AreIndependent, AreEvents}
use Rattle.same_output.proofs.Written.{outputs_same}

-- files that were read to an end of their own gave their events
are_events : (contents : List (List ℕ)) (ends : List WorkerEnd) (events : List (List Event)) → length ends ≡ length contents → length events ≡ length contents
    → AllZip Given (map Some contents) (zip ends events) → AllByRecursion (λ end. NoFault end.end) ends → AreEvents contents events
are_events [] ends [] many each read none = tt
are_events [] ends (es ∷ events) many each read none = absurd (omega (arith, each))
are_events (c ∷ contents) [] events many each read none = absurd (omega (arith, many))
are_events (c ∷ contents) (end ∷ ends) [] many each read none = absurd (omega (arith, each))
are_events (c ∷ contents) (end ∷ ends) (es ∷ events) many each read none = (
  (end.end, as_file c end.end end.taken es none.0 read.0),
  are_events contents ends events (omega (arith, many)) (omega (arith, each)) read.1 none.1,
)

-- as many files have events as have contents
as_many : (contents : List (List ℕ)) (events : List (List Event)) (report : Report) → AreRead (map Some contents) events report → length events ≡ length contents
as_many contents events report read =
    sym (length-map events length) ∙ ap (λ (l : List ℕ). length l) (sym read.a_verdict_each) ∙ length-map report.verdicts length
    ∙ read.verdicts_each ∙ length-map contents Some

pub of_contents : (text : ViewText) (config : Config) (contents : List (List ℕ)) (run replay : Report)
    → ((events : List (List Event)) → AreEvents contents events → AreIndependent (plan_of config) events)
    → Ledger config (map Some contents) run → NoneFailed run
    → Direct config (map Some contents) replay → NoneFailed replay
    → output text (view_rules config) false run ≡ output text (view_rules config) false replay
of_contents text config contents run replay free a na b nb =
    let ra = a.report_of.read in
    let rb = b.report_of.read in
    let some : length (map Some contents) ≡ length contents = length-map contents Some in
    let la = as_many contents a.events run ra in
    let lb = as_many contents b.events replay rb in
    let got = ends_once contents run.ends replay.ends a.events b.events (ra.an_end_each ∙ some) (rb.an_end_each ∙ some) la lb ra.read rb.read na nb ra.counted rb.counted in
    let moved = subst (λ (es : List (List Event)). ReplayLedger (map Some contents) es (plan_of config) replay) (sym got.0) b.report_of in
    outputs_same text (bounds_for config.buckets) (map Some contents) (map Some contents) a.events (plan_of config) run replay
    (free a.events (are_events contents run.ends a.events (ra.an_end_each ∙ some) la ra.read na)) a.report_of moved
