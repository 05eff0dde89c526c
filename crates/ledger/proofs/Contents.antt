-- The contents of its files determine a replay's report.
use Rattle.std.proofs.Common.{◌≡◌, ℕ, Option, Some, List, [], ◌∷◌, map, length, refl, ap, sym, ◌∙◌, subst, arith}
use Rattle.std.specs.List.{zip, AllByRecursion, AllZip}
use Rattle.std.proofs.lemmas.List.{length-map}
use Rattle.stat_defs.specs.declared.configs.Config.{Config}
use Rattle.stat_defs.specs.declared.events.Event.{Event}
use Rattle.stat_defs.specs.declared.reports.FileEnd.{FileEnd}
use Rattle.stat_defs.specs.declared.reports.FileEnd.TheVariants as file
use Rattle.stat_defs.specs.declared.reports.WorkerEnd.{WorkerEnd}
use Rattle.stat_defs.specs.declared.reports.Report.{Report}
use Rattle.event_script.specs.Script.{File}
use Rattle.event_script.specs.FileEvents.{AreEventsOf}
use Rattle.event_script.proofs.OneReading.{file_single}
use Rattle.ledger.specs.Ledger.{TakenAtFault, ReplayLedger, plan_of, Direct}
use Rattle.ledger.specs.OneReport.{NoFault, NoneFailed, without_ends, without_count, without_counts}
use Rattle.ledger.proofs.Lists.{cons_same}
use Rattle.ledger.proofs.OneFlush.{one_report}

of_file : (bytes : List ℕ) (events : List Event) (end : FileEnd) → (b : List ℕ) × (bytes ≡ b) × File b events end → File bytes events end
of_file bytes events end run = subst (λ (b : List ℕ). File b events end) (sym run.1) run.2

pub as_file : (bytes : List ℕ) (end : FileEnd) (taken : ℕ) (events : List Event) → NoFault end → AreEventsOf (Some bytes) end taken events → File bytes events end
as_file bytes file.Whole taken events none run = of_file bytes events file.Whole run
as_file bytes (file.BadLine n) taken events none run = of_file bytes events (file.BadLine n) run
as_file bytes (file.LineTooLong n) taken events none run = of_file bytes events (file.LineTooLong n) run
as_file bytes file.TooBig taken events none run = of_file bytes events file.TooBig run
as_file bytes file.TooMany taken events none run = of_file bytes events file.TooMany run
as_file bytes file.ReadFault taken events none run = absurd none
as_file bytes file.NotOpened taken events none run = absurd none

none_taken : (end : FileEnd) (taken : ℕ) → NoFault end → TakenAtFault end taken → taken ≡ 0
none_taken file.ReadFault taken none at = absurd none
none_taken file.NotOpened taken none at = absurd none
none_taken _ taken none at = at

end_same : (x y : FileEnd) (m n : ℕ) → x ≡ y → m ≡ n
    → ◌≡◌ {A = WorkerEnd} (record { end = x; taken = m; faults_before = 0; faults_after = 0 }) (record { end = y; taken = n; faults_before = 0; faults_after = 0 })
end_same x y m n e f = cc

abbrev pub Given : Option (List ℕ) → WorkerEnd × List Event → Type 0
Given content read = AreEventsOf content read.0.end read.0.taken read.1

pub ends_once : (contents : List (List ℕ)) (xs ys : List WorkerEnd) (es fs : List (List Event)) → length xs ≡ length contents → length ys ≡ length contents → length es ≡ length contents → length fs ≡ length contents
    → AllZip Given (map Some contents) (zip xs es) → AllZip Given (map Some contents) (zip ys fs)
    → AllByRecursion (λ end. NoFault end.end) xs → AllByRecursion (λ end. NoFault end.end) ys
    → AllByRecursion (λ end. TakenAtFault end.end end.taken) xs → AllByRecursion (λ end. TakenAtFault end.end end.taken) ys
    → (es ≡ fs) × (map without_count xs ≡ map without_count ys)
ends_once [] [] [] [] [] lx ly le lf a b nx ny tx ty = (refl, refl)
ends_once [] (x ∷ xs) ys es fs lx ly le lf a b nx ny tx ty = absurd (omega (arith, lx))
ends_once [] [] (y ∷ ys) es fs lx ly le lf a b nx ny tx ty = absurd (omega (arith, ly))
ends_once [] [] [] (e ∷ es) fs lx ly le lf a b nx ny tx ty = absurd (omega (arith, le))
ends_once [] [] [] [] (f ∷ fs) lx ly le lf a b nx ny tx ty = absurd (omega (arith, lf))
ends_once (c ∷ cs) [] ys es fs lx ly le lf a b nx ny tx ty = absurd (omega (arith, lx))
ends_once (c ∷ cs) (x ∷ xs) [] es fs lx ly le lf a b nx ny tx ty = absurd (omega (arith, ly))
ends_once (c ∷ cs) (x ∷ xs) (y ∷ ys) [] fs lx ly le lf a b nx ny tx ty = absurd (omega (arith, le))
ends_once (c ∷ cs) (x ∷ xs) (y ∷ ys) (e ∷ es) [] lx ly le lf a b nx ny tx ty = absurd (omega (arith, lf))
ends_once (c ∷ cs) (x ∷ xs) (y ∷ ys) (e ∷ es) (f ∷ fs) lx ly le lf a b nx ny tx ty =
    let same = file_single c e f x.end y.end (as_file c x.end x.taken e nx.0 a.0) (as_file c y.end y.taken f ny.0 b.0) in
    let taken : x.taken ≡ y.taken = none_taken x.end x.taken nx.0 tx.0 ∙ sym (none_taken y.end y.taken ny.0 ty.0) in
    let rest = ends_once cs xs ys es fs (omega (arith, lx)) (omega (arith, ly)) (omega (arith, le)) (omega (arith, lf)) a.1 b.1 nx.1 ny.1 tx.1 ty.1 in
    (cons_same e f es fs same.0 rest.0, cons_same (without_count x) (without_count y) _ _ (end_same x.end y.end x.taken y.taken same.1 taken) rest.1)

with_ends : (one other : Report) (ends more : List WorkerEnd) → without_ends one ≡ without_ends other → ends ≡ more
    → ◌≡◌ {A = Report} (record one { ends = ends }) (record other { ends = more })
with_ends one other ends more same e =
    ap (λ (r : Report). record r { ends = ends }) same ∙ ap (λ (l : List WorkerEnd). record other { ends = l }) e

pub one_direct : (config : Config) (contents : List (List ℕ)) (one other : Report)
    → Direct config (map Some contents) one → NoneFailed one → Direct config (map Some contents) other → NoneFailed other
    → without_counts one ≡ without_counts other
one_direct config contents one other a na b nb =
    let ra = a.report_of.read in
    let rb = b.report_of.read in
    let some : length (map Some contents) ≡ length contents = length-map contents Some in
    let la : length a.events ≡ length contents =
    sym (length-map a.events length) ∙ ap (λ (l : List ℕ). length l) (sym ra.a_verdict_each) ∙ length-map one.verdicts length ∙ ra.verdicts_each ∙ some in
    let lb : length b.events ≡ length contents =
    sym (length-map b.events length) ∙ ap (λ (l : List ℕ). length l) (sym rb.a_verdict_each) ∙ length-map other.verdicts length ∙ rb.verdicts_each ∙ some in
    let got = ends_once contents one.ends other.ends a.events b.events (ra.an_end_each ∙ some) (rb.an_end_each ∙ some) la lb ra.read rb.read na nb ra.counted rb.counted in
    let moved = subst (λ (es : List (List Event)). ReplayLedger (map Some contents) es (plan_of config) other) (sym got.0) b.report_of in
    with_ends one other (map without_count one.ends) (map without_count other.ends)
    (one_report (plan_of config) a.events (map Some contents) (map Some contents) one other a.report_of moved) got.1
