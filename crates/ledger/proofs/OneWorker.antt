-- The flushes of one worker account for all that it did.
use Rattle.std.proofs.Common.{◌≡◌, ℕ, true, List, [], ◌∷◌, ◌++◌, ap, sym, ◌∙◌, subst, append-nil}
use Rattle.std.specs.List.{flat_map, AllByRecursion}
use Rattle.stat_defs.specs.declared.ids.Kind.TheVariants.{Counter}
use Rattle.stat_defs.specs.declared.reports.Reading.{Reading}
use Rattle.stat_defs.specs.declared.reports.FlushRecord.{FlushRecord}
use Rattle.stat_defs.specs.declared.reports.Report.{Report}
use Rattle.book_state.specs.Log.{replay}
use Rattle.ledger.specs.Lists.{OfLast}
use Rattle.ledger.specs.Work.{Work, Recording, recordings, units_of}
use Rattle.ledger.specs.Gauges.{gauge_word, GaugeFits}
use Rattle.ledger.specs.Segments.{segments, left_over, taken_now}
use Rattle.ledger.specs.Flushes.{Fits, FitSoFar, FitAll, flushed, ids_made}
use Rattle.ledger.specs.Ledger.{RunPlan, Account}
use Rattle.ledger.proofs.FlushesFit.{all_last}
use Rattle.ledger.proofs.Members.{of_last}
use Rattle.ledger.proofs.Pieces.{segments_whole}
use Rattle.ledger.proofs.Words.{one_worker}

all_segments : (work : Work) (flushes : List FlushRecord) → left_over 1 work flushes ≡ [] → flat_map (λ segment. segment) (segments 1 work flushes) ≡ recordings work
all_segments work flushes none =
    let taken : List Recording = flat_map (λ segment. segment) (segments 1 work flushes) in
    sym (append-nil taken) ∙ ap (λ (l : List Recording). taken ++ l) (sym none) ∙ segments_whole 1 work flushes

words_fit : (work : Work) (readings : List Reading) → AllByRecursion (λ reading. reading.word ≡ gauge_word reading.id.0 work) readings
    → AllByRecursion (λ reading. GaugeFits reading.id.0 reading.word (work ∷ [])) readings
words_fit work [] are = tt
words_fit work (r ∷ readings) are = (subst (λ (word : ℕ). GaugeFits r.id.0 word (work ∷ [])) (sym are.0) (one_worker r.id.0 work), words_fit work readings are.1)

pub accounts : (plan : RunPlan) (work : Work) (flushes : List FlushRecord) (last : FlushRecord) (report : Report) → report.flushes ≡ flushes ++ last ∷ []
    → FitSoFar plan.rules report.log (work ∷ []) flushes
    → Fits plan.rules report.log true (taken_now 1 (work ∷ []) flushes last) last
    → AllByRecursion (λ id. flushed id.0 report.flushes ≡ units_of id.0 (work ∷ [])) (ids_made Counter (replay plan.rules 1 report.log))
    → left_over 1 work report.flushes ≡ []
    → AllByRecursion (λ reading. reading.word ≡ gauge_word reading.id.0 work) last.gauges
    → Account plan (work ∷ []) report
accounts plan work flushes last report are each fits units none words = record {
  flushes = subst (λ (l : List FlushRecord). FitAll plan.rules report.log (work ∷ []) l) (sym are) (all_last plan.rules report.log (work ∷ []) flushes last each fits);
  units = units;
  values = (all_segments work report.flushes none, tt);
  words = subst (λ (l : List FlushRecord). OfLast (λ f. AllByRecursion (λ reading. GaugeFits reading.id.0 reading.word (work ∷ [])) f.gauges) l) (sym are)
      (of_last (λ f. AllByRecursion (λ reading. GaugeFits reading.id.0 reading.word (work ∷ [])) f.gauges) flushes last (words_fit work last.gauges words));
}
