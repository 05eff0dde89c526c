-- The views of all flushes are those of each flush.
use Rattle.std.proofs.Common.{◌≡◌, ℕ, zero, suc, List, [], ◌∷◌, ◌++◌, take, slice_get, refl, ap, ◌∙◌, append_assoc}
use Rattle.std.specs.Prelude.{option_map}
use Rattle.stat_defs.specs.declared.history.Entry.{Entry}
use Rattle.stat_defs.specs.declared.reports.FlushRecord.{FlushRecord}
use Rattle.flush_view.specs.Views.{ViewRules, view_of, views_behind}

pub each : (rules : ViewRules) (log : List Entry) (earlier flushes : List FlushRecord) (k : ℕ)
    → slice_get (views_behind rules log earlier flushes) k ≡ option_map (λ flush. view_of rules log flush (earlier ++ take (suc k) flushes)) (slice_get flushes k)
each rules log earlier [] k = refl
each rules log earlier (flush ∷ flushes) zero = refl
each rules log earlier (flush ∷ flushes) (suc k) =
    each rules log (earlier ++ flush ∷ []) flushes k
    ∙ ap (λ (front : List FlushRecord → List FlushRecord). option_map (λ f. view_of rules log f (front (take (suc k) flushes))) (slice_get flushes k)) (λ i rest. append_assoc earlier (flush ∷ []) rest i)
