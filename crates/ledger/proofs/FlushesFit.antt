-- Flushes that fit, with more entries, one more event and one more flush.
use Rattle.std.proofs.Common.{◌≡◌, ◌==◌, ℕ, zero, suc, ◌+◌, ◌<◌, ◌≤◌, Bool, true, false, Option, List, [], ◌∷◌, ◌++◌, map, length, take, slice_get, get_or, refl, ap, sym, ◌∙◌, subst, arith}
use Rattle.std.specs.Prelude.{option_map}
use Rattle.std.proofs.lemmas.List.{take-append-le, get_or_append_left, length-append}
use Rattle.stat_defs.specs.declared.events.Event.{Event}
use Rattle.stat_defs.specs.declared.history.Verdict.{Verdict}
use Rattle.stat_defs.specs.declared.history.Call.TheVariants as call
use Rattle.stat_defs.specs.declared.history.Entry.{Entry}
use Rattle.stat_defs.specs.declared.ids.Kind.TheVariants.{Counter, Gauge}
use Rattle.stat_defs.specs.declared.reports.FlushRecord.{FlushRecord}
use Rattle.book_state.specs.State.{NameRules}
use Rattle.book_state.specs.Log.{replay}
use Rattle.book_state.proofs.Lists.{get_within, map_some}
use Rattle.ledger.specs.Lists.{EachNumbered}
use Rattle.ledger.specs.Work.{Work, recordings}
use Rattle.ledger.specs.Segments.{taken_from, segments, segment, segments_at, TakesLess, taken_now}
use Rattle.ledger.specs.Flushes.{Fits, FitSoFar, FitAll, ids_not_gone, id_of_delta, id_of_reading}
use Rattle.ledger.specs.Laws.{with_event}
use Rattle.ledger.proofs.Lists.{cons_same, number_apart, number_same}
use Rattle.ledger.proofs.Pieces.{length-pieces, segments_event, segments_flush}

at_before : (k w : ℕ) (workers : List Work) (flushes : List FlushRecord) (flush : FlushRecord) → k < length flushes
    → segments_at k w workers (flushes ++ flush ∷ []) ≡ segments_at k w workers flushes
at_before k w [] flushes flush below = refl
at_before k w (work ∷ workers) flushes flush below =
    let l = length-pieces (taken_from w) flushes (recordings work) in
    cons_same _ _ _ _ (
    ap (λ (segs : List (List (ℕ × ℕ))). get_or segs k []) (segments_flush w work flushes flush)
    ∙ get_or_append_left (segments w work flushes) _ [] k (omega (arith, below, l)))
    (at_before k (suc w) workers flushes flush below)

get_last : {X : Type 0} (xs : List X) (x d : X) (k : ℕ) → k ≡ length xs → get_or (xs ++ x ∷ []) k d ≡ x
get_last [] x d zero last = refl
get_last [] x d (suc k) last = absurd (omega (arith, last))
get_last (y ∷ xs) x d zero last = absurd (omega (arith, last))
get_last (y ∷ xs) x d (suc k) last = get_last xs x d k (omega (arith, last))

at_last : (k w : ℕ) (workers : List Work) (flushes : List FlushRecord) (flush : FlushRecord) → k ≡ length flushes
    → segments_at k w workers (flushes ++ flush ∷ []) ≡ taken_now w workers flushes flush
at_last k w [] flushes flush last = refl
at_last k w (work ∷ workers) flushes flush last =
    let l = length-pieces (taken_from w) flushes (recordings work) in
    cons_same _ _ _ _ (
    ap (λ (segs : List (List (ℕ × ℕ))). get_or segs k []) (segments_flush w work flushes flush)
    ∙ get_last (segments w work flushes) _ [] k (omega (arith, last, l)))
    (at_last k (suc w) workers flushes flush last)

at_event : (k w at : ℕ) (told : Event × Verdict) (workers : List Work) (flushes : List FlushRecord) → EachNumbered (λ n work. TakesLess n work flushes) w workers
    → segments_at k w (with_event at told workers) flushes ≡ segments_at k w workers flushes
at_event k w at told [] flushes less = refl
at_event k w zero told (work ∷ workers) flushes less =
    ap (λ (segs : List (List (ℕ × ℕ))). get_or segs k [] ∷ segments_at k (suc w) workers flushes) (segments_event w work told flushes less.0)
at_event k w (suc at) told (work ∷ workers) flushes less =
    ap (λ (l : List (List (ℕ × ℕ))). segment k w work flushes ∷ l) (at_event k (suc w) at told workers flushes less.1)

each_change : {X : Type 0} (P Q : ℕ → X → Type 0) (n top : ℕ) (xs : List X) → n + length xs ≤ top → ((k : ℕ) (x : X) → k < top → P k x → Q k x)
    → EachNumbered P n xs → EachNumbered Q n xs
each_change P Q n top [] within f each = tt
each_change P Q n top (x ∷ xs) within f each = (f n x (omega (arith, within)) each.0, each_change P Q (suc n) top xs (omega (arith, within)) f each.1)

each_push : {X : Type 0} (P : ℕ → X → Type 0) (n k : ℕ) (xs : List X) (x : X) → k ≡ n + length xs → EachNumbered P n xs → P k x → EachNumbered P n (xs ++ x ∷ [])
each_push P n k [] x e each last = (subst (λ (i : ℕ). P i x) (omega (arith, e)) last, tt)
each_push P n k (y ∷ xs) x e each last = (each.0, each_push P (suc n) k xs x (omega (arith, e)) each.1 last)

get_before : {X : Type 0} (xs more : List X) (k : ℕ) → k < length xs → slice_get (xs ++ more) k ≡ slice_get xs k
get_before [] more k below = absurd (omega (arith, below))
get_before (x ∷ xs) more zero below = refl
get_before (x ∷ xs) more (suc k) below = get_before xs more k (omega (arith, below))

-- a sweep in the log stands there with more entries
fits_entries : (rules : NameRules) (log more : List Entry) (segs : List (List (ℕ × ℕ))) (flush : FlushRecord) → Fits rules log false segs flush → Fits rules (log ++ more) false segs flush
fits_entries rules log more segs flush fits =
    let found = map_some (λ (x : Entry). x.call) (slice_get log flush.at) call.Sweep fits.sweep in
    let within : flush.at < length log = get_within log flush.at found.0 found.1 in
    let same : take flush.at log ≡ take flush.at (log ++ more) = sym (take-append-le flush.at log more (omega (arith, within))) in record {
      sweep = ap (λ (o : Option Entry). option_map (λ (x : Entry). x.call) o) (get_before log more flush.at within) ∙ fits.sweep;
      deltas = subst (λ (l : List Entry). map id_of_delta flush.deltas ≡ ids_not_gone Counter (replay rules (length segs) l)) same fits.deltas;
      gauges = subst (λ (l : List Entry). map id_of_reading flush.gauges ≡ ids_not_gone Gauge (replay rules (length segs) l)) same fits.gauges;
      parts = fits.parts;
    }

pub all_entries : (rules : NameRules) (log more : List Entry) (workers : List Work) (flushes : List FlushRecord) → FitSoFar rules log workers flushes → FitSoFar rules (log ++ more) workers flushes
all_entries rules log more workers flushes each =
    each_change _ _ 0 (length flushes) flushes (omega arith) (λ k flush below fits. fits_entries rules log more (segments_at k 1 workers flushes) flush fits) each

pub all_event : (rules : NameRules) (log : List Entry) (at : ℕ) (told : Event × Verdict) (workers : List Work) (flushes : List FlushRecord)
    → EachNumbered (λ w work. TakesLess w work flushes) 1 workers → FitSoFar rules log workers flushes → FitSoFar rules log (with_event at told workers) flushes
all_event rules log at told workers flushes less each =
    each_change _ _ 0 (length flushes) flushes (omega arith)
    (λ k flush below fits. subst (λ (l : List (List (ℕ × ℕ))). Fits rules log false l flush) (sym (at_event k 1 at told workers flushes less)) fits) each

pub all_flush : (rules : NameRules) (log : List Entry) (workers : List Work) (flushes : List FlushRecord) (flush : FlushRecord)
    → FitSoFar rules log workers flushes → Fits rules log false (taken_now 1 workers flushes flush) flush → FitSoFar rules log workers (flushes ++ flush ∷ [])
all_flush rules log workers flushes flush each last =
    let more : List FlushRecord = flushes ++ flush ∷ [] in
    each_push (λ k x. Fits rules log false (segments_at k 1 workers more) x) 0 (length flushes) flushes flush (omega arith)
    (each_change (λ k x. Fits rules log false (segments_at k 1 workers flushes) x) (λ k x. Fits rules log false (segments_at k 1 workers more) x) 0 (length flushes) flushes (omega arith)
    (λ k x below fits. subst (λ (l : List (List (ℕ × ℕ))). Fits rules log false l x) (sym (at_before k 1 workers flushes flush below)) fits) each)
    (subst (λ (l : List (List (ℕ × ℕ))). Fits rules log false l flush) (sym (at_last (length flushes) 1 workers flushes flush refl)) last)

pub all_last : (rules : NameRules) (log : List Entry) (workers : List Work) (flushes : List FlushRecord) (flush : FlushRecord)
    → FitSoFar rules log workers flushes → Fits rules log true (taken_now 1 workers flushes flush) flush → FitAll rules log workers (flushes ++ flush ∷ [])
all_last rules log workers flushes flush each last =
    let more : List FlushRecord = flushes ++ flush ∷ [] in
    let l = length-append flushes (flush ∷ []) in
    each_push (λ k x. Fits rules log (suc k == length more) (segments_at k 1 workers more) x) 0 (length flushes) flushes flush (omega arith)
    (each_change (λ k x. Fits rules log false (segments_at k 1 workers flushes) x) (λ k x. Fits rules log (suc k == length more) (segments_at k 1 workers more) x)
    0 (length flushes) flushes (omega arith)
    (λ k x below fits. subst (λ (b : Bool). Fits rules log b (segments_at k 1 workers more) x) (sym (number_apart (suc k) (length more) (λ same. omega (arith, l, below, same))))
    (subst (λ (p : List (List (ℕ × ℕ))). Fits rules log false p x) (sym (at_before k 1 workers flushes flush below)) fits)) each)
    (subst (λ (b : Bool). Fits rules log b (segments_at (length flushes) 1 workers more) flush) (sym (number_same (suc (length flushes)) (length more) (omega (arith, l))))
    (subst (λ (p : List (List (ℕ × ℕ))). Fits rules log true p flush) (sym (at_last (length flushes) 1 workers flushes flush refl)) last))
