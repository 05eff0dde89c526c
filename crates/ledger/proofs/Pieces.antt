-- Segments that grow at the end.
use Rattle.std.proofs.Common.{◌≡◌, ℕ, suc, ◌+◌, ◌≤◌, List, [], ◌∷◌, ◌++◌, map, length, take, drop, refl, ap, sym, ◌∙◌, arith, append_assoc}
use Rattle.std.specs.Prelude.{sum_by, option_to_list}
use Rattle.std.specs.List.{flat_map}
use Rattle.std.proofs.lemmas.List.{take-append-le, drop-append-le, drop-drop, take-append-drop, length-drop, length-append}
use Rattle.std.proofs.lemmas.List.Sums.{sum_by-cons}
use Rattle.stat_defs.specs.declared.events.Event.{Event}
use Rattle.stat_defs.specs.declared.history.Verdict.{Verdict}
use Rattle.stat_defs.specs.declared.reports.FlushRecord.{FlushRecord}
use Rattle.ledger.specs.Work.{Work, recording_in, recordings}
use Rattle.ledger.specs.Segments.{taken_from, pieces, segments, left_over, TakesLess}
use Rattle.ledger.proofs.Words.{one_option}

module _ {Y X : Type 0} (f : Y → ℕ) where
  pieces_push : (ys : List Y) (y : Y) (xs : List X) → pieces (map f (ys ++ y ∷ [])) xs ≡ pieces (map f ys) xs ++ take (f y) (drop (sum_by f ys) xs) ∷ []
  pieces_push [] y xs = refl
  pieces_push (z ∷ ys) y xs =
      ap (λ (l : List (List X)). take (f z) xs ∷ l) (
      pieces_push ys y (drop (f z) xs)
      ∙ ap (λ (l : List X). pieces (map f ys) (drop (f z) xs) ++ take (f y) l ∷ []) (drop-drop (sum_by f ys) (f z) xs ∙ ap (λ (k : ℕ). drop k xs) (sym (sum_by-cons f z ys))))

  pieces_more : (ys : List Y) (xs more : List X) → sum_by f ys ≤ length xs → pieces (map f ys) (xs ++ more) ≡ pieces (map f ys) xs
  pieces_more [] xs more within = refl
  pieces_more (z ∷ ys) xs more within =
      let c = sum_by-cons f z ys in
      let here : f z ≤ length xs = omega (arith, c, within) in
      let l = length-drop (f z) xs in
      ap (λ (p : List X). p ∷ pieces (map f ys) (drop (f z) (xs ++ more))) (take-append-le (f z) xs more here)
      ∙ ap (λ (p : List (List X)). take (f z) xs ∷ p) (
      ap (λ (p : List X). pieces (map f ys) p) (drop-append-le (f z) xs more here)
      ∙ pieces_more ys (drop (f z) xs) more (omega (arith, c, within, l)))

  pieces_whole : (ys : List Y) (xs : List X) → flat_map (λ piece. piece) (pieces (map f ys) xs) ++ drop (sum_by f ys) xs ≡ xs
  pieces_whole [] xs = refl
  pieces_whole (z ∷ ys) xs =
      append_assoc (take (f z) xs) (flat_map (λ piece. piece) (pieces (map f ys) (drop (f z) xs))) (drop (sum_by f (z ∷ ys)) xs)
      ∙ ap (λ (l : List X). take (f z) xs ++ l) (
      ap (λ (l : List X). flat_map (λ piece. piece) (pieces (map f ys) (drop (f z) xs)) ++ l)
      (ap (λ (k : ℕ). drop k xs) (sum_by-cons f z ys) ∙ sym (drop-drop (sum_by f ys) (f z) xs))
      ∙ pieces_whole ys (drop (f z) xs))
      ∙ take-append-drop (f z) xs

  pub length-pieces : (ys : List Y) (xs : List X) → length (pieces (map f ys) xs) ≡ length ys
  length-pieces [] xs = refl
  length-pieces (z ∷ ys) xs = ap suc (length-pieces ys (drop (f z) xs))

pub segments_event : (w : ℕ) (work : Work) (told : Event × Verdict) (flushes : List FlushRecord) → TakesLess w work flushes
    → segments w (work ++ told ∷ []) flushes ≡ segments w work flushes
segments_event w work told flushes less =
    ap (λ (l : List (ℕ × ℕ)). pieces (map (taken_from w) flushes) l) (one_option recording_in work told)
    ∙ pieces_more (taken_from w) flushes (recordings work) (option_to_list (recording_in told)) less

pub left_event : (w : ℕ) (work : Work) (told : Event × Verdict) (flushes : List FlushRecord) → TakesLess w work flushes
    → left_over w (work ++ told ∷ []) flushes ≡ left_over w work flushes ++ option_to_list (recording_in told)
left_event w work told flushes less =
    ap (λ (l : List (ℕ × ℕ)). drop (sum_by (taken_from w) flushes) l) (one_option recording_in work told)
    ∙ drop-append-le (sum_by (taken_from w) flushes) (recordings work) (option_to_list (recording_in told)) less

pub less_event : (w : ℕ) (work : Work) (told : Event × Verdict) (flushes : List FlushRecord) → TakesLess w work flushes → TakesLess w (work ++ told ∷ []) flushes
less_event w work told flushes less =
    let longer : length (recordings (work ++ told ∷ [])) ≡ length (recordings work) + length (option_to_list (recording_in told)) =
    ap (λ (l : List (ℕ × ℕ)). length l) (one_option recording_in work told) ∙ length-append (recordings work) (option_to_list (recording_in told)) in
    omega (arith, less, longer)

pub segments_flush : (w : ℕ) (work : Work) (flushes : List FlushRecord) (flush : FlushRecord)
    → segments w work (flushes ++ flush ∷ []) ≡ segments w work flushes ++ take (taken_from w flush) (left_over w work flushes) ∷ []
segments_flush w work flushes flush = pieces_push (taken_from w) flushes flush (recordings work)

pub segments_whole : (w : ℕ) (work : Work) (flushes : List FlushRecord)
    → flat_map (λ segment. segment) (segments w work flushes) ++ left_over w work flushes ≡ recordings work
segments_whole w work flushes = pieces_whole (taken_from w) flushes (recordings work)
