-- Halves that are merged, and cells that end, one after the other.
use Rattle.std.proofs.Common.{◌≡◌, ℕ, suc, ◌+◌, ◌*◌, ◌≤◌, Result, Ok, Err, OnOk, List, [], ◌∷◌, ◌++◌, length, length-append, append_assoc, append-nil, refl, ap, ◌∙◌, subst, arith}
use Rattle.std.proofs.lemmas.List.{nil_from_length}
use Rattle.seat_parts.specs.Parts.{total}
use Rattle.seat_parts.proofs.Sums.{total-append}
use Rattle.stat_defs.specs.declared.memory.NoMemory.{NoMemory}
use Rattle.merge_round.specs.Halves.{HalfState}
use Rattle.merge_round.specs.Rounds.{ParentsState, with_half}
use Rattle.turn_cell.specs.declared.limits.TheConstants.{MAX_TURNED}
use Rattle.flush_cells.specs.declared.tokens.FlushCell.{FlushCell}
use Rattle.flush_cells.specs.declared.tokens.FlushCell.TheVariants.{Idle, Waiting, Holding}
use Rattle.flush_cells.specs.Cells.{count_in, merged_count, held_weight, IsCellKept, AreKept, most_merged}
use Rattle.flush_cells.proofs.CellLemmas.{merged_more}
use Rattle.flush_cells.proofs.ListLemmas.{most_taken}
use Rattle.cells_end.specs.declared.end.CellEnd.{CellEnd}
use Rattle.cells_end.specs.Ends.{held_half, with_halves, most_left, IsEnd, AreEnds, EndsOne, EndsEach}

-- some halves, and then some more
pub with_both : (worker : ℕ) (halves more : List HalfState) (p : ParentsState) → with_halves worker (halves ++ more) p ≡ with_halves worker more (with_halves worker halves p)
with_both worker [] more p = refl
with_both worker (half ∷ halves) more p = with_both worker halves more (with_half worker half p)

-- so many values more
pub halves_more : (worker : ℕ) (halves : List HalfState) (p : ParentsState) → merged_count (with_halves worker halves p) ≡ merged_count p + total count_in halves
halves_more worker [] p = search arith
halves_more worker (half ∷ halves) p = let one = merged_more worker half p in let rest = halves_more worker halves (with_half worker half p) in omega (arith, one, rest)

pub held_total : (c : FlushCell) → total count_in (held_half c) ≡ held_weight c
held_total (Idle f) = refl
held_total (Waiting f) = refl
held_total (Holding half f) = search arith

-- one cell more
pub ends_more : (w : ℕ) (p m q : ParentsState) (tokens : List FlushCell) (ends : List CellEnd) (token : FlushCell) (end : CellEnd) → EndsEach w tokens ends p m → EndsOne (w + length ends) token end m q
    → EndsEach w (tokens ++ token ∷ []) (ends ++ end ∷ []) p q
ends_more w p m q [] [] token end each one = (q, subst (λ (z : ParentsState). EndsOne w token end z q) each (subst (λ (k : ℕ). EndsOne k token end m q) (none w) one), refl) where
  none : (a : ℕ) → a + 0 ≡ a
  none a = search arith
ends_more w p m q (t ∷ tokens) (e ∷ ends) token end each one =
    (each.0, each.1, ends_more (suc w) each.0 m q tokens ends token end each.2 (subst (λ (k : ℕ). EndsOne k token end m q) (move w (length ends)) one)) where
      move : (a b : ℕ) → a + suc b ≡ suc a + b
      move a b = search arith
ends_more w p m q [] (e ∷ ends) token end each one = absurd each
ends_more w p m q (t ∷ tokens) [] token end each one = absurd each

-- room for one worker more
pub room_for : (first now : ℕ) (tokens : List FlushCell) (done : ℕ) → AreKept first tokens → now ≤ first + done * most_left → done ≤ length tokens → now ≤ most_merged
room_for first now tokens done kept so_far at =
    let few = kept.few in let merged = kept.merged in let most = most_taken tokens kept.each in omega (arith, few, merged, most, so_far, at)

-- what is left of one worker is within its bound
pub few_left : (answer : Result (Unit {0}) NoMemory) (worker : ℕ) (c : FlushCell) (all taken rest : List HalfState) (active : HalfState) (p m q : ParentsState) → m ≡ with_halves worker (held_half c) p
    → OnOk answer (q ≡ with_halves worker (rest ++ active ∷ []) m) → IsCellKept c → all ≡ taken ++ rest → total count_in all ≤ MAX_TURNED → length active.values ≤ MAX_TURNED
    → OnOk answer (merged_count q ≤ merged_count p + most_left)
few_left (Ok done) worker c all taken rest active p m q held merged kept whole light few =
    let a = ap merged_count held ∙ halves_more worker (held_half c) p in let b = held_total c in
    let d = ap merged_count merged ∙ halves_more worker (rest ++ active ∷ []) m in let e = total-append count_in rest (active ∷ []) in
    let f = ap (total count_in) whole ∙ total-append count_in taken rest in let k = kept.0 in let l = kept.1 in
    omega (arith, a, b, d, e, f, k, l, light, few)
few_left (Err none) worker c all taken rest active p m q held merged kept whole light few = tt

-- as many tokens as cells
pub same_number : (tokens : List FlushCell) (ends : List CellEnd) → AreEnds tokens ends → length tokens ≡ length ends
same_number [] [] are = refl
same_number (t ∷ tokens) (e ∷ ends) are = ap suc (same_number tokens ends are.1)
same_number [] (e ∷ ends) are = absurd are
same_number (t ∷ tokens) [] are = absurd are

-- behind these there is no cell more where there is no token more
pub none_behind : (tokens taken : List FlushCell) (ends done more : List CellEnd) (end : CellEnd) → AreEnds tokens ends → tokens ≡ taken → ends ≡ (done ++ end ∷ []) ++ more → length taken ≡ length done → ⊥
none_behind tokens taken ends done more end are all whole at =
    let n = same_number tokens ends are in let a = ap length all in let b = ap length whole ∙ length-append (done ++ end ∷ []) more in let d = length-append done (end ∷ []) in
    omega (arith, n, a, b, d, at)

-- the token and the cell at the same place
pub end_here : (tokens taken rest : List FlushCell) (token : FlushCell) (ends done more : List CellEnd) (end : CellEnd) → AreEnds tokens ends → tokens ≡ (taken ++ token ∷ []) ++ rest → ends ≡ (done ++ end ∷ []) ++ more
    → length taken ≡ length done → IsEnd token end
end_here tokens taken rest token ends done more end are all whole at =
    first taken done at (subst (λ (l : List CellEnd). AreEnds (taken ++ token ∷ rest) l) (whole ∙ append_assoc done (end ∷ []) more)
    (subst (λ (l : List FlushCell). AreEnds l ends) (all ∙ append_assoc taken (token ∷ []) rest) are)) where
      first : (taken : List FlushCell) (done : List CellEnd) → length taken ≡ length done → AreEnds (taken ++ token ∷ rest) (done ++ end ∷ more) → IsEnd token end
      first [] [] at are = are.0
      first (t ∷ taken) (e ∷ done) at are = first taken done (omega (arith, at)) are.1
      first [] (e ∷ done) at are = absurd (let a = at in omega (arith, a))
      first (t ∷ taken) [] at are = absurd (let a = at in omega (arith, a))

-- when no cell is left, no token is
pub none_left : (tokens taken rest : List FlushCell) (ends done : List CellEnd) → AreEnds tokens ends → tokens ≡ taken ++ rest → ends ≡ done → length taken ≡ length done → tokens ≡ taken
none_left tokens taken rest ends done are all whole at = all ∙ (ap (λ (l : List FlushCell). taken ++ l) (nil_from_length rest
    (let n = same_number tokens ends are in let a = ap length all ∙ length-append taken rest in let b = ap length whole in omega (arith, n, a, b, at))) ∙ append-nil taken)

-- the number of those that are taken is within that of all
pub within : (tokens taken rest : List FlushCell) (done : List CellEnd) → tokens ≡ taken ++ rest → length taken ≡ length done → length done ≤ length tokens
within tokens taken rest done all at = let a = ap length all ∙ length-append taken rest in omega (arith, a, at)

-- one worker more has at most so many values
pub more_left : (first old new : ℕ) (done : List CellEnd) (end : CellEnd) → old ≤ first + length done * most_left → new ≤ old + most_left → new ≤ first + length (done ++ end ∷ []) * most_left
more_left first old new done end so_far more = let a = length-append done (end ∷ []) in omega (arith, a, so_far, more)
