-- What workers left, sorted one by one.
use Rattle.std.proofs.Common.{◌≡◌, ◌≤◌, ℕ, List, [], ◌∷◌, ◌++◌, map, length, refl, ap, sym, ◌∙◌, arith, append-nil, append_assoc}
use Rattle.std.proofs.lemmas.List.{length-append, map-append}
use Rattle.merge_round.specs.Halves.{HalfState}
use Rattle.turn_cell.specs.declared.cell.TurnCell.{TurnCell}
use Rattle.cells_end.specs.declared.end.CellEnd.{CellEnd}
use Rattle.recorder.specs.declared.ended.Ended.{Ended}
use Rattle.store_closing.specs.declared.sorted.Sorted.{Sorted}
use Rattle.store_closing.specs.Sorting.{HasRoomFor, Puts, Sorts, end_of, ends_of}

pub fewer_room : (n m : ℕ) (s : Sorted) → m ≤ n → HasRoomFor n s → HasRoomFor m s
fewer_room n m s few is = record {
  seats = (let a = is.seats in omega (arith, a, few));
  counts = (let a = is.counts in omega (arith, a, few));
  gauges = (let a = is.gauges in omega (arith, a, few));
  ends = (let a = is.ends in omega (arith, a, few));
}

ends_push : (cells : List (TurnCell HalfState)) (ended : List Ended) (cell : TurnCell HalfState) (e : Ended) → length cells ≡ length ended
    → ends_of (cells ++ cell ∷ []) (ended ++ e ∷ []) ≡ ends_of cells ended ++ end_of cell e ∷ []
ends_push [] [] cell e same = refl
ends_push (c ∷ cells) (d ∷ ended) cell e same = ap (λ (l : List CellEnd). end_of c d ∷ l) (ends_push cells ended cell e (omega (arith, same)))
ends_push [] (d ∷ ended) cell e same = absurd (omega (arith, same))
ends_push (c ∷ cells) [] cell e same = absurd (omega (arith, same))

behind : {X : Type 0} (new mid old done done' : List X) (x : X) → new ≡ mid ++ x ∷ [] → mid ≡ old ++ done → done' ≡ done ++ x ∷ [] → new ≡ old ++ done'
behind new mid old done done' x e f g = e ∙ (ap (λ (l : List _). l ++ x ∷ []) f ∙ (append_assoc old done (x ∷ []) ∙ ap (λ (l : List _). old ++ l) (sym g)))

-- one worker more
pub sorts_more : (cells : List (TurnCell HalfState)) (ended : List Ended) (cell : TurnCell HalfState) (e : Ended) (old mid new : Sorted) → length cells ≡ length ended
    → Sorts cells ended old mid → Puts cell e mid new → Sorts (cells ++ cell ∷ []) (ended ++ e ∷ []) old new
sorts_more cells ended cell e old mid new same is puts = record {
  seats = behind new.seats.items mid.seats.items old.seats.items (map (λ (x : Ended). x.seat) ended) (map (λ (x : Ended). x.seat) (ended ++ e ∷ [])) e.seat puts.seats is.seats (map-append (λ (x : Ended). x.seat) ended (e ∷ []));
  counts = behind new.counts.items mid.counts.items old.counts.items (map (λ (x : Ended). x.counts) ended) (map (λ (x : Ended). x.counts) (ended ++ e ∷ [])) e.counts puts.counts is.counts (map-append (λ (x : Ended). x.counts) ended (e ∷ []));
  gauges = behind new.gauges.items mid.gauges.items old.gauges.items (map (λ (x : Ended). x.gauges) ended) (map (λ (x : Ended). x.gauges) (ended ++ e ∷ [])) e.gauges puts.gauges is.gauges (map-append (λ (x : Ended). x.gauges) ended (e ∷ []));
  ends = behind new.ends.items mid.ends.items old.ends.items (ends_of cells ended) (ends_of (cells ++ cell ∷ []) (ended ++ e ∷ [])) (end_of cell e) puts.ends is.ends (ends_push cells ended cell e same);
}

-- nothing was sorted yet
pub sorts_none : (s : Sorted) → Sorts [] [] s s
sorts_none s = record { seats = sym (append-nil s.seats.items); counts = sym (append-nil s.counts.items); gauges = sym (append-nil s.gauges.items); ends = sym (append-nil s.ends.items) }

-- there is a cell for each worker
pub cell_for_each : (cells taken : List (TurnCell HalfState)) (ended done rest : List Ended) (e : Ended) → length cells ≡ length ended → cells ≡ taken ++ [] → ended ≡ done ++ e ∷ rest → length taken ≡ length done → ⊥
cell_for_each cells taken ended done rest e same all whole at =
    let a = ap (λ (l : List (TurnCell HalfState)). length l) all in
    let b = length-append taken [] in
    let c = ap (λ (l : List Ended). length l) whole in
    let d = length-append done (e ∷ rest) in
    absurd (omega (arith, a, b, c, d, same, at))
