-- Tokens of new cells, with which nothing was taken.
use Rattle.std.proofs.Common.{◌≡◌, ◌≤◌, List, [], ◌∷◌, length, All, ap, arith}
use Rattle.std.proofs.lemmas.List.Elements.{All-nil, All-cons, All-head, All-tail}
use Rattle.seat_parts.specs.Parts.{total}
use Rattle.merge_round.specs.Halves.{HalfState}
use Rattle.flush_cells.specs.declared.tokens.TheConstants.{MAX_CELLS}
use Rattle.flush_cells.specs.declared.tokens.FlushCell.{FlushCell}
use Rattle.flush_cells.specs.declared.tokens.FlushCell.TheVariants.{Idle, Waiting, Holding}
use Rattle.flush_cells.specs.Cells.{held_weight, taken_weight, count_in, IsCellKept, AreKept}
use Rattle.flusher.specs.Flusher.{IsNewToken}

nothing_held : (c : FlushCell) → IsNewToken c → (held_weight c ≡ 0) × (taken_weight c ≡ 0)
nothing_held (Idle f) new = ((let h : 0 ≡ 0 = omega arith in h), ap (λ (l : List HalfState). total count_in l) new)
nothing_held (Waiting f) new = absurd new
nothing_held (Holding half f) new = absurd new

each_kept : (cs : List FlushCell) → All IsNewToken cs → All IsCellKept cs
each_kept [] all = All-nil IsCellKept
each_kept (c ∷ cs) all =
    let none = nothing_held c (All-head IsNewToken c cs all) in
    All-cons IsCellKept c cs (let a = none.0 in let b = none.1 in (omega (arith, a, b), omega (arith, b))) (each_kept cs (All-tail IsNewToken c cs all))

none_held : (cs : List FlushCell) → All IsNewToken cs → total held_weight cs ≡ 0
none_held [] all = omega arith
none_held (c ∷ cs) all =
    let none = (nothing_held c (All-head IsNewToken c cs all)).0 in let rest = none_held cs (All-tail IsNewToken c cs all) in omega (arith, none, rest)

pub tokens_kept : (cs : List FlushCell) → All IsNewToken cs → length cs ≤ MAX_CELLS → AreKept 0 cs
tokens_kept cs all few = record { few = few; each = each_kept cs all; merged = (let none = none_held cs all in omega (arith, none)) }
