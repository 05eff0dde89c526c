-- A part of a part of a list.
use Rattle.std.proofs.Common.{◌≡◌, ◌≤◌, ◌+◌, ◌-◌, ℕ, List, take, drop, slice_range, sym, ap, ◌∙◌, arith}
use Rattle.std.proofs.lemmas.List.{drop-drop, drop-take, take-take}

pub range-in-range : (xs : List ℕ) (a b from to : ℕ) → from ≤ to → a + to ≤ b
    → slice_range xs (a + from) (a + to) ≡ slice_range (slice_range xs a b) from to
range-in-range xs a b from to rising within =
    ap (λ n. take n (drop (a + from) xs)) {x = (a + to) - (a + from)} {y = to - from} (omega arith)
    ∙ ap (take (to - from)) (sym (drop-drop from a xs))
    ∙ sym (take-take (to - from) ((b - a) - from) (drop from (drop a xs)) (omega arith))
    ∙ ap (take (to - from)) (sym (drop-take from ((b - a) - from) (drop a xs)))
    ∙ ap (λ n. take (to - from) (drop from (take n (drop a xs)))) {x = from + ((b - a) - from)} {y = b - a} (omega arith)
