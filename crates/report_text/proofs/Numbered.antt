-- Members with their numbers from 1.
use Rattle.std.proofs.Common.{◌≡◌, ℕ, ◌+◌, ◌<◌, ◌≤◌, List, length, get_or, sym, subst, ◌∙◌, arith}
use Rattle.std.specs.List.{enumerate_from}
use Rattle.std.proofs.lemmas.List.FromFn.{get_or-enumerate_from, length-enumerate_from}

pub numbered_within : {X : Type 0} (xs : List X) (i : ℕ) → i < length xs → i < length (enumerate_from 1 xs)
numbered_within xs i within = subst (λ n. i < n) (sym (length-enumerate_from 1 xs)) within

pub numbered_past : {X : Type 0} (xs : List X) (i : ℕ) → length xs ≤ i → length (enumerate_from 1 xs) ≤ i
numbered_past xs i past = subst (λ n. n ≤ i) (sym (length-enumerate_from 1 xs)) past

pub numbered_at : {X : Type 0} (xs : List X) (i : ℕ) (x : X) → i < length xs → x ≡ get_or xs i x
    → (i + 1, x) ≡ get_or (enumerate_from 1 xs) i (i + 1, x)
numbered_at xs i x within is =
    let count : i + 1 ≡ 1 + i = omega arith in
    (λ k. (count k, is k)) ∙ sym (get_or-enumerate_from 1 xs i (i + 1, x) within)
