-- How printed names compare, byte by byte.
use Rattle.std.proofs.Common.{◌≡◌, ℕ, suc, ◌+◌, ◌-◌, ◌<◌, ◌≤◌, List, [], ◌∷◌, length, get_or, drop, map, refl, ap, ◌∙◌, add-one, min, length-drop, arith}
use Rattle.std.proofs.lemmas.List.{length-map}
use Rattle.std.specs.Cmp.{nat_cmp_is}
use Rattle.std.specs.declared.cmp.Ordering.TheVariants.{Less, Greater}
use Rattle.std.proofs.lemmas.Bool.Decides.{nat_tests}
use Rattle.std.proofs.Math.Seq.{drop-cons}
use Rattle.std.specs.Ordering.{nat_cmp, ordering_then}
use Rattle.std.specs.Cmp.Lexicographic.{slice_cmp}

-- the bytes at one place decide, or else those behind them
pub compared_at : (f : ℕ → ℕ) (i : ℕ) (a b : List ℕ) → i < length a → i < length b
    → slice_cmp nat_cmp (map f (drop i a)) (map f (drop i b))
    ≡ ordering_then (nat_cmp (f (get_or a i 0)) (f (get_or b i 0))) (slice_cmp nat_cmp (map f (drop (i + 1) a)) (map f (drop (i + 1) b)))
compared_at f i a b h k = rw (add-one, drop-cons a i 0 h, drop-cons b i 0 k)

-- where one of them is empty, their lengths decide
one_is_empty : (xs ys : List ℕ) → min (length xs) (length ys) ≡ 0 → slice_cmp nat_cmp xs ys ≡ nat_cmp (length xs) (length ys)
one_is_empty [] [] h = refl
one_is_empty [] (y ∷ ys) h = nat_cmp_is 0 (suc (length ys)) Less (omega arith)
one_is_empty (x ∷ xs) [] h = nat_cmp_is (suc (length xs)) 0 Greater (omega arith)
one_is_empty (x ∷ xs) (y ∷ ys) h = absurd (omega arith)

-- two numbers compare as they do less the same one
less_one : (x y n : ℕ) → n ≤ x → n ≤ y → nat_cmp (x - n) (y - n) ≡ nat_cmp x y
less_one x y n h k = grind (arith, nat_tests)

-- where no byte of one of them is left, their lengths decide
pub compared_ends : (f : ℕ → ℕ) (n : ℕ) (a b : List ℕ) → n ≡ min (length a) (length b)
    → slice_cmp nat_cmp (map f (drop n a)) (map f (drop n b)) ≡ nat_cmp (length a) (length b)
compared_ends f n a b h =
    let x : length (map f (drop n a)) ≡ length a - n = length-map (drop n a) f ∙ length-drop n a in
    let y : length (map f (drop n b)) ≡ length b - n = length-map (drop n b) f ∙ length-drop n b in
    one_is_empty (map f (drop n a)) (map f (drop n b)) (omega arith) ∙ ap (λ k. nat_cmp k (length (map f (drop n b)))) x
    ∙ ap (λ k. nat_cmp (length a - n) k) y ∙ less_one (length a) (length b) n (omega arith) (omega arith)
