-- Operands, one by one and as a list of texts.
use Rattle.std.proofs.Common.{◌≡◌, ◌≤◌, ℕ, Bool, List, [], ◌∷◌, length, map, refl, sym, ap, ◌∙◌, arith}
use Rattle.std.specs.List.{list_all, filter_map, cons_option}
use Rattle.std.proofs.lemmas.List.{length-map}
use Rattle.std.proofs.lemmas.List.Folds.{list_all-map}
use Rattle.std.proofs.lemmas.Bool.{le-leb}
use Rattle.command_words.specs.Command.{value_in, are_some}

-- 1 to `most` words that pass the test
pub are_some_of : {X : Type 0} (f : X → List ℕ) (test : List ℕ → Bool) (most : ℕ) (xs : List X) (passes : Bool) → 1 ≤ length xs → length xs ≤ most
    → passes ≡ list_all (λ x. test (f x)) xs → passes ≡ are_some test most (map f xs)
are_some_of f test most xs passes some few is =
    let long : length (map f xs) ≡ length xs = length-map xs f in
    rw (le-leb 1 (length (map f xs)) (omega (arith, some, long)), le-leb (length (map f xs)) most (omega (arith, few, long)))
    (is ∙ sym (list_all-map test f xs))

-- the values that words say
pub values_of : {X : Type 0} (f : X → List ℕ) (xs : List X) → filter_map (λ x. value_in (f x)) xs ≡ filter_map value_in (map f xs)
values_of f [] = refl
values_of f (x ∷ xs) = ap (cons_option (value_in (f x))) (values_of f xs)
