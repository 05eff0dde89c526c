-- Lists that grow at their end.
use Rattle.std.proofs.Common.{◌≡◌, ℕ, ◌+◌, List, [], ◌∷◌, ◌++◌, map, length, ap, sym, ◌∙◌, append_assoc, arith}
use Rattle.std.proofs.lemmas.List.{map-append}

-- what is seen of a member more
pub map_more : {X Y : Type 0} (f : X → Y) (xs new : List X) (x : X) (ys : List Y) → new ≡ xs ++ x ∷ [] → map f xs ≡ ys
    → map f new ≡ ys ++ f x ∷ []
map_more f xs new x ys is before =
    ap (map f) is ∙ (map-append f xs (x ∷ []) ∙ ap (λ (l : List _). l ++ f x ∷ []) before)

-- what was at the head of those that wait is now at the end of those that are done
pub queue_moves : {X Y : Type 0} (f : X → Y) (xs new : List X) (x : X) (all waiting left : List Y)
    → new ≡ xs ++ x ∷ [] → waiting ≡ f x ∷ left → map f xs ++ waiting ≡ all → map f new ++ left ≡ all
queue_moves {X} {Y} f xs new x all waiting left is head before =
    ap (λ (l : List X). map f l ++ left) is
    ∙ (ap (λ (l : List Y). l ++ left) (map-append f xs (x ∷ []))
    ∙ (append_assoc (map f xs) (f x ∷ []) left
    ∙ (ap (λ (l : List Y). map f xs ++ l) (sym head) ∙ before)))

pub queue_count : {X Y : Type 0} (f : X → Y) (xs : List X) (all waiting : List Y) → map f xs ++ waiting ≡ all
    → length all ≡ length xs + length waiting
queue_count {X} {Y} f xs all waiting is = sym (ap length is) ∙ counted xs where
  counted : (xs : List X) → length (map f xs ++ waiting) ≡ length xs + length waiting
  counted [] = omega arith
  counted (x ∷ xs) = omega (arith, counted xs)
