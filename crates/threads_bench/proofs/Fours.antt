-- What holds of each member of a list of four.
use Rattle.std.proofs.Common.{◌≡◌, List, [], ◌∷◌, All, subst}
use Rattle.std.proofs.lemmas.List.Elements.{All-head, All-tail}

pub each-of-four : {X : Type 0} (P : X → Type 0) (xs : List X) (a b c d : X) → All P xs → xs ≡ a ∷ b ∷ c ∷ d ∷ [] → P a × P b × P c × P d
each-of-four P xs a b c d all is =
    let from-a = subst (All P) is all in
    let from-b = All-tail P a (b ∷ c ∷ d ∷ []) from-a in
    let from-c = All-tail P b (c ∷ d ∷ []) from-b in
    let from-d = All-tail P c (d ∷ []) from-c in
    (All-head P a (b ∷ c ∷ d ∷ []) from-a, All-head P b (c ∷ d ∷ []) from-b, All-head P c (d ∷ []) from-c, All-head P d [] from-d)
