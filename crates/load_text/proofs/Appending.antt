-- Texts behind one another.
use Rattle.std.proofs.Common.{◌≡◌, ◌++◌, ◌∙◌, ℕ, List, ap, append_assoc}

pub two : (t a b x y : List ℕ) → x ≡ t ++ a → y ≡ x ++ b → y ≡ t ++ (a ++ b)
two t a b x y first second = second ∙ ap (λ l. l ++ b) first ∙ append_assoc t a b

pub three : (t a b c x y z : List ℕ) → x ≡ t ++ a → y ≡ x ++ b → z ≡ y ++ c → z ≡ t ++ (a ++ (b ++ c))
three t a b c x y z first second third = two t a (b ++ c) x z first (two x b c y z second third)
