-- Facts of each member of a list, numbered or not, and of the last one.
use Rattle.std.proofs.Common.{◌≡◌, ◌≤◌, ℕ, zero, suc, Bool, List, [], ◌∷◌, ◌++◌, map, sym, subst, arith}
use Rattle.std.specs.Prelude.{filter}
use Rattle.std.specs.List.{AllByRecursion}
use Rattle.std.proofs.lemmas.List.Elements.{All-filter, All-from_recursion, recursion_from_All}
use Rattle.book_state.specs.Step.{change_at}
use Rattle.ledger.specs.Lists.{EachNumbered, OfLast}
use Rattle.ledger.proofs.Lists.{nil_cons, head_same, tail_same}

pub each_both : {X : Type 0} (P Q : ℕ → X → Type 0) (n : ℕ) (xs : List X) → EachNumbered P n xs → EachNumbered Q n xs → EachNumbered (λ k x. P k x × Q k x) n xs
each_both P Q n [] ps qs = tt
each_both P Q n (x ∷ xs) ps qs = ((ps.0, qs.0), each_both P Q (suc n) xs ps.1 qs.1)

pub each_as : {X : Type 0} (P Q : ℕ → X → Type 0) (n : ℕ) (xs : List X) → ((k : ℕ) (x : X) → n ≤ k → P k x → Q k x) → EachNumbered P n xs → EachNumbered Q n xs
each_as P Q n [] f ps = tt
each_as P Q n (x ∷ xs) f ps = (f n x (omega arith) ps.0, each_as P Q (suc n) xs (λ k y above. f k y (omega (arith, above))) ps.1)

pub each_mapped : {X Y : Type 0} (f : X → Y) (P : ℕ → Y → Type 0) (n : ℕ) (xs : List X) → EachNumbered (λ k x. P k (f x)) n xs → EachNumbered P n (map f xs)
each_mapped f P n [] ps = tt
each_mapped f P n (x ∷ xs) ps = (ps.0, each_mapped f P (suc n) xs ps.1)

pub each_of : {X : Type 0} (P : ℕ → X → Type 0) (Q : X → Type 0) (n : ℕ) (xs : List X) → ((k : ℕ) (x : X) → P k x → Q x) → EachNumbered P n xs → AllByRecursion Q xs
each_of P Q n [] f ps = tt
each_of P Q n (x ∷ xs) f ps = (f n x ps.0, each_of P Q (suc n) xs f ps.1)

pub each_last : {X : Type 0} (P : ℕ → X → Type 0) (n : ℕ) (xs : List X) (x : X) → EachNumbered P n (xs ++ x ∷ []) → (k : ℕ) × P k x
each_last P n [] x each = (n, each.0)
each_last P n (y ∷ xs) x each = each_last P (suc n) xs x each.1

pub all_as : {X : Type 0} (P Q : X → Type 0) (xs : List X) → ((x : X) → P x → Q x) → AllByRecursion P xs → AllByRecursion Q xs
all_as P Q [] f ps = tt
all_as P Q (x ∷ xs) f ps = (f x ps.0, all_as P Q xs f ps.1)

pub all_any : {X : Type 0} (P : X → Type 0) (xs : List X) → ((x : X) → P x) → AllByRecursion P xs
all_any P [] f = tt
all_any P (x ∷ xs) f = (f x, all_any P xs f)

pub all_both : {X : Type 0} (P Q : X → Type 0) (xs : List X) → AllByRecursion P xs → AllByRecursion Q xs → AllByRecursion (λ x. P x × Q x) xs
all_both P Q [] ps qs = tt
all_both P Q (x ∷ xs) ps qs = ((ps.0, qs.0), all_both P Q xs ps.1 qs.1)

pub all_mapped : {X Y : Type 0} (f : X → Y) (P : Y → Type 0) (xs : List X) → AllByRecursion (λ x. P (f x)) xs → AllByRecursion P (map f xs)
all_mapped f P [] ps = tt
all_mapped f P (x ∷ xs) ps = (ps.0, all_mapped f P xs ps.1)

pub all_under : {X Y : Type 0} (f : X → Y) (P : Y → Type 0) (xs : List X) (ys : List Y) → map f xs ≡ ys → AllByRecursion P ys → AllByRecursion (λ x. P (f x)) xs
all_under f P [] ys e ps = tt
all_under f P (x ∷ xs) [] e ps = absurd (nil_cons (f x) (map f xs) (sym e))
all_under f P (x ∷ xs) (y ∷ ys) e ps = (
  subst P (sym (head_same (f x) y (map f xs) ys e)) ps.0,
  all_under f P xs ys (tail_same (f x) y (map f xs) ys e) ps.1,
)

pub all_parts : {X : Type 0} (P : X → Type 0) (xs ys : List X) → AllByRecursion P (xs ++ ys) → AllByRecursion P xs × AllByRecursion P ys
all_parts P [] ys ps = (tt, ps)
all_parts P (x ∷ xs) ys ps = let rest = all_parts P xs ys ps.1 in ((ps.0, rest.0), rest.1)

pub all_pushed : {X : Type 0} (P : X → Type 0) (xs : List X) (x : X) → AllByRecursion P xs → P x → AllByRecursion P (xs ++ x ∷ [])
all_pushed P [] x ps p = (p, tt)
all_pushed P (y ∷ xs) x ps p = (ps.0, all_pushed P xs x ps.1 p)

pub all_changed : {X : Type 0} (P : X → Type 0) (f : X → X) (i : ℕ) (xs : List X) → ((x : X) → P x → P (f x)) → AllByRecursion P xs → AllByRecursion P (change_at f i xs)
all_changed P f i [] keeps all = tt
all_changed P f zero (x ∷ xs) keeps all = (keeps x all.0, all.1)
all_changed P f (suc i) (x ∷ xs) keeps all = (all.0, all_changed P f i xs keeps all.1)

pub all_filtered : {X : Type 0} (P : X → Type 0) (p : X → Bool) (xs : List X) → AllByRecursion P xs → AllByRecursion P (filter p xs)
all_filtered P p xs all = recursion_from_All P (filter p xs) (All-filter p P xs (All-from_recursion P xs all))

pub of_last : {X : Type 0} (P : X → Type 0) (xs : List X) (x : X) → P x → OfLast P (xs ++ x ∷ [])
of_last P [] x p = p
of_last P (y ∷ []) x p = p
of_last P (y ∷ (z ∷ xs)) x p = of_last P (z ∷ xs) x p
