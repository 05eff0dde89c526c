-- Elements of lists by their places.
use Rattle.std.proofs.Common.{◌≡◌, ◌≢◌, ℕ, zero, suc, ◌+◌, ◌<◌, ◌&&◌, Bool, true, false, cond, Option, Some, None, List, [], ◌∷◌, ◌++◌, map, length, slice_get, get_or, set, replicate, All, Result, Ok, Err, OnOk, OnErr, refl, ap, sym, ◌∙◌, subst, arith, inl, inr, ◌⊎◌, add-zero}
use Rattle.std.proofs.lemmas.List.Elements.{All-get_or, All-cons, All-head, All-tail}
use Rattle.std.proofs.lemmas.List.{map-id}
use Rattle.std.proofs.lemmas.List.Sums.{sum_by-cons, sum_by_push}
use Rattle.std.proofs.lemmas.Bool.{cases_lt}
use Rattle.std.specs.Option.{option_map, IsSomeAnd}
use Rattle.std.specs.List.{position_from, count_by}
use Rattle.book_state.specs.Step.{change_at}

pub eq_or : (i j : ℕ) → (i ≡ j) ⊎ (i ≢ j)
eq_or i j = elim (cases_lt i j) [
  | inl below ↦ inr (λ e. omega (arith, below, e))
  | inr above ↦ elim (cases_lt j i) [ inl b ↦ inr (λ e. omega (arith, b, e)) | inr a ↦ inl (omega (arith, above, a)) ]
]

pub not_some : {X : Type 0} (x : X) → None ≡ Some x → ⊥
not_some x e = absurd cc

pub some_same : {X : Type 0} (x y : X) → Some x ≡ Some y → x ≡ y
some_same x y e = cc

pub true_false : true ≡ false → ⊥
true_false e = absurd cc

pub not_true : (t : Bool) → (t ≡ true → ⊥) → t ≡ false
not_true true h = absurd (h refl)
not_true false h = refl

pub both : (a b : Bool) → (a && b) ≡ true → (a ≡ true) × (b ≡ true)
both true b e = (refl, e)
both false b e = absurd (true_false (sym e))

pub get_within : {X : Type 0} (xs : List X) (i : ℕ) (x : X) → slice_get xs i ≡ Some x → i < length xs
get_within [] i x e = absurd (not_some x e)
get_within (y ∷ xs) zero x e = omega arith
get_within (y ∷ xs) (suc i) x e = omega (arith, get_within xs i x e)

pub get_push_last : {X : Type 0} (xs : List X) (x : X) (k : ℕ) → k ≡ length xs → slice_get (xs ++ x ∷ []) k ≡ Some x
get_push_last [] x zero e = refl
get_push_last [] x (suc k) e = absurd (omega (arith, e))
get_push_last (y ∷ xs) x zero e = absurd (omega (arith, e))
get_push_last (y ∷ xs) x (suc k) e = get_push_last xs x k (omega (arith, e))

pub get_push_before : {X : Type 0} (xs : List X) (x : X) (k : ℕ) → k ≢ length xs → slice_get (xs ++ x ∷ []) k ≡ slice_get xs k
get_push_before [] x zero ne = absurd (ne refl)
get_push_before [] x (suc k) ne = refl
get_push_before (y ∷ xs) x zero ne = refl
get_push_before (y ∷ xs) x (suc k) ne = get_push_before xs x k (λ e. ne (ap suc e))

pub get_change_same : {X : Type 0} (f : X → X) (i : ℕ) (xs : List X) → slice_get (change_at f i xs) i ≡ option_map f (slice_get xs i)
get_change_same f i [] = refl
get_change_same f zero (x ∷ xs) = refl
get_change_same f (suc i) (x ∷ xs) = get_change_same f i xs

pub get_change_other : {X : Type 0} (f : X → X) (i : ℕ) (xs : List X) (k : ℕ) → k ≢ i → slice_get (change_at f i xs) k ≡ slice_get xs k
get_change_other f i [] k ne = refl
get_change_other f zero (x ∷ xs) zero ne = absurd (ne refl)
get_change_other f zero (x ∷ xs) (suc k) ne = refl
get_change_other f (suc i) (x ∷ xs) zero ne = refl
get_change_other f (suc i) (x ∷ xs) (suc k) ne = get_change_other f i xs k (λ e. ne (ap suc e))

pub length-change_at : {X : Type 0} (f : X → X) (i : ℕ) (xs : List X) → length (change_at f i xs) ≡ length xs
length-change_at f i [] = refl
length-change_at f zero (x ∷ xs) = refl
length-change_at f (suc i) (x ∷ xs) = ap suc (length-change_at f i xs)

pub map-change_at : {X Y : Type 0} (g : X → Y) (f : X → X) (h : Y → Y) → ((x : X) → g (f x) ≡ h (g x)) → (i : ℕ) (xs : List X) → map g (change_at f i xs) ≡ change_at h i (map g xs)
map-change_at g f h e i [] = refl
map-change_at g f h e zero (x ∷ xs) = ap (λ y. y ∷ map g xs) (e x)
map-change_at g f h e (suc i) (x ∷ xs) = ap (λ ys. g x ∷ ys) (map-change_at g f h e i xs)

-- a write of what a read place is to become
pub map-set_read : {X Y : Type 0} (g : X → Y) (h : Y → Y) (xs : List X) (i : ℕ) (x y : X) → i < length xs → x ≡ get_or xs i x → g y ≡ h (g x) → map g (set xs i y) ≡ change_at h i (map g xs)
map-set_read g h [] i x y within read is = absurd (omega (arith, within))
map-set_read g h (z ∷ xs) zero x y within read is = ap (λ w. w ∷ map g xs) (is ∙ ap (λ v. h (g v)) read)
map-set_read g h (z ∷ xs) (suc i) x y within read is = ap (λ ws. g z ∷ ws) (map-set_read g h xs i x y (omega (arith, within)) read is)

pub set_read : {X : Type 0} (f : X → X) (xs : List X) (i : ℕ) (x y : X) → i < length xs → x ≡ get_or xs i x → y ≡ f x → set xs i y ≡ change_at f i xs
set_read f xs i x y within read is = sym (map-id (set xs i y)) ∙ (map-set_read (λ z. z) f xs i x y within read is ∙ ap (λ l. change_at f i l) (map-id xs))

pub get_read : {X : Type 0} (xs : List X) (i : ℕ) (x : X) → i < length xs → x ≡ get_or xs i x → slice_get xs i ≡ Some x
get_read [] i x within read = absurd (omega (arith, within))
get_read (y ∷ xs) zero x within read = ap Some (sym read)
get_read (y ∷ xs) (suc i) x within read = get_read xs i x (omega (arith, within)) read

pub same_at_all : {X : Type 0} (xs ys : List X) → ((k : ℕ) → slice_get xs k ≡ slice_get ys k) → xs ≡ ys
same_at_all [] [] same = refl
same_at_all [] (y ∷ ys) same = absurd (not_some y (same 0))
same_at_all (x ∷ xs) [] same = absurd (not_some x (sym (same 0)))
same_at_all (x ∷ xs) (y ∷ ys) same = let e : Some x ≡ Some y = same 0 in let rest : xs ≡ ys = same_at_all xs ys (λ k. same (suc k)) in cc

pub get_map : {X Y : Type 0} (f : X → Y) (xs : List X) (k : ℕ) → slice_get (map f xs) k ≡ option_map f (slice_get xs k)
get_map f [] k = refl
get_map f (x ∷ xs) zero = refl
get_map f (x ∷ xs) (suc k) = get_map f xs k

pub map_some : {X Y : Type 0} (f : X → Y) (o : Option X) (y : Y) → option_map f o ≡ Some y → (x : X) × (o ≡ Some x) × (y ≡ f x)
map_some f None y e = absurd (not_some y e)
map_some f (Some x) y e = (x, refl, sym (some_same (f x) y e))

-- the first place at which a test passes
pub position_none : {X : Type 0} (p : X → Bool) (n : ℕ) (xs : List X) → ((i : ℕ) (x : X) → slice_get xs i ≡ Some x → p x ≡ false) → position_from p n xs ≡ None
position_none p n [] none = refl
position_none p n (x ∷ xs) none = rw (none 0 x refl) (position_none p (n + 1) xs (λ i y e. none (suc i) y e))

found_step : {X : Type 0} (p : X → Bool) (n : ℕ) (x : X) (xs : List X) (k : ℕ) (t : Bool) → p x ≡ t → cond t (Some n) (position_from p (n + 1) xs) ≡ Some k
    → (position_from p (n + 1) xs ≡ Some k → (i : ℕ) × (y : X) × (k ≡ n + 1 + i) × (slice_get xs i ≡ Some y) × (p y ≡ true))
    → (i : ℕ) × (y : X) × (k ≡ n + i) × (slice_get (x ∷ xs) i ≡ Some y) × (p y ≡ true)
found_step p n x xs k true t e rest = let eq : n ≡ k = some_same n k e in (0, x, omega (arith, eq), refl, t)
found_step p n x xs k false t e rest = let r = rest e in (suc r.0, r.1, omega (arith, r.2), r.3, r.4)

pub position_found : {X : Type 0} (p : X → Bool) (n : ℕ) (xs : List X) (k : ℕ) → position_from p n xs ≡ Some k → (i : ℕ) × (y : X) × (k ≡ n + i) × (slice_get xs i ≡ Some y) × (p y ≡ true)
position_found p n [] k e = absurd (not_some k e)
position_found p n (x ∷ xs) k e = found_step p n x xs k (p x) refl e (position_found p (n + 1) xs k)

-- a change at a place where the test answers the same
pub position_change : {X : Type 0} (p : X → Bool) (f : X → X) (n i : ℕ) (xs : List X) → ((x : X) → slice_get xs i ≡ Some x → p (f x) ≡ p x) → position_from p n (change_at f i xs) ≡ position_from p n xs
position_change p f n i [] same = refl
position_change p f n zero (x ∷ xs) same = rw (same x refl) refl
position_change p f n (suc i) (x ∷ xs) same = rw (position_change p f (n + 1) i xs same) refl

-- the first of two answers
abbrev pub or_else : Option ℕ → Option ℕ → Option ℕ
or_else (Some i) other = Some i
or_else None other = other

push_step : {X : Type 0} (p : X → Bool) (i : ℕ) (y : X) (xs : List X) (x : X) (b : Bool) → p y ≡ b
    → position_from p (i + 1) (xs ++ x ∷ []) ≡ or_else (position_from p (i + 1) xs) (cond (p x) (Some (i + 1 + length xs)) None)
    → position_from p i (y ∷ (xs ++ x ∷ [])) ≡ or_else (position_from p i (y ∷ xs)) (cond (p x) (Some (i + length (y ∷ xs))) None)
push_step p i y xs x true e h = rw e refl
push_step p i y xs x false e h = let n : i + 1 + length xs ≡ i + length (y ∷ xs) = omega arith in rw (e, h, n) refl

pub position_push : {X : Type 0} (p : X → Bool) (i : ℕ) (xs : List X) (x : X) → position_from p i (xs ++ x ∷ []) ≡ or_else (position_from p i xs) (cond (p x) (Some (i + length xs)) None)
position_push p i [] x = rw add-zero refl
position_push p i (y ∷ xs) x = push_step p i y xs x (p y) refl (position_push p (i + 1) xs x)

pub all_at : {X : Type 0} (P : X → Type 0) (xs : List X) (k : ℕ) (x : X) → All P xs → slice_get xs k ≡ Some x → P x
all_at P xs k x all at = subst P (read xs k x at) (All-get_or P xs k x (get_within xs k x at) all) where
  read : {Y : Type 0} (ys : List Y) (i : ℕ) (y : Y) → slice_get ys i ≡ Some y → get_or ys i y ≡ y
  read [] i y e = absurd (not_some y e)
  read (z ∷ ys) zero y e = some_same z y e
  read (z ∷ ys) (suc i) y e = read ys i y e

pub count_cons : {X : Type 0} (p : X → Bool) (x : X) (xs : List X) → count_by p (x ∷ xs) ≡ cond (p x) 1 0 + count_by p xs
count_cons p x xs = sum_by-cons (λ y. cond (p y) 1 0) x xs

pub count_push : {X : Type 0} (p : X → Bool) (xs : List X) (x : X) → count_by p (xs ++ x ∷ []) ≡ count_by p xs + cond (p x) 1 0
count_push p xs x = sum_by_push (λ y. cond (p y) 1 0) xs x

pub position_map : {X Y : Type 0} (p : Y → Bool) (f : X → Y) (n : ℕ) (xs : List X) → position_from p n (map f xs) ≡ position_from (λ x. p (f x)) n xs
position_map p f n [] = refl
position_map p f n (x ∷ xs) = ap (λ rest. cond (p (f x)) (Some n) rest) (position_map p f (n + 1) xs)

pub all_change : {X : Type 0} (P : X → Type 0) (f : X → X) → ((x : X) → P x → P (f x)) → (i : ℕ) (xs : List X) → All P xs → All P (change_at f i xs)
all_change P f keeps i [] all = all
all_change P f keeps zero (x ∷ xs) all = All-cons P (f x) xs (keeps x (All-head P x xs all)) (All-tail P x xs all)
all_change P f keeps (suc i) (x ∷ xs) all = All-cons P x (change_at f i xs) (All-head P x xs all) (all_change P f keeps i xs (All-tail P x xs all))

pub some_at : {X : Type 0} (P : X → Type 0) (o : Option X) (x : X) → o ≡ Some x → IsSomeAnd o P → P x
some_at {X = X} P o x is some = subst (λ (p : Option X). IsSomeAnd p P) is some

pub map-replicate : {X Y : Type 0} (f : X → Y) (n : ℕ) (x : X) → map f (replicate n x) ≡ replicate n (f x)
map-replicate f zero x = refl
map-replicate f (suc n) x = ap (λ l. f x ∷ l) (map-replicate f n x)

-- a change that changes nothing
pub change_same : {X : Type 0} (f : X → X) → ((x : X) → f x ≡ x) → (i : ℕ) (xs : List X) → change_at f i xs ≡ xs
change_same f same i [] = refl
change_same f same zero (x ∷ xs) = ap (λ y. y ∷ xs) (same x)
change_same f same (suc i) (x ∷ xs) = ap (λ ys. x ∷ ys) (change_same f same i xs)

-- a fact whatever the answer is
pub on_ok : {A E : Type 0} (r : Result A E) (P : Type 0) → P → OnOk r P
on_ok (Ok x) P h = h
on_ok (Err e) P h = tt

-- a fact that either answer gives
pub by_answer : {A E : Type 0} (r : Result A E) (P Q R : Type 0) → OnOk r P → OnErr r Q → (P → R) → (Q → R) → R
by_answer (Ok x) P Q R ok err left right = left ok
by_answer (Err e) P Q R ok err left right = right err

pub within_some : {X : Type 0} (xs : List X) (i : ℕ) (P : X → Type 0) → IsSomeAnd (slice_get xs i) P → i < length xs
within_some [] i P some = absurd some
within_some (x ∷ xs) zero P some = omega arith
within_some (x ∷ xs) (suc i) P some = omega (arith, within_some xs i P some)
