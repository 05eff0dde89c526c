-- The parts of a line, one after another.
use Rattle.std.proofs.Common.{◌≡◌, ◌<◌, ◌≤◌, ◌^◌, ◌==◌, ◌&&◌, nat_le, ℕ, Bool, true, false, cond, Option, None, Some, option_map, List, [], ◌∷◌, ◌++◌, length, refl, sym, ap, ◌∙◌}
use Rattle.std.specs.Option.{option_and_then}
use Rattle.std.specs.List.{list_all}
use Rattle.std.specs.Str.{bytes_eq}
use Rattle.std.specs.Fmt.{decimal}
use Rattle.std.specs.Str.Parse.{digits_value}
use Rattle.std.proofs.lemmas.Fmt.{decimal_is_IsNumeral}
use Rattle.std.proofs.lemmas.Slice.Eq.{bytes_eq-Decides}
use Rattle.std.proofs.lemmas.Bool.{ne_eqb, eqb-true, leb-true, le-leb}
use Rattle.stat_defs.specs.declared.events.Event.{Event}
use Rattle.event_script.specs.Grammar.{Lacks}
use Rattle.event_script.specs.EventIn.{first_line, behind_line, cut, part_then, read_text, read_number}
use Rattle.event_script.proofs.Splits.{lacks_first, lacks_rest}

-- what was found in a chain was found at each step
pub and_then_some : {X Y : Type 0} (f : X → Option Y) (o : Option X) (y : Y) → option_and_then f o ≡ Some y → (x : X) × (o ≡ Some x) × (f x ≡ Some y)
and_then_some f None y e = absurd cc
and_then_some f (Some x) y e = (x, refl, e)

pub map_some : {X Y : Type 0} (f : X → Y) (o : Option X) (y : Y) → option_map f o ≡ Some y → (x : X) × (o ≡ Some x) × (y ≡ f x)
map_some f None y e = absurd cc
map_some f (Some x) y e = (x, refl, cc)

some_is : (x y : List ℕ × List ℕ) → Some x ≡ Some y → x ≡ y
some_is x y e = cc

-- a part without a space comes off before the space
pub cut_at : (part rest : List ℕ) → Lacks 32 part → cut (part ++ 32 ∷ rest) ≡ Some (part, rest)
cut_at [] rest lacks = refl
cut_at (b ∷ bs) rest lacks =
    rw (ne_eqb b 32 (lacks_first 32 b bs lacks), cut_at bs rest (lacks_rest 32 b bs lacks)) refl

pub cut_is : (text part rest : List ℕ) → cut text ≡ Some (part, rest) → text ≡ part ++ 32 ∷ rest
cut_is [] part rest e = absurd cc
cut_is (b ∷ bs) part rest e = by (λ front back is. cut_is bs front back is) (b == 32) refl e
  where
    by : ((front back : List ℕ) → cut bs ≡ Some (front, back) → bs ≡ front ++ 32 ∷ back) → (space : Bool) → (b == 32) ≡ space → cond {A = Option (List ℕ × List ℕ)} space (Some ([], bs)) (option_map (λ p. (b ∷ p.0, p.1)) (cut bs)) ≡ Some (part, rest) → b ∷ bs ≡ part ++ 32 ∷ rest
    by behind true is e =
        let same = eqb-true b 32 is in
        let both = some_is ([], bs) (part, rest) e in
        ap (λ c. c ∷ bs) same ∙ (λ i. (both i).0 ++ 32 ∷ (both i).1)
    by behind false is e =
        let found = map_some (λ (p : List ℕ × List ℕ). (b ∷ p.0, p.1)) (cut bs) (part, rest) e in
        let front : b ∷ found.0.0 ≡ part = sym (ap (λ (p : List ℕ × List ℕ). p.0) found.2) in
        let back : found.0.1 ≡ rest = sym (ap (λ (p : List ℕ × List ℕ). p.1) found.2) in
        ap (λ l. b ∷ l) (behind found.0.0 found.0.1 found.1) ∙ (λ i. front i ++ 32 ∷ back i)

module _ {X : Type 0} (read : List ℕ → Option X) (more : X → List ℕ → Option Event) where
  pub then_at : (part rest : List ℕ) (x : X) → Lacks 32 part → read part ≡ Some x → part_then read more (part ++ 32 ∷ rest) ≡ more x rest
  then_at part rest x lacks reads = rw (cut_at part rest lacks) (ap (option_and_then (λ y. more y rest)) reads)

  pub then_some : (text : List ℕ) (e : Event) → part_then read more text ≡ Some e
      → (part : List ℕ) × (rest : List ℕ) × (x : X) × (text ≡ part ++ 32 ∷ rest) × (read part ≡ Some x) × (more x rest ≡ Some e)
  then_some text e is =
      let found = and_then_some (λ (p : List ℕ × List ℕ). option_and_then (λ y. more y p.1) (read p.0)) (cut text) e is in
      let read_it = and_then_some (λ y. more y found.0.1) (read found.0.0) e found.2 in
      (found.0.0, found.0.1, read_it.0, cut_is text found.0.0 found.0.1 found.1, read_it.1, read_it.2)

  pub then_none : (text : List ℕ) → ((part rest : List ℕ) (x : X) → text ≡ part ++ 32 ∷ rest → read part ≡ Some x → ⊥) → part_then read more text ≡ None
  then_none text none = by (part_then read more text) refl
    where
      by : (o : Option Event) → part_then read more text ≡ o → o ≡ None
      by None is = refl
      by (Some e) is = let p = then_some text e is in absurd (none p.0 p.1 p.2 p.3 p.4)

-- the first line, behind bytes that hold no newline
pub first_behind : (front rest : List ℕ) → Lacks 10 front → first_line (front ++ rest) ≡ front ++ first_line rest
first_behind [] rest lacks = refl
first_behind (b ∷ bs) rest lacks = rw (ne_eqb b 10 (lacks_first 10 b bs lacks)) (ap (λ l. b ∷ l) (first_behind bs rest (lacks_rest 10 b bs lacks)))

pub rest_behind : (front rest : List ℕ) → Lacks 10 front → behind_line (front ++ rest) ≡ behind_line rest
rest_behind [] rest lacks = refl
rest_behind (b ∷ bs) rest lacks = rw (ne_eqb b 10 (lacks_first 10 b bs lacks)) (rest_behind bs rest (lacks_rest 10 b bs lacks))

pub line_parts : (text : List ℕ) → text ≡ first_line text ++ behind_line text
line_parts [] = refl
line_parts (b ∷ bs) = by (line_parts bs) (b == 10)
  where
    by : bs ≡ first_line bs ++ behind_line bs → (newline : Bool) → b ∷ bs ≡ cond newline [] (b ∷ first_line bs) ++ cond newline (b ∷ bs) (behind_line bs)
    by behind true = refl
    by behind false = ap (λ l. b ∷ l) behind

-- a text that was read as a whole is the text
module _ (test : ℕ → Bool) (most : ℕ) where
  pub text_is : (text x : List ℕ) → read_text test most text ≡ Some x → (text ≡ x) × (1 ≤ length x) × (length x ≤ most) × (list_all test x ≡ true)
  text_is text x e = by (nat_le 1 (length text)) refl (nat_le (length text) most) refl (list_all test text) refl e
    where
      by : (a : Bool) → nat_le 1 (length text) ≡ a → (b : Bool) → nat_le (length text) most ≡ b → (c : Bool) → list_all test text ≡ c
          → cond (a && b && c) (Some text) None ≡ Some x → (text ≡ x) × (1 ≤ length x) × (length x ≤ most) × (list_all test x ≡ true)
      by true some true few true all e =
          let same : text ≡ x = cc in
          rw (← same) (refl, leb-true 1 (length text) some, leb-true (length text) most few, all)
      by true some true few false all e = absurd cc
      by true some false few c all e = absurd cc
      by false some b few c all e = absurd cc

  pub text_reads : (text : List ℕ) → 1 ≤ length text → length text ≤ most → list_all test text ≡ true → read_text test most text ≡ Some text
  text_reads text some few all = rw (le-leb 1 (length text) some, le-leb (length text) most few, all) refl

-- a number that was read as a whole is its decimal text
pub number_is : (most : ℕ) (text : List ℕ) (n : ℕ) → read_number most text ≡ Some n → (text ≡ decimal n) × (n ≤ most) × (digits_value 10 text ≡ n)
number_is most text n e = by (nat_le (digits_value 10 text) most) refl (bytes_eq text (decimal (digits_value 10 text))) refl e
  where
    by : (a : Bool) → nat_le (digits_value 10 text) most ≡ a → (b : Bool) → bytes_eq text (decimal (digits_value 10 text)) ≡ b
        → cond (a && b) (Some (digits_value 10 text)) None ≡ Some n → (text ≡ decimal n) × (n ≤ most) × (digits_value 10 text ≡ n)
    by true few true same e =
        let value : digits_value 10 text ≡ n = cc in
        rw (← value) ((bytes_eq-Decides text (decimal (digits_value 10 text))).0 same, leb-true (digits_value 10 text) most few, refl)
    by true few false same e = absurd cc
    by false few b same e = absurd cc

pub number_reads : (most n : ℕ) → n ≤ most → n < 2 ^ 64 → read_number most (decimal n) ≡ Some n
number_reads most n few small =
    let value = (decimal_is_IsNumeral n small).1 in
    rw (value, le-leb n most few, (bytes_eq-Decides (decimal n) (decimal n)).1 refl) refl
