-- The number that a word says.
use Rattle.std.proofs.Common.{◌≡◌, ◌≢◌, ◌⊎◌, ◌<◌, ◌≤◌, ◌-◌, ◌^◌, ◌&&◌, cond, Bool, true, false, ℕ, zero, suc, Option, Some, None, Result, Ok, Err, List, length, get_or, nat_le, refl, sym, ap, ◌∙◌, subst, inl, inr, arith}
use Rattle.std.specs.Result.{result_ok}
use Rattle.std.specs.Fmt.{decimal}
use Rattle.std.specs.Str.{bytes_eq}
use Rattle.std.specs.Str.Parse.{AllDigits, IsNumeral, ParsesUnsigned, digits_value}
use Rattle.std.proofs.lemmas.Bool.{leb-true, le-leb}
use Rattle.std.proofs.lemmas.Fmt.{decimal_is_IsNumeral, decimal_digit, first_decimal, decimal-digits_value}
use Rattle.std.proofs.lemmas.Slice.Eq.{bytes_eq-Decides}
use Rattle.std.proofs.lemmas.Str.Parse.{tells_digits, numerals_by_value, parse_plain, digit_at}
use Rattle.command_words.specs.Command.{number_in, value_in}

both : (a b : Bool) → (a && b) ≡ true → (a ≡ true) × (b ≡ true)
both true b e = (refl, e)
both false b e = absurd cc

some_if : (t : Bool) (m n : ℕ) → cond t (Some m) None ≡ Some n → (t ≡ true) × (m ≡ n)
some_if true m n e = (refl, cc)
some_if false m n e = absurd cc

-- the word is what is written for its number
number_is : (least most : ℕ) (word : List ℕ) (n : ℕ) → number_in least most word ≡ Some n → (word ≡ decimal n) × (n ≤ most)
number_is least most word n e =
    let m = digits_value 10 word in
    let found = some_if (bytes_eq word (decimal m) && (nat_le least m && nat_le m most)) m n e in
    let parts = both (bytes_eq word (decimal m)) (nat_le least m && nat_le m most) found.0 in
    let within = both (nat_le least m) (nat_le m most) parts.1 in
    let small : m ≤ most = leb-true m most within.1 in
    ((bytes_eq-Decides word (decimal m)).0 parts.0 ∙ ap decimal found.1, omega (arith, small, found.1))

-- what is written for a number says it
number_reads : (least most n : ℕ) → least ≤ n → n ≤ most → n < 2 ^ 64 → number_in least most (decimal n) ≡ Some n
number_reads least most n over under small =
    let value : digits_value 10 (decimal n) ≡ n = (decimal_is_IsNumeral n small).1 in
    let same : bytes_eq (decimal n) (decimal n) ≡ true = (bytes_eq-Decides (decimal n) (decimal n)).1 refl in
    rw (value, same, le-leb least n over, le-leb n most under) refl

no_value : (word : List ℕ) → ((n : ℕ) → value_in word ≡ Some n → ⊥) → value_in word ≡ None
no_value word none = by (value_in word) refl
  where
    by : (o : Option ℕ) → value_in word ≡ o → o ≡ None
    by None e = refl
    by (Some n) e = absurd (none n e)

-- of numbers 0 alone begins with a zero
zero_alone : (n : ℕ) → n < 2 ^ 64 → get_or (decimal n) 0 0 ≡ 48 → length (decimal n) ≡ 1
zero_alone zero small first = ap (λ (l : List ℕ). length l) (decimal_digit 0 (omega arith))
zero_alone (suc n) small first = absurd (omega (arith, first_decimal (suc n) (omega arith) small, first))

module _ (word : List ℕ) where
  -- a word that says a value is what is written for it
  word_is : (n : ℕ) → value_in word ≡ Some n → (word ≡ decimal n) × (n < 2 ^ 64)
  word_is n e = let is = number_is 0 (2 ^ 64 - 1) word n e in (is.0, omega (arith, is.1))

  -- a sign is no digit
  plus_says_none : get_or word 0 0 ≡ 43 → value_in word ≡ None
  plus_says_none first = no_value word (λ n e.
      let is = word_is n e in
      let numeral = (decimal_is_IsNumeral n is.1).0 in
      omega (arith, (digit_at (decimal n) 0 numeral.1 numeral.0).0, first, ap (λ (l : List ℕ). get_or l 0 0) is.0))

  -- no number begins with a zero before others
  zero_says_none : get_or word 0 0 ≡ 48 → 2 ≤ length word → value_in word ≡ None
  zero_says_none first more = no_value word (λ n e.
      let is = word_is n e in
      omega (arith, zero_alone n is.1 (sym (ap (λ (l : List ℕ). get_or l 0 0) is.0) ∙ first), more, ap (λ (l : List ℕ). length l) is.0))

  pub says_none : (get_or word 0 0 ≡ 43) ⊎ ((get_or word 0 0 ≡ 48) × (1 < length word)) → value_in word ≡ None
  says_none (inl plus) = plus_says_none plus
  says_none (inr other) = zero_says_none other.0 (omega (arith, other.1))

  module _ {E : Type 0} (plain : get_or word 0 0 ≢ 43) (numeral : get_or word 0 0 ≡ 48 → length word ≡ 1) where
    pub parsed_says : (r : Result ℕ E) → ParsesUnsigned 64 10 word r → result_ok r ≡ value_in word
    parsed_says (Ok n) parses =
        let read = parse_plain (numerals_by_value (AllDigits 10) tells_digits) {E = E} 64 word (Ok n) parses plain in
        let is : decimal n ≡ word = ap decimal read.1 ∙ decimal-digits_value (numerals_by_value (AllDigits 10) tells_digits) word read.0.0 read.0.1 numeral read.0.2 in
        let small : n < 2 ^ 64 = omega (arith, read.0.2, read.1) in
        sym (ap value_in (sym is) ∙ number_reads 0 (2 ^ 64 - 1) n (omega arith) (omega (arith, small)) small)
    parsed_says (Err fault) parses = sym (no_value word (λ n e.
        let is = word_is n e in
        let numeral : IsNumeral 10 word × (digits_value 10 word ≡ n) = subst (λ (l : List ℕ). IsNumeral 10 l × (digits_value 10 l ≡ n)) (sym is.0) (decimal_is_IsNumeral n is.1) in
        parse_plain (numerals_by_value (AllDigits 10) tells_digits) {E = E} 64 word (Err fault) parses plain
        (numeral.0.1, numeral.0.0, omega (arith, numeral.1, is.1))))
