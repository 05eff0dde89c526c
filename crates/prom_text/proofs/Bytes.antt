-- What holds of every byte that the text is made of, and of the bytes of tag values, holds of every byte of the text.
use Rattle.std.proofs.Common.{◌≡◌, ℕ, zero, suc, ◌+◌, ◌*◌, ◌/◌, ◌%◌, ◌<◌, ℤ, pos, negsuc, Bool, true, false, ◌==◌, ◌&&◌, if◌then◌else◌, List, [], ◌∷◌, ◌++◌, map, codes, refl, arith}
use Rattle.std.proofs.lemmas.Bool.Decides.{nat_tests}
use Rattle.std.specs.List.{AllByRecursion, list_all, flat_map, join_by}
use Rattle.std.specs.Fmt.{digits, digits_onto, digit_glyph, decimal, signed_decimal}
use Rattle.stat_defs.specs.Names.{is_label_byte}
use Rattle.stat_defs.specs.declared.metrics.Tag.{Tag}
use Rattle.stat_defs.specs.declared.metrics.Tagged.{Tagged}
use Rattle.text_parts.specs.Decimals.{hundredth_digits, fraction, halves, twentieths}
use Rattle.prom_text.specs.Labels.{printed_byte, printed_name, begins_with_digit, label_name, escaped_byte, escaped, label, braced}
use Rattle.prom_text.specs.Values.{is_text_byte}
use Rattle.prom_text.specs.Prometheus.{sample, labels_of}
use Rattle.text_parts.proofs.Rising.{all_joined}

-- what holds of every byte of the text
pub record Holds (P : ℕ → Type 0) : Type 0 where
  pub at : (b : ℕ) → is_text_byte b ≡ true → P b

both_true : (a b : Bool) → (a && b) ≡ true → (a ≡ true) × (b ≡ true)
both_true true b h = (refl, h)
both_true false b h = absurd (cc)

-- of texts that are given
pub all_given : (P : ℕ → Type 0) → Holds P → (text : List ℕ) → list_all is_text_byte text ≡ true → AllByRecursion P text
all_given P h [] e = tt
all_given P h (b ∷ bs) e =
    let both = both_true (is_text_byte b) (list_all is_text_byte bs) e in (h.at b both.0, all_given P h bs both.1)

label_byte_ok : (b : ℕ) → is_label_byte b ≡ true → is_text_byte b ≡ true
label_byte_ok b h = grind (arith, nat_tests)

printed_ok : (b : ℕ) → is_text_byte (printed_byte b) ≡ true
printed_ok b =
    let cases : (t : Bool) → is_label_byte b ≡ t → is_text_byte (if t then b else 95) ≡ true =
    λ t. elim t as (λ t. is_label_byte b ≡ t → is_text_byte (if t then b else 95) ≡ true) [
      | true ↦ λ e. label_byte_ok b e
      | false ↦ λ e. refl
    ] in
    cases (is_label_byte b) refl

all_printed : (P : ℕ → Type 0) → Holds P → (bytes : List ℕ) → AllByRecursion P (map printed_byte bytes)
all_printed P h [] = tt
all_printed P h (b ∷ bs) = (h.at (printed_byte b) (printed_ok b), all_printed P h bs)

pub all_name : (P : ℕ → Type 0) → Holds P → (extracted : List ℕ) → AllByRecursion P (printed_name extracted)
all_name P h extracted =
    all_joined P (codes "envoy_") (map printed_byte extracted) (all_given P h (codes "envoy_") refl) (all_printed P h extracted)

all_label_name : (P : ℕ → Type 0) → Holds P → (name : List ℕ) → AllByRecursion P (label_name name)
all_label_name P h name =
    elim (begins_with_digit name) as (λ t. AllByRecursion P (if t then 95 ∷ map printed_byte name else map printed_byte name)) [
      | true ↦ (h.at 95 refl, all_printed P h name)
      | false ↦ all_printed P h name
    ]

all_escaped_byte : (P : ℕ → Type 0) → Holds P → (b : ℕ) → P b → AllByRecursion P (escaped_byte b)
all_escaped_byte P h b p =
    elim (b == 92) as (λ t. AllByRecursion P (if t then 92 ∷ 92 ∷ [] else if b == 34 then 92 ∷ 34 ∷ [] else if b == 10 then 92 ∷ 110 ∷ [] else b ∷ [])) [
      | true ↦ (h.at 92 refl, (h.at 92 refl, tt))
      | false ↦ elim (b == 34) as (λ t. AllByRecursion P (if t then 92 ∷ 34 ∷ [] else if b == 10 then 92 ∷ 110 ∷ [] else b ∷ [])) [
        | true ↦ (h.at 92 refl, (h.at 34 refl, tt))
        | false ↦ elim (b == 10) as (λ t. AllByRecursion P (if t then 92 ∷ 110 ∷ [] else b ∷ [])) [
          | true ↦ (h.at 92 refl, (h.at 110 refl, tt))
          | false ↦ (p, tt)
        ]
      ]
    ]

all_escaped : (P : ℕ → Type 0) → Holds P → (value : List ℕ) → AllByRecursion P value → AllByRecursion P (escaped value)
all_escaped P h [] a = tt
all_escaped P h (b ∷ bs) a =
    all_joined P (escaped_byte b) (escaped bs) (all_escaped_byte P h b a.0) (all_escaped P h bs a.1)

all_label : (P : ℕ → Type 0) → Holds P → (tag : Tag) → AllByRecursion P tag.value → AllByRecursion P (label tag)
all_label P h tag a =
    all_joined P (label_name tag.name) (codes "=\"" ++ (escaped tag.value ++ codes "\"")) (all_label_name P h tag.name)
    (all_joined P (codes "=\"") (escaped tag.value ++ codes "\"") (all_given P h (codes "=\"") refl)
    (all_joined P (escaped tag.value) (codes "\"") (all_escaped P h tag.value a) (all_given P h (codes "\"") refl)))

-- of the values of tags
pub record HoldsOfTags (P : ℕ → Type 0) (tags : List Tag) : Type 0 where
  pub values : AllByRecursion (λ tag. AllByRecursion P tag.value) tags

all_labels : (P : ℕ → Type 0) → Holds P → (tags : List Tag) → AllByRecursion (λ tag. AllByRecursion P tag.value) tags
    → AllByRecursion (AllByRecursion P) (map label tags)
all_labels P h [] a = tt
all_labels P h (tag ∷ tags) a = (all_label P h tag a.0, all_labels P h tags a.1)

pub all_flat : {X : Type 0} (P : ℕ → Type 0) (f : X → List ℕ) (xs : List X) → AllByRecursion (λ x. AllByRecursion P (f x)) xs
    → AllByRecursion P (flat_map f xs)
all_flat P f [] a = tt
all_flat P f (x ∷ xs) a = all_joined P (f x) (flat_map f xs) a.0 (all_flat P f xs a.1)

all_behind_commas : (P : ℕ → Type 0) → Holds P → (texts : List (List ℕ)) → AllByRecursion (AllByRecursion P) texts
    → AllByRecursion (λ text. AllByRecursion P (codes "," ++ text)) texts
all_behind_commas P h [] a = tt
all_behind_commas P h (text ∷ texts) a = ((h.at 44 refl, a.0), all_behind_commas P h texts a.1)

all_joined_by : (P : ℕ → Type 0) → Holds P → (texts : List (List ℕ)) → AllByRecursion (AllByRecursion P) texts
    → AllByRecursion P (join_by (λ text. text) (codes ",") texts)
all_joined_by P h [] a = tt
all_joined_by P h (text ∷ texts) a =
    all_joined P text (flat_map (λ text. codes "," ++ text) texts) a.0
    (all_flat P (λ text. codes "," ++ text) texts (all_behind_commas P h texts a.1))

all_braced : (P : ℕ → Type 0) → Holds P → (texts : List (List ℕ)) → AllByRecursion (AllByRecursion P) texts
    → AllByRecursion P (braced texts)
all_braced P h texts a = (
  h.at 123 refl,
  all_joined P (join_by (λ text. text) (codes ",") texts) (125 ∷ []) (all_joined_by P h texts a) (h.at 125 refl, tt),
)

pub all_sample : (P : ℕ → Type 0) → Holds P → (name : List ℕ) (texts : List (List ℕ)) (value : List ℕ) → AllByRecursion P name
    → AllByRecursion (AllByRecursion P) texts → AllByRecursion P value → AllByRecursion P (sample name texts value)
all_sample P h name texts value n t v =
    all_joined P name (braced texts ++ (32 ∷ (value ++ 10 ∷ []))) n
    (all_joined P (braced texts) (32 ∷ (value ++ 10 ∷ [])) (all_braced P h texts t)
    (h.at 32 refl, all_joined P value (10 ∷ []) v (h.at 10 refl, tt)))

glyph_ok : (d : ℕ) → d < 10 → is_text_byte (48 + d) ≡ true
glyph_ok d h = grind (arith, nat_tests)

digit_ok : (d : ℕ) → d < 10 → is_text_byte (digit_glyph false d) ≡ true
digit_ok d h = grind (arith, nat_tests)

all_digits_onto : (P : ℕ → Type 0) → Holds P → (k n : ℕ) (acc : List ℕ) → AllByRecursion P acc
    → AllByRecursion P (digits_onto k 10 false n acc)
all_digits_onto P h zero n acc a = a
all_digits_onto P h (suc k) n acc a =
    let p : P (digit_glyph false (n % 10)) = h.at (digit_glyph false (n % 10)) (digit_ok (n % 10) (omega arith)) in
    elim (n / 10 == 0) as (λ t. AllByRecursion P (if t then digit_glyph false (n % 10) ∷ acc
    else digits_onto k 10 false (n / 10) (digit_glyph false (n % 10) ∷ acc))) [
      | true ↦ (p, a)
      | false ↦ all_digits_onto P h k (n / 10) (digit_glyph false (n % 10) ∷ acc) (p, a)
    ]

pub all_decimal : (P : ℕ → Type 0) → Holds P → (n : ℕ) → AllByRecursion P (decimal n)
unfolding digits
all_decimal P h n = all_digits_onto P h 64 n [] tt

pub all_signed : (P : ℕ → Type 0) → Holds P → (n : ℤ) → AllByRecursion P (signed_decimal n)
all_signed P h (pos n) = all_decimal P h n
all_signed P h (negsuc n) = (h.at 45 refl, all_decimal P h (suc n))

all_hundredths : (P : ℕ → Type 0) → Holds P → (n : ℕ) → n < 100 → AllByRecursion P (hundredth_digits n)
all_hundredths P h n l =
    elim (n == 0) as (λ t. AllByRecursion P (if t then [] else (48 + n / 10) ∷ (if n % 10 == 0 then [] else (48 + n % 10) ∷ []))) [
      | true ↦ tt
      | false ↦ (
        h.at (48 + n / 10) (glyph_ok (n / 10) (omega arith)),
        (elim (n % 10 == 0) as (λ t. AllByRecursion P (if t then [] else (48 + n % 10) ∷ [])) [
          | true ↦ tt
          | false ↦ (h.at (48 + n % 10) (glyph_ok (n % 10) (omega arith)), tt)
        ]),
      )
    ]

all_fraction : (P : ℕ → Type 0) → Holds P → (n : ℕ) → n < 1000 → AllByRecursion P (fraction n)
all_fraction P h n l =
    elim (n == 0) as (λ t. AllByRecursion P (if t then [] else 46 ∷ (48 + n / 100) ∷ hundredth_digits (n % 100))) [
      | true ↦ tt
      | false ↦ (
        h.at 46 refl,
        (h.at (48 + n / 100) (glyph_ok (n / 100) (omega arith)), all_hundredths P h (n % 100) (omega arith)),
      )
    ]

pub all_halves : (P : ℕ → Type 0) → Holds P → (n : ℕ) → AllByRecursion P (halves n)
all_halves P h n =
    all_joined P (decimal (n / 2)) (fraction (500 * (n % 2))) (all_decimal P h (n / 2)) (all_fraction P h (500 * (n % 2)) (omega arith))

pub all_twentieths : (P : ℕ → Type 0) → Holds P → (n : ℕ) → AllByRecursion P (twentieths n)
all_twentieths P h n =
    all_joined P (decimal (n / 20)) (fraction (50 * (n % 20))) (all_decimal P h (n / 20)) (all_fraction P h (50 * (n % 20)) (omega arith))

pub all_labels_of : (P : ℕ → Type 0) → Holds P → (tagged : Tagged) → HoldsOfTags P tagged.tags
    → AllByRecursion (AllByRecursion P) (labels_of tagged)
all_labels_of P h tagged v = all_labels P h tagged.tags v.values
