-- What a word is.
use Rattle.std.proofs.Common.{◌≡◌, ◌==◌, ◌+◌, suc, ℕ, Bool, true, false, List, [], ◌∷◌, ◌++◌, Option, Some, None, take, drop, true≢false, codes, refl, ap, ap₂, ◌∙◌, sym, subst, slice_get, arith}
use Rattle.std.specs.Str.{bytes_eq, chars, IsUtf8}
use Rattle.std.specs.List.{before_first, after_first, position_or_len}
use Rattle.std.proofs.lemmas.Slice.Eq.{bytes_eq-Decides}
use Rattle.std.specs.Prelude.{option_and_then, if◌then◌else◌}
use Rattle.clap.specs.Lexer.{long_of, long_of_rest, short_of, short_of_rest, strip_byte, has_byte}
use Rattle.std.proofs.lemmas.Bool.Decides.{Decides-eqb}
use Rattle.std.proofs.lemmas.List.{append-nil, take-append-drop}
use Rattle.std.proofs.lemmas.Str.{encodes-chars, IsUtf8-drop, IsCharBoundary-after_ascii}
use Rattle.std.proofs.Math.Utf8.{encodes}
use Rattle.clap.specs.Words.{Text}
use Rattle.command_words.specs.Sorted.{is_dashed}
use Rattle.command_words.proofs.Turns.{Flag, symbols, run, name_of}

-- none of the words that mean something of their own
abbrev pub IsUnnamed : Text → Type 0
IsUnnamed w = (bytes_eq w (codes "--") ≡ false) × (bytes_eq w (codes "--symbols") ≡ false) × (bytes_eq w (codes "--run") ≡ false)
    × (bytes_eq w (codes "--format") ≡ false) × (bytes_eq (take 9 w) (codes "--format=") ≡ false)

-- an option that is refused
pub data Refusal (w : Text) : Type 0 where
  with_value : (f : Flag) (v : Text) → long_of w ≡ Some (name_of f, Some v) → Refusal w
  unknown : (name : Text) (v : Option Text) → long_of w ≡ Some (name, v) → bytes_eq (codes "symbols") name ≡ false
      → bytes_eq (codes "run") name ≡ false → bytes_eq (codes "format") name ≡ false → Refusal w
  short : (x : ℕ) (xs : Text) (c : ℕ) → long_of w ≡ None → short_of w ≡ Some (x ∷ xs) → slice_get (chars (x ∷ xs)) 0 ≡ Some c → Refusal w

pub data Sort (w : Text) : Type 0 where
  dashes : w ≡ codes "--" → Sort w
  flag : (f : Flag) → w ≡ codes "--" ++ name_of f → Sort w
  format : w ≡ codes "--format" → Sort w
  attached : (v : Text) → w ≡ codes "--format=" ++ v → Sort w
  other : IsUnnamed w → is_dashed w ≡ true → Refusal w → Sort w
  operand : IsUnnamed w → is_dashed w ≡ false → long_of w ≡ None → short_of w ≡ None → Sort w

pub not_long : (w : Text) → is_dashed w ≡ false → long_of w ≡ None
not_long [] plain = refl
not_long (x ∷ []) plain = by (x == 45)
  where
    by : (b : Bool) → option_and_then long_of_rest (option_and_then (strip_byte 45) (if b then Some [] else None)) ≡ None
    by true = refl
    by false = refl
not_long (x ∷ y ∷ ys) plain = rw plain refl

pub not_short : (w : Text) → is_dashed w ≡ false → short_of w ≡ None
not_short [] plain = refl
not_short (x ∷ []) plain = by (x == 45)
  where
    by : (b : Bool) → option_and_then short_of_rest (if b then Some [] else None) ≡ None
    by true = refl
    by false = refl
not_short (x ∷ y ∷ ys) plain = rw plain refl

abbrev value_part : Bool → Text → Text
value_part true v = 61 ∷ v
value_part false v = []

-- a text is its name and its value, put together
parted : (t : Text) → t ≡ before_first (λ x. x == 61) t ++ value_part (has_byte 61 t) (after_first (λ x. x == 61) t)
parted [] = refl
parted (x ∷ xs) = go (x == 61) refl (parted xs)
  where
    go : (b : Bool) → (x == 61) ≡ b → xs ≡ before_first (λ x. x == 61) xs ++ value_part (has_byte 61 xs) (after_first (λ x. x == 61) xs)
        → x ∷ xs ≡ before_first (λ x. x == 61) (x ∷ xs) ++ value_part (has_byte 61 (x ∷ xs)) (after_first (λ x. x == 61) (x ∷ xs))
    go true e rest = rw e (ap (λ (y : ℕ). y ∷ xs) ((Decides-eqb x 61).0 e))
    go false e rest =
        let n = position_or_len (λ x. x == 61) xs in
        let one : 1 + n ≡ suc n = omega arith in
        let two : 1 + n + 1 ≡ suc (n + 1) = omega arith in
        rw (e, two, one) (ap (λ (l : Text). x ∷ l) rest)

abbrev name_in : Text → Text
name_in t = before_first (λ x. x == 61) t

abbrev value_in : Text → Text
value_in t = after_first (λ x. x == 61) t

module _ (z : ℕ) (zs : Text) (unnamed : IsUnnamed (45 ∷ 45 ∷ z ∷ zs)) where
  flag_refused : (f : Flag) → name_in (z ∷ zs) ≡ name_of f → bytes_eq (45 ∷ 45 ∷ z ∷ zs) (codes "--" ++ name_of f) ≡ false → Refusal (45 ∷ 45 ∷ z ∷ zs)
  flag_refused f is differs = go (has_byte 61 (z ∷ zs)) refl
    where
      go : (b : Bool) → has_byte 61 (z ∷ zs) ≡ b → Refusal (45 ∷ 45 ∷ z ∷ zs)
      go true e = with_value f (value_in (z ∷ zs)) (ap₂ (λ (n : Text) (b : Bool). Some (n, if b then Some (value_in (z ∷ zs)) else None)) is e)
      go false e =
          let whole : z ∷ zs ≡ name_of f = parted (z ∷ zs) ∙ ap₂ (λ (n : Text) (b : Bool). n ++ value_part b (value_in (z ∷ zs))) is e ∙ append-nil (name_of f) in
          let same = (bytes_eq-Decides (45 ∷ 45 ∷ z ∷ zs) (codes "--" ++ name_of f)).1 (ap (λ (l : Text). 45 ∷ 45 ∷ l) whole) in
          absurd cc

  no_format : name_in (z ∷ zs) ≡ codes "format" → ⊥
  no_format is = go (has_byte 61 (z ∷ zs)) refl
    where
      go : (b : Bool) → has_byte 61 (z ∷ zs) ≡ b → ⊥
      go true e =
          let whole : z ∷ zs ≡ codes "format=" ++ value_in (z ∷ zs) = parted (z ∷ zs) ∙ ap₂ (λ (n : Text) (b : Bool). n ++ value_part b (value_in (z ∷ zs))) is e in
          let same : bytes_eq (take 9 (45 ∷ 45 ∷ z ∷ zs)) (codes "--format=") ≡ true = ap (λ (l : Text). bytes_eq (take 9 (45 ∷ 45 ∷ l)) (codes "--format=")) whole in
          true≢false (sym same ∙ unnamed.4)
      go false e =
          let whole : z ∷ zs ≡ codes "format" = parted (z ∷ zs) ∙ ap₂ (λ (n : Text) (b : Bool). n ++ value_part b (value_in (z ∷ zs))) is e in
          let same : bytes_eq (45 ∷ 45 ∷ z ∷ zs) (codes "--format") ≡ true = ap (λ (l : Text). bytes_eq (45 ∷ 45 ∷ l) (codes "--format")) whole in
          true≢false (sym same ∙ unnamed.3)

  long_refused : Refusal (45 ∷ 45 ∷ z ∷ zs)
  long_refused = on_symbols (bytes_eq (codes "symbols") (name_in (z ∷ zs))) refl
    where
      on_format : (c : Bool) → bytes_eq (codes "format") (name_in (z ∷ zs)) ≡ c → bytes_eq (codes "symbols") (name_in (z ∷ zs)) ≡ false
          → bytes_eq (codes "run") (name_in (z ∷ zs)) ≡ false → Refusal (45 ∷ 45 ∷ z ∷ zs)
      on_format true e s r = absurd (no_format (sym ((bytes_eq-Decides (codes "format") (name_in (z ∷ zs))).0 e)))
      on_format false e s r = unknown (name_in (z ∷ zs)) (if has_byte 61 (z ∷ zs) then Some (value_in (z ∷ zs)) else None) refl s r e

      on_run : (c : Bool) → bytes_eq (codes "run") (name_in (z ∷ zs)) ≡ c → bytes_eq (codes "symbols") (name_in (z ∷ zs)) ≡ false → Refusal (45 ∷ 45 ∷ z ∷ zs)
      on_run true e s = flag_refused run (sym ((bytes_eq-Decides (codes "run") (name_in (z ∷ zs))).0 e)) unnamed.2
      on_run false e s = on_format (bytes_eq (codes "format") (name_in (z ∷ zs))) refl s e

      on_symbols : (c : Bool) → bytes_eq (codes "symbols") (name_in (z ∷ zs)) ≡ c → Refusal (45 ∷ 45 ∷ z ∷ zs)
      on_symbols true e = flag_refused symbols (sym ((bytes_eq-Decides (codes "symbols") (name_in (z ∷ zs))).0 e)) unnamed.1
      on_symbols false e = on_run (bytes_eq (codes "run") (name_in (z ∷ zs))) refl e

-- a text with a first byte has a first character
first_char : (y : ℕ) (ys : Text) → IsUtf8 (y ∷ ys) → (c : ℕ) × (slice_get (chars (y ∷ ys)) 0 ≡ Some c)
first_char y ys utf8 = by (chars (y ∷ ys)) (encodes-chars (y ∷ ys) utf8)
  where
    by : (cs : List ℕ) → encodes cs ≡ y ∷ ys → (c : ℕ) × (slice_get cs 0 ≡ Some c)
    by [] e = let bad : [] ≡ y ∷ ys = e in absurd cc
    by (c ∷ cs) e = (c, refl)

behind_minus : (ys : Text) → IsUtf8 (45 ∷ ys) → IsUtf8 ys
behind_minus ys utf8 = IsUtf8-drop (45 ∷ ys) 1 utf8 (IsCharBoundary-after_ascii (45 ∷ ys) 0 utf8 (omega arith) (omega arith))

two_dashes : (vs : Text) → IsUnnamed (45 ∷ 45 ∷ vs) → Refusal (45 ∷ 45 ∷ vs)
two_dashes [] unnamed = absurd (true≢false unnamed.0)
two_dashes (z ∷ zs) unnamed = long_refused z zs unnamed

one_dash : (y : ℕ) (ys : Text) → IsUtf8 (45 ∷ y ∷ ys) → IsUnnamed (45 ∷ y ∷ ys) → Refusal (45 ∷ y ∷ ys)
one_dash y ys utf8 unnamed = by (y == 45) refl
  where
    by : (b : Bool) → (y == 45) ≡ b → Refusal (45 ∷ y ∷ ys)
    by true e = subst (λ (v : ℕ). IsUnnamed (45 ∷ v ∷ ys) → Refusal (45 ∷ v ∷ ys)) (sym ((Decides-eqb y 45).0 e)) (two_dashes ys) unnamed
    by false e = let c = first_char y ys (behind_minus (y ∷ ys) utf8) in short y ys c.0 (rw e refl) (rw e refl) c.1

-- an option that means nothing is refused
dashed_refused : (w : Text) → IsUtf8 w → IsUnnamed w → is_dashed w ≡ true → Refusal w
dashed_refused [] utf8 unnamed dashed = absurd cc
dashed_refused (x ∷ []) utf8 unnamed dashed = absurd cc
dashed_refused (x ∷ y ∷ ys) utf8 unnamed dashed =
    subst (λ (v : ℕ). IsUtf8 (v ∷ y ∷ ys) → IsUnnamed (v ∷ y ∷ ys) → Refusal (v ∷ y ∷ ys)) (sym ((Decides-eqb x 45).0 dashed)) (one_dash y ys) utf8 unnamed

unnamed_sort : (w : Text) → IsUtf8 w → IsUnnamed w → Sort w
unnamed_sort w utf8 unnamed = by (is_dashed w) refl
  where
    by : (b : Bool) → is_dashed w ≡ b → Sort w
    by true e = other unnamed e (dashed_refused w utf8 unnamed e)
    by false e = operand unnamed e (not_long w e) (not_short w e)

pub sort_of : (w : Text) → IsUtf8 w → Sort w
sort_of w utf8 = on_dashes (bytes_eq w (codes "--")) refl
  where
    on_attached : (b : Bool) → bytes_eq (take 9 w) (codes "--format=") ≡ b → bytes_eq w (codes "--") ≡ false → bytes_eq w (codes "--symbols") ≡ false
        → bytes_eq w (codes "--run") ≡ false → bytes_eq w (codes "--format") ≡ false → Sort w
    on_attached true e d s r f =
        attached (drop 9 w) (sym (take-append-drop 9 w) ∙ ap (λ (l : Text). l ++ drop 9 w) ((bytes_eq-Decides (take 9 w) (codes "--format=")).0 e))
    on_attached false e d s r f = unnamed_sort w utf8 (d, s, r, f, e)

    on_format : (b : Bool) → bytes_eq w (codes "--format") ≡ b → bytes_eq w (codes "--") ≡ false → bytes_eq w (codes "--symbols") ≡ false
        → bytes_eq w (codes "--run") ≡ false → Sort w
    on_format true e d s r = format ((bytes_eq-Decides w (codes "--format")).0 e)
    on_format false e d s r = on_attached (bytes_eq (take 9 w) (codes "--format=")) refl d s r e

    on_run : (b : Bool) → bytes_eq w (codes "--run") ≡ b → bytes_eq w (codes "--") ≡ false → bytes_eq w (codes "--symbols") ≡ false → Sort w
    on_run true e d s = flag run ((bytes_eq-Decides w (codes "--run")).0 e)
    on_run false e d s = on_format (bytes_eq w (codes "--format")) refl d s e

    on_symbols : (b : Bool) → bytes_eq w (codes "--symbols") ≡ b → bytes_eq w (codes "--") ≡ false → Sort w
    on_symbols true e d = flag symbols ((bytes_eq-Decides w (codes "--symbols")).0 e)
    on_symbols false e d = on_run (bytes_eq w (codes "--run")) refl d e

    on_dashes : (b : Bool) → bytes_eq w (codes "--") ≡ b → Sort w
    on_dashes true e = dashes ((bytes_eq-Decides w (codes "--")).0 e)
    on_dashes false e = on_symbols (bytes_eq w (codes "--symbols")) refl e
