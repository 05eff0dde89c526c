-- Lines, cut from their bytes.
use Rattle.std.proofs.Common.{◌≡◌, ◌<◌, ◌≤◌, ◌+◌, ◌-◌, ℕ, ◌==◌, Bool, true, false, cond, Some, List, [], ◌∷◌, ◌++◌, length, take, get_or, drop, inl, inr, refl, sym, ap, ◌∙◌, subst, arith}
use Rattle.std.specs.List.{All, slice_split}
use Rattle.memchr.specs.Find.{Nowhere, NoneBefore, Passes, is_byte}
use Rattle.std.proofs.lemmas.List.{get_or-take, take-append-drop, drop_more, take_rest, length-take-le, drop_at, drop_all, append_assoc, length-append, append-nil}
use Rattle.std.proofs.lemmas.List.Splits.{slice_split_at, slice_split_none, length-slice_split}
use Rattle.std.proofs.lemmas.Grind.{get_or_default_zero}
use Rattle.std.proofs.lemmas.Bool.{ne_eqb, eq-eqb, eqb-true, eqb-false, ltb-true}
use Rattle.stat_defs.specs.declared.events.Event.{Event}
use Rattle.event_script.specs.declared.cutting.Said.{Said}
use Rattle.event_script.specs.Grammar.{Lacks}
use Rattle.event_script.specs.EventIn.{first_line, behind_line, event_in}
use Rattle.event_script.specs.FirstLine.{HasLine}
use Rattle.event_script.specs.Said.{LineSays, IsCut, SaysFirst}
use Rattle.event_script.proofs.Splits.{lacks_cons}
use Rattle.event_script.proofs.PartThen.{first_behind, line_parts}
use Rattle.event_script.specs.Script.{is_line, piece_lines, lines_until}
use Rattle.stats_io.specs.declared.pulling.Pulled.{Pulled}
use Rattle.stats_io.specs.declared.pulling.Pulled.TheVariants.{End, TooMany, Failed}
use Rattle.event_script.specs.declared.limits.TheConstants.{MAX_LINE_BYTES}

-- no newline was found
pub none_found : (bytes : List ℕ) → Nowhere (Passes (is_byte 10) bytes) 0 (length bytes) → Lacks 10 bytes
none_found bytes none k lt same = none k (omega arith) lt (eq-eqb (get_or bytes k 0) 10 same)

-- the first newline was found at that place
pub found_at : (bytes : List ℕ) (at : ℕ) → NoneBefore (Passes (is_byte 10) bytes) 0 (length bytes) at → Passes (is_byte 10) bytes at
    → Lacks 10 (take at bytes) × (bytes ≡ take at bytes ++ 10 ∷ take (length bytes - (at + 1)) (drop (at + 1) bytes))
found_at bytes at before here =
    let long : length (take at bytes) ≡ at = length-take-le at bytes (omega (arith, before.high)) in (
      λ k lt same. before.before k (omega arith) (omega (arith, lt, long)) (eq-eqb (get_or bytes k 0) 10 (sym (get_or-take at bytes k 0 (omega (arith, lt, long))) ∙ same)),
      sym (take-append-drop at bytes)
          ∙ ap (λ l. take at bytes ++ l) (drop_more bytes at 0 before.high ∙ ap (λ b. b ∷ drop (at + 1) bytes) (eqb-true (get_or bytes at 0) 10 here) ∙ ap (λ l. 10 ∷ l) (sym (take_rest bytes (at + 1)))),
    )

abbrev pub is_newline : ℕ → Bool
is_newline b = b == 10

-- no byte of it is a newline
none_passes : (bytes : List ℕ) → Lacks 10 bytes → All (λ b. is_newline b ≡ false) bytes
none_passes bytes lacks k d within = ne_eqb (get_or bytes k d) 10 (λ same. lacks k within (sym (get_or_default_zero bytes k d within) ∙ same))

-- a piece before another is a line
pub first_of : (stop : Pulled) (piece : List ℕ) (pieces : List (List ℕ)) → 1 ≤ length pieces → piece_lines stop (piece ∷ pieces) ≡ piece ∷ piece_lines stop pieces
first_of stop piece [] some = absurd (omega arith)
first_of stop piece (next ∷ pieces) some = refl

-- what stands behind a line and its newline
pub drop_at_newline : (line rest : List ℕ) → drop (length line + 1) (line ++ 10 ∷ rest) ≡ rest
drop_at_newline line rest =
    ap (drop (length line + 1)) (sym (append_assoc line (10 ∷ []) rest)) ∙ drop_at (line ++ 10 ∷ []) rest (length line + 1) (length-append line (10 ∷ []))

-- a line with its newline comes off
pub cut_until : (stop : Pulled) (bytes line rest : List ℕ) → Lacks 10 line → bytes ≡ line ++ 10 ∷ rest
    → lines_until stop bytes ≡ line ∷ lines_until stop (drop (length line + 1) bytes)
cut_until stop bytes line rest lacks e =
    let after : drop (length line + 1) bytes ≡ rest = ap (drop (length line + 1)) e ∙ drop_at_newline line rest in
    ap (lines_until stop) e ∙ ap (piece_lines stop) (slice_split_at is_newline line 10 rest (none_passes line lacks) refl)
    ∙ first_of stop line (slice_split is_newline rest) (omega (arith, length-slice_split is_newline rest))
    ∙ ap (λ l. line ∷ lines_until stop l) (sym after)

-- the last piece alone
last_piece : (stop : Pulled) (bytes : List ℕ) → Lacks 10 bytes → lines_until stop bytes ≡ cond (is_line stop (length bytes)) (bytes ∷ []) []
last_piece stop bytes lacks = ap (piece_lines stop) (slice_split_none is_newline bytes (none_passes bytes lacks))

pub none_until : (stop : Pulled) (bytes : List ℕ) → Lacks 10 bytes → is_line stop (length bytes) ≡ false → lines_until stop bytes ≡ []
none_until stop bytes lacks none = last_piece stop bytes lacks ∙ ap (λ b. cond b (bytes ∷ []) []) none

no_bytes : (stop : Pulled) → lines_until stop [] ≡ []
no_bytes End = refl
no_bytes TooMany = refl
no_bytes Failed = refl

pub last_until : (stop : Pulled) (bytes : List ℕ) → Lacks 10 bytes → is_line stop (length bytes) ≡ true
    → lines_until stop bytes ≡ bytes ∷ lines_until stop (drop (length bytes) bytes)
last_until stop bytes lacks is =
    last_piece stop bytes lacks ∙ ap (λ b. cond b (bytes ∷ []) []) is
    ∙ ap (λ l. bytes ∷ l) (sym (ap (lines_until stop) (drop_all (length bytes) bytes (omega arith)) ∙ no_bytes stop))

-- a last piece that is a line has a byte
pub line_has_bytes : (stop : Pulled) (count : ℕ) → is_line stop count ≡ true → 0 < count
line_has_bytes End count is = ltb-true 0 count is
line_has_bytes TooMany count is = omega (arith, ltb-true MAX_LINE_BYTES count is)
line_has_bytes Failed count is = omega (arith, ltb-true MAX_LINE_BYTES count is)

pub first_lacks : (text : List ℕ) → Lacks 10 (first_line text)
first_lacks [] = λ k lt. absurd (omega arith)
first_lacks (b ∷ bs) = by (b == 10) refl (first_lacks bs)
  where
    by : (newline : Bool) → (b == 10) ≡ newline → Lacks 10 (first_line bs) → Lacks 10 (cond newline [] (b ∷ first_line bs))
    by true is lacks = λ k lt. absurd (omega arith)
    by false is lacks = lacks_cons 10 b (first_line bs) (eqb-false b 10 is) lacks

-- what stands behind a line begins with its newline
pub newline_behind : (text : List ℕ) (b : ℕ) (bs : List ℕ) → behind_line text ≡ b ∷ bs → b ≡ 10
newline_behind [] b bs e = absurd cc
newline_behind (x ∷ xs) b bs e = by (x == 10) refl (newline_behind xs b bs) e
  where
    by : (newline : Bool) → (x == 10) ≡ newline → (behind_line xs ≡ b ∷ bs → b ≡ 10) → cond newline (x ∷ xs) (behind_line xs) ≡ b ∷ bs → b ≡ 10
    by true is more e = let same : x ≡ b = cc in sym same ∙ eqb-true x 10 is
    by false is more e = more e

-- a line with its newline, and the last one without
pub cut_at_newline : (stop : Pulled) (bytes line rest : List ℕ) → Lacks 10 line → bytes ≡ line ++ 10 ∷ rest → IsCut stop bytes line (length line + 1)
cut_at_newline stop bytes line rest lacks e = record {
  first = sym (ap first_line e ∙ first_behind line (10 ∷ rest) lacks ∙ append-nil line);
  some = omega arith;
  within = omega (arith, ap length e, length-append line (10 ∷ rest));
  ends = inl (e ∙ ap (λ l. line ++ 10 ∷ l) (sym (ap (drop (length line + 1)) e ∙ drop_at_newline line rest)));
  cut = cut_until stop bytes line rest lacks e;
}

pub cut_last : (stop : Pulled) (bytes : List ℕ) → Lacks 10 bytes → is_line stop (length bytes) ≡ true → IsCut stop bytes bytes (length bytes)
cut_last stop bytes lacks is = record {
  first = sym (ap first_line (sym (append-nil bytes)) ∙ first_behind bytes [] lacks ∙ append-nil bytes);
  some = line_has_bytes stop (length bytes) is;
  within = omega arith;
  ends = inr (refl, refl, is);
  cut = last_until stop bytes lacks is;
}

-- the line of an event, behind which these bytes stand
module _ (stop : Pulled) (bytes : List ℕ) (e : Event) (after : List ℕ) (has : HasLine event_in bytes e after) where
  parts : bytes ≡ first_line bytes ++ after
  parts = line_parts bytes ∙ ap (λ l. first_line bytes ++ l) has.behind

  pub line_length : length bytes ≡ length (first_line bytes) + length after
  line_length = ap length parts ∙ length-append (first_line bytes) after

  says_at : (said : Said) (count : ℕ) → LineSays (first_line bytes) said → IsCut stop bytes (first_line bytes) count → SaysFirst stop bytes said count
  says_at said count says cut = record { line = first_line bytes; says = says; is_cut = cut }

  pub says_before : (said : Said) (count : ℕ) → ((line : List ℕ) → event_in line ≡ Some e → length line ≡ count → LineSays line said) → count + length after ≡ length bytes
      → 0 < length after → SaysFirst stop bytes said (count + 1)
  says_before said count says long some = by after refl
    where
      by : (l : List ℕ) → after ≡ l → SaysFirst stop bytes said (count + 1)
      by [] is = absurd (omega (arith, some, ap length is))
      by (b ∷ bs) is =
          let here : first_line bytes ++ after ≡ first_line bytes ++ 10 ∷ bs =
          ap (λ l. first_line bytes ++ l) (is ∙ ap (λ x. x ∷ bs) (newline_behind bytes b bs (has.behind ∙ is))) in
          let same : length (first_line bytes) ≡ count = omega (arith, line_length, long) in
          says_at said (count + 1) (says (first_line bytes) has.found same)
          (subst (λ k. IsCut stop bytes (first_line bytes) (k + 1)) same (cut_at_newline stop bytes (first_line bytes) bs (first_lacks bytes) (parts ∙ here)))

  whole : length after ≡ 0 → bytes ≡ first_line bytes
  whole none = by after refl
    where
      by : (l : List ℕ) → after ≡ l → bytes ≡ first_line bytes
      by [] is = parts ∙ ap (λ l. first_line bytes ++ l) is ∙ append-nil (first_line bytes)
      by (b ∷ bs) is = absurd (omega (arith, none, ap length is))

  pub says_last : (said : Said) (count : ℕ) → ((line : List ℕ) → event_in line ≡ Some e → length line ≡ count → LineSays line said) → count + length after ≡ length bytes
      → length after ≡ 0 → is_line stop count ≡ true → SaysFirst stop bytes said count
  says_last said count says long none is =
      let same : length (first_line bytes) ≡ count = omega (arith, line_length, long) in
      let all = whole none in
      let counts : length bytes ≡ count = omega (arith, long, none) in
      let cut = cut_last stop bytes (subst (Lacks 10) (sym all) (first_lacks bytes)) (subst (λ k. is_line stop k ≡ true) (sym counts) is) in
      says_at said count (says (first_line bytes) has.found same) (subst (λ l. IsCut stop bytes l count) all (subst (λ k. IsCut stop bytes bytes k) counts cut))

  pub none_says : (count : ℕ) → count + length after ≡ length bytes → length after ≡ 0 → is_line stop count ≡ false → lines_until stop bytes ≡ []
  none_says count long none is =
      let counts : length bytes ≡ count = omega (arith, long, none) in
      none_until stop bytes (subst (Lacks 10) (sym (whole none)) (first_lacks bytes)) (subst (λ k. is_line stop k ≡ false) (sym counts) is)

pub at_place : (stop : Pulled) (bytes : List ℕ) (at : ℕ) (said : Said) (count : ℕ) → SaysFirst stop (take (length bytes - at) (drop at bytes)) said count → SaysFirst stop (drop at bytes) said count
at_place stop bytes at said count first = subst (λ (l : List ℕ). SaysFirst stop l said count) (take_rest bytes at) first

pub some_bytes : (bytes : List ℕ) → (length bytes == 0) ≡ false → 0 < length bytes
some_bytes [] e = absurd cc
some_bytes (b ∷ bs) e = omega arith

pub no_length : (bytes : List ℕ) → (length bytes == 0) ≡ true → length bytes ≡ 0
no_length [] e = refl
no_length (b ∷ bs) e = omega (arith, eqb-true (length (b ∷ bs)) 0 e)
