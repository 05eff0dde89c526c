-- What stands in the first line of the bytes that are left.
use Rattle.std.proofs.Common.{◌≡◌, ◌<◌, ◌≤◌, ◌^◌, ◌⊎◌, inl, inr, ⊎_elim, ℕ, Bool, true, false, Option, None, Some, MatchOption, Bor, List, [], ◌∷◌, ◌++◌, length, take, drop, get_or, refl, sym, ap, ◌∙◌, subst, arith, append_assoc, append-nil, add-zero, ◌&&◌, length-append}
use Rattle.std.specs.List.{list_all}
use Rattle.std.specs.Char.{digit_value}
use Rattle.std.specs.Str.Parse.{AllDigits, digits_value}
use Rattle.std.specs.Fmt.{decimal}
use Rattle.std.proofs.lemmas.Fmt.{decimal_is_IsNumeral, decimal-digits_value, decimal_digit, first_decimal}
use Rattle.std.proofs.lemmas.Str.Parse.{numerals_by_value, tells_digits, digits_value-take-le}
use Rattle.std.proofs.lemmas.Bool.{cases_lt}
use Rattle.std.proofs.lemmas.List.{take-append-drop, length-take-le, get_or-take, take_at, drop_all, get_or-drop, get_or_append_left}
use Rattle.event_script.specs.Grammar.{Lacks}
use Rattle.stat_defs.specs.Names.{is_printable_byte}
use Rattle.event_script.specs.EventIn.{first_line, behind_line, part_then, read_text, read_number, read_readout}
use Rattle.event_script.specs.FirstLine.{HasPart, LacksPart, HasLine, LacksLine, is_end, HasDigits, HasMoreThan}
use Rattle.event_script.specs.Lanes.{IsStretchOf}
use Rattle.event_script.specs.FirstLine.{IsPart, IsNoPart, IsLast, IsNoLast}
use Rattle.event_script.proofs.Splits.{lacks_all, lacks_cons, no_part, part_passes}
use Rattle.event_script.proofs.PartThen.{then_at, then_none, first_behind, rest_behind, line_parts, text_is, text_reads, number_is, number_reads}

module _ {X : Type 0} (read : List ℕ → Option X) (text : List ℕ) where
  pub has_part : (part rest : List ℕ) (x : X) → text ≡ part ++ 32 ∷ rest → Lacks 32 part → Lacks 10 part → read part ≡ Some x → HasPart read text x rest
  has_part part rest x is spaceless lacks reads =
      let line : first_line text ≡ part ++ 32 ∷ first_line rest = ap first_line is ∙ first_behind part (32 ∷ rest) lacks in
      record {
        found = λ more. ap (part_then read more) line ∙ then_at read more part (first_line rest) x spaceless reads;
        behind = ap behind_line is ∙ rest_behind part (32 ∷ rest) lacks;
      }

  pub lacks_part : ((part rest : List ℕ) (x : X) → text ≡ part ++ 32 ∷ rest → read part ≡ Some x → ⊥) → LacksPart read text
  lacks_part none more = then_none read more (first_line text) (λ part rest x is reads.
      none part (rest ++ behind_line text) x (line_parts text ∙ ap (λ l. l ++ behind_line text) is ∙ append_assoc part (32 ∷ rest) (behind_line text)) reads)

-- nothing of the first line stands where it ends
ends_here : (after : List ℕ) → is_end after ≡ true → (first_line after ≡ []) × (behind_line after ≡ after)
ends_here [] e = (refl, refl)
ends_here (b ∷ bs) e = rw e (refl, refl)

goes_on : (after : List ℕ) → is_end after ≡ false → (b : ℕ) × (bs : List ℕ) × (after ≡ b ∷ bs) × (first_line after ≡ b ∷ first_line bs)
goes_on [] e = absurd cc
goes_on (b ∷ bs) e = (b, bs, refl, rw e refl)

-- a front without a newline, and what stands behind it
module _ (text : List ℕ) (count : ℕ) (lacks : Lacks 10 (take count text)) where
  pub line_front : first_line text ≡ take count text ++ first_line (drop count text)
  line_front = ap first_line (sym (take-append-drop count text)) ∙ first_behind (take count text) (drop count text) lacks

  pub line_whole : is_end (drop count text) ≡ true → (first_line text ≡ take count text) × (behind_line text ≡ drop count text)
  line_whole ends =
      let here = ends_here (drop count text) ends in (
        line_front ∙ ap (λ l. take count text ++ l) here.0 ∙ append-nil (take count text),
        ap behind_line (sym (take-append-drop count text)) ∙ rest_behind (take count text) (drop count text) lacks ∙ here.1,
      )

-- the byte that stands behind a front
next_byte : (text : List ℕ) (count b : ℕ) (bs : List ℕ) → drop count text ≡ b ∷ bs → (count < length text) × (get_or text count 0 ≡ b)
next_byte text count b bs is = ⊎_elim
    (λ more. (more, ap (λ k. get_or text k 0) (sym (add-zero count)) ∙ sym (get_or-drop count text 0 0) ∙ ap (λ (l : List ℕ). get_or l 0 0) is))
    (λ none. absurd (omega (arith, ap length (sym is ∙ drop_all count text none))))
    (cases_lt count (length text))

-- a list with a byte that fails
fails_in : (test : ℕ → Bool) (front : List ℕ) (b : ℕ) (back : List ℕ) → test b ≡ false → list_all test (front ++ b ∷ back) ≡ false
fails_in test [] b back fails = rw fails refl
fails_in test (x ∷ xs) b back fails = rw (fails_in test xs b back fails) (by (test x))
  where
    by : (c : Bool) → (c && false) ≡ false
    by true = refl
    by false = refl

module _ (test : ℕ → Bool) (not_newline : test 10 ≡ false) (text : List ℕ) (count : ℕ) (run : IsStretchOf test text count) where
  front_lacks : Lacks 10 (take count text)
  front_lacks = lacks_all test 10 (take count text) not_newline run.pass

  -- where no line ends behind the front, the line has a byte that fails
  line_fails : is_end (drop count text) ≡ false → list_all test (first_line text) ≡ false
  line_fails no_end =
      let on = goes_on (drop count text) no_end in
      let next = next_byte text count on.0 on.1 on.2 in
      let fails : test on.0 ≡ false = subst (λ x. test x ≡ false) next.1 (run.longest next.0) in
      rw (line_front text count front_lacks, on.3) (fails_in test (take count text) on.0 (first_line on.1) fails)

  front_is : (part after : List ℕ) (most : ℕ) → IsLast text count most part after → (first_line text ≡ part) × (behind_line text ≡ after)
  front_is part after most is =
      let whole = line_whole text count front_lacks (subst (λ l. is_end l ≡ true) is.behind is.ends) in
      (whole.0 ∙ sym is.first, whole.1 ∙ sym is.behind)

  pub last_reads : (most : ℕ) (part after : List ℕ) → IsLast text count most part after → HasLine (read_text test most) text part after
  last_reads most part after is =
      let front = front_is part after most is in
      record {
        found = ap (read_text test most) front.0 ∙ text_reads test most part is.some is.few (subst (λ l. list_all test l ≡ true) (sym is.first) run.pass);
        behind = front.1;
      }

  pub last_lacks : (most : ℕ) → IsNoLast text count most → LacksLine (read_text test most) text
  last_lacks most none = by (read_text test most (first_line text)) refl
    where
      given : (x : List ℕ) → read_text test most (first_line text) ≡ Some x → ⊥
      given x e =
          let is = text_is test most (first_line text) x e in
          ends (is_end (drop count text)) refl
        where
          ends : (b : Bool) → is_end (drop count text) ≡ b → ⊥
          ends false no_end =
              let is = text_is test most (first_line text) x e in
              let passes : list_all test (first_line text) ≡ true = rw is.0 is.3 in
              let fails = line_fails no_end in cc
          ends true at_end =
              let is = text_is test most (first_line text) x e in
              let whole = line_whole text count front_lacks at_end in
              let long : length x ≡ count = ap length (sym is.0 ∙ whole.0) ∙ length-take-le count text run.within in
              let refused = none (omega (arith, is.1)) (omega (arith, is.2)) in cc

      by : (o : Option (List ℕ)) → read_text test most (first_line text) ≡ o → o ≡ None
      by None e = refl
      by (Some x) e = absurd (given x e)

  pub last_found : (most : ℕ) (found : Option (Bor (List ℕ) × Bor (List ℕ))) → MatchOption found (IsNoLast text count most) (λ p. IsLast text count most p.0.now p.1.now)
      → MatchOption found (LacksLine (read_text test most) text) (λ p. HasLine (read_text test most) text p.0.now p.1.now)
  last_found most None none = last_lacks most none
  last_found most (Some p) is = last_reads most p.0.now p.1.now is

  pub part_reads : test 32 ≡ false → (most : ℕ) (part rest : List ℕ) → IsPart text count most part rest → HasPart (read_text test most) text part rest
  part_reads not_space most part rest is =
      let passes = part_passes test not_space text count most run part rest is in
      has_part (read_text test most) text part rest part is.parted (lacks_all test 32 part not_space passes) (lacks_all test 10 part not_newline passes)
      (text_reads test most part is.some is.few passes)

  pub part_lacks : test 32 ≡ false → (most : ℕ) → IsNoPart text count most → LacksPart (read_text test most) text
  part_lacks not_space most none = lacks_part (read_text test most) text (λ part rest x parted reads.
      let is = text_is test most part x reads in
      no_part test not_space text count most run none part rest (rw is.0 is.1) (rw is.0 is.2) (rw is.0 is.3) parted)

  pub part_found : test 32 ≡ false → (most : ℕ) (found : Option (Bor (List ℕ) × Bor (List ℕ))) → MatchOption found (IsNoPart text count most) (λ p. IsPart text count most p.0.now p.1.now)
      → MatchOption found (LacksPart (read_text test most) text) (λ p. HasPart (read_text test most) text p.0.now p.1.now)
  part_found not_space most None none = part_lacks not_space most none
  part_found not_space most (Some p) is = part_reads not_space most p.0.now p.1.now is

-- the text of a readout
module _ (text : List ℕ) (count : ℕ) (run : IsStretchOf is_printable_byte text count) where
  pub readout_reads : is_end (drop count text) ≡ true → HasLine read_readout text (take count text) (drop count text)
  readout_reads at_end =
      let whole = line_whole text count (front_lacks is_printable_byte refl text count run) at_end in
      record { found = ap read_readout whole.0 ∙ rw run.pass refl; behind = whole.1 }

  pub readout_lacks : is_end (drop count text) ≡ false → LacksLine read_readout text
  readout_lacks no_end = rw (line_fails is_printable_byte refl text count run no_end) refl

-- digits hold no newline
pub digits_lack : (digits : List ℕ) → AllDigits 10 digits → Lacks 10 digits
digits_lack [] all = λ k lt. absurd (omega arith)
digits_lack (c ∷ cs) all = lacks_cons 10 c cs (λ same. let low : digit_value 10 < 10 = subst (λ (b : ℕ). digit_value b < 10) same all.0 in absurd (omega arith)) (digits_lack cs all.1)

digit_in : (front : List ℕ) (b : ℕ) (back : List ℕ) → AllDigits 10 (front ++ b ∷ back) → digit_value b < 10
digit_in [] b back all = all.0
digit_in (c ∷ cs) b back all = digit_in cs b back all.1

no_number : (most : ℕ) (text : List ℕ) → ((m : ℕ) → read_number most text ≡ Some m → ⊥) → read_number most text ≡ None
no_number most text none = by (read_number most text) refl
  where
    by : (o : Option ℕ) → read_number most text ≡ o → o ≡ None
    by None e = refl
    by (Some m) e = absurd (none m e)

module _ (text : List ℕ) (most : ℕ) (small : most < 2 ^ 64) where
  pub number_over : HasMoreThan text most → LacksLine (read_number most) text
  number_over over = no_number most (first_line text) (λ m e.
      let is = number_is most (first_line text) m e in
      let front = line_front text over.count (digits_lack (take over.count text) over.digits) in
      let back : take over.count (first_line text) ≡ take over.count text =
      ap (take over.count) front ∙ take_at (take over.count text) (first_line (drop over.count text)) over.count (length-take-le over.count text over.within) in
      let least : digits_value 10 (take over.count (first_line text)) ≤ digits_value 10 (first_line text) = digits_value-take-le 10 (first_line text) over.count (omega arith) in
      let same : digits_value 10 (take over.count (first_line text)) ≡ digits_value 10 (take over.count text) = ap (digits_value 10) back in
      omega (arith, is.1, is.2, least, same, over.over))

  module _ (n count : ℕ) (has : HasDigits text n count) where
    lacks : Lacks 10 (take count text)
    lacks = digits_lack (take count text) has.digits

    long : length (take count text) ≡ count
    long = length-take-le count text has.within

    pub number_goes_on : is_end (drop count text) ≡ false → LacksLine (read_number most) text
    number_goes_on no_end = no_number most (first_line text) (λ m e.
        let is = number_is most (first_line text) m e in
        let on = goes_on (drop count text) no_end in
        let next = next_byte text count on.0 on.1 on.2 in
        let high : 10 ≤ digit_value on.0 = subst (λ x. 10 ≤ digit_value x) next.1 (has.longest next.0) in
        let line : first_line text ≡ take count text ++ on.0 ∷ first_line on.1 = line_front text count lacks ∙ ap (λ l. take count text ++ l) on.3 in
        let all : AllDigits 10 (decimal m) = (decimal_is_IsNumeral m (omega (arith, is.1))).0.1 in
        let low = digit_in (take count text) on.0 (first_line on.1) (subst (AllDigits 10) (sym is.0 ∙ line) all) in
        omega (arith, high, low))

    -- no digit stands there
    none_lacks : count ≡ 0 → LacksLine (read_number most) text
    none_lacks none = by (is_end (drop count text)) refl
      where
        by : (b : Bool) → is_end (drop count text) ≡ b → LacksLine (read_number most) text
        by false no_end = number_goes_on no_end
        by true at_end = no_number most (first_line text) (λ m e.
            let is = number_is most (first_line text) m e in
            let some = (decimal_is_IsNumeral m (omega (arith, is.1))).0.0 in
            let whole = line_whole text count lacks at_end in
            omega (arith, some, none, long, ap length (sym is.0 ∙ whole.0)))

    -- a zero stands before others
    zero_lacks : get_or text 0 0 ≡ 48 → 1 < count → LacksLine (read_number most) text
    zero_lacks first_zero more = no_number most (first_line text) (λ m e.
        let is = number_is most (first_line text) m e in
        let line = line_front text count lacks in
        let longer : 2 ≤ length (first_line text) = omega (arith, ap length line, length-append (take count text) (first_line (drop count text)), long, more) in
        let first : get_or (first_line text) 0 0 ≡ 48 =
        ap (λ l. get_or l 0 0) line ∙ get_or_append_left (take count text) (first_line (drop count text)) 0 0 (omega (arith, long, more)) ∙ get_or-take count text 0 0 (omega (arith, more)) ∙ first_zero in
        ⊎_elim
        (λ positive. let above = first_decimal m positive (omega (arith, is.1)) in omega (arith, above, first, ap (λ (l : List ℕ). get_or l 0 0) is.0))
        (λ none. let single : length (decimal m) ≡ 1 = ap length (decimal_digit m (omega (arith, none))) in omega (arith, single, longer, ap length is.0))
        (cases_lt 0 m))

    pub number_lacks : (count ≡ 0) ⊎ ((get_or text 0 0 ≡ 48) × (1 < count)) → LacksLine (read_number most) text
    number_lacks (inl none) = none_lacks none
    number_lacks (inr first) = zero_lacks first.0 first.1

    pub number_reads_here : n ≤ most → (1 ≤ count) × (get_or text 0 0 ≡ 48 → count ≡ 1) → is_end (drop count text) ≡ true → HasLine (read_number most) text n (drop count text)
    number_reads_here few numeral at_end =
        let whole = line_whole text count lacks at_end in
        let value : digits_value 10 (take count text) ≡ n = has.value in
        let is : decimal n ≡ take count text =
        ap decimal (sym value) ∙ decimal-digits_value (numerals_by_value _ tells_digits) (take count text) has.digits (omega (arith, long, numeral.0))
        (λ first. long ∙ numeral.1 (sym (get_or-take count text 0 0 (omega (arith, numeral.0))) ∙ first)) (omega (arith, value, few, small)) in
        record {
          found = ap (read_number most) (whole.0 ∙ sym is) ∙ number_reads most n few (omega (arith, few, small));
          behind = whole.1;
        }
