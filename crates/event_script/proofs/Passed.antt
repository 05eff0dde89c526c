-- Lines that are passed over or read, and where the last newline ends.
use Rattle.std.proofs.Common.{◌≡◌, ◌<◌, ◌≤◌, ◌+◌, ◌-◌, ℕ, Bool, true, false, Option, List, [], ◌∷◌, ◌++◌, inl, inr, ⊎_elim, length, get_or, drop, refl, sym, ap, ◌∙◌, subst, arith, Ok}
use Rattle.std.specs.Bool.{MatchBool}
use Rattle.std.proofs.lemmas.List.{length-append, length-drop, drop-drop, get_or-drop, get_or_at, append-nil}
use Rattle.std.proofs.lemmas.Bool.{eq-eqb, eqb-true}
use Rattle.memchr.specs.Find.{Nowhere, NoneAfter, Passes, is_byte}
use Rattle.stat_defs.specs.declared.events.Event.{Event}
use Rattle.stat_defs.specs.declared.reports.FileEnd.{FileEnd}
use Rattle.stat_defs.specs.declared.reports.FileEnd.TheVariants as file
use Rattle.stats_io.specs.declared.pulling.Pulled.{Pulled}
use Rattle.event_script.specs.declared.cutting.Place.{Place}
use Rattle.event_script.specs.declared.cutting.Said.TheVariants as said
use Rattle.event_script.specs.declared.limits.TheConstants.{MAX_FILE_BYTES, MAX_LINE_BYTES, MAX_EVENTS}
use Rattle.event_script.specs.declared.step.Step.TheVariants as step
use Rattle.event_script.specs.Grammar.{Lacks, IsPassedOver, IsLineOf, IsNoLine}
use Rattle.event_script.specs.EventIn.{first_line, behind_line}
use Rattle.event_script.specs.Said.{IsCut, SaysFirst}
use Rattle.event_script.specs.Script.{LinesGive, is_line, lines_until}
use Rattle.event_script.specs.Reader.{Gives}
use Rattle.event_script.specs.Window.{stop_of, IsPiece, HasOwnLine, IsWholeEnd}
use Rattle.event_script.specs.Passing.{GivesAt, HasNoPassed, PassesOver, IsLineEnd, ReadsLine}
use Rattle.event_script.proofs.CutLines.{none_found, cut_at_newline, cut_last, first_lacks, newline_behind}
use Rattle.event_script.proofs.PartThen.{line_parts}
use Rattle.event_script.proofs.Streams.{gives_line, gives_fault}

-- a byte behind a place
behind_place : (bytes : List ℕ) (at k : ℕ) → get_or (drop at bytes) k 0 ≡ get_or bytes (at + k) 0
behind_place bytes at k = get_or-drop at bytes k 0

-- no newline was found
pub whole_none : (bytes : List ℕ) → Nowhere (Passes (is_byte 10) bytes) 0 (length bytes) → IsWholeEnd bytes 0
whole_none bytes none = record { within = omega arith; newline = λ some. absurd (omega (arith, some)); last = none_found bytes none }

-- the last newline was found at that place
pub whole_some : (bytes : List ℕ) (at : ℕ) → NoneAfter (Passes (is_byte 10) bytes) 0 (length bytes) at → Passes (is_byte 10) bytes at → IsWholeEnd bytes (at + 1)
whole_some bytes at none here = record {
  within = omega (arith, none.high);
  newline = λ some. subst (λ (k : ℕ). get_or bytes k 0 ≡ 10) (omega arith) (eqb-true (get_or bytes at 0) 10 here);
  last = λ k lt same. none.after (at + 1 + k) (omega arith) (omega (arith, lt, length-drop (at + 1) bytes, none.high))
      (eq-eqb (get_or bytes (at + 1 + k) 0) 10 (sym (behind_place bytes (at + 1) k) ∙ same));
}

-- no newline stands behind the last one
pub piece_lacks : (bytes : List ℕ) (at whole : ℕ) → whole ≤ at → at ≤ length bytes → IsWholeEnd bytes whole → Lacks 10 (drop at bytes)
piece_lacks bytes at whole behind within is = λ k lt same.
    let place : whole + (at - whole + k) ≡ at + k = omega (arith, behind) in
    is.last (at - whole + k) (omega (arith, lt, behind, within, length-drop at bytes, length-drop whole bytes))
    (behind_place bytes whole (at - whole + k) ∙ ap (λ (i : ℕ). get_or bytes i 0) place ∙ sym (behind_place bytes at k) ∙ same)

-- a newline stands behind the place
pub own_line : (stop : Pulled) (bytes : List ℕ) (at whole : ℕ) → at < whole → IsWholeEnd bytes whole → HasNoPassed stop (drop at bytes) → HasOwnLine stop (drop at bytes)
own_line stop bytes at whole before is none = by (behind_line rest) refl
  where
    rest : List ℕ
    rest = drop at bytes

    newline : get_or rest (whole - 1 - at) 0 ≡ 10
    newline =
        let place : at + (whole - 1 - at) ≡ whole - 1 = omega (arith, before) in
        behind_place bytes at (whole - 1 - at) ∙ ap (λ (i : ℕ). get_or bytes i 0) place ∙ is.newline (omega (arith, before))

    by : (behind : List ℕ) → behind_line rest ≡ behind → HasOwnLine stop rest
    by [] ends =
        let all : rest ≡ first_line rest = line_parts rest ∙ ap (λ l. first_line rest ++ l) ends ∙ append-nil (first_line rest) in
        absurd (subst (Lacks 10) (sym all) (first_lacks rest) (whole - 1 - at) (omega (arith, before, is.within, length-drop at bytes)) newline)
    by (b ∷ bs) ends =
        let parts : rest ≡ first_line rest ++ 10 ∷ bs = line_parts rest ∙ ap (λ l. first_line rest ++ l) (ends ∙ ap (λ x. x ∷ bs) (newline_behind rest b bs ends)) in
        let cut = cut_at_newline stop rest (first_line rest) bs (first_lacks rest) parts in
        record { line = first_line rest; count = length (first_line rest) + 1; is_cut = cut; own = none (first_line rest) (length (first_line rest) + 1) cut }

-- a piece behind the last newline is a line, or is none yet
pub line_or_piece : (stop : Pulled) (rest : List ℕ) (b : Bool) → is_line stop (length rest) ≡ b → Lacks 10 rest → HasNoPassed stop rest
    → MatchBool b (HasOwnLine stop rest) (IsPiece stop rest)
line_or_piece stop rest true is lacks none =
    let cut = cut_last stop rest lacks is in record { line = rest; count = length rest; is_cut = cut; own = none rest (length rest) cut }
line_or_piece stop rest false is lacks none = (lacks, is)

-- what stands behind a place and so many bytes more
moved : (stopped : Option Pulled) (number given dropped at count : ℕ) (bytes more : List ℕ) (last : Pulled) (events : List Event) (end : FileEnd)
    → Gives stopped number given (dropped + (at + count)) (drop (at + count) bytes) more last events end
    → Gives stopped number given (dropped + at + count) (drop count (drop at bytes)) more last events end
moved stopped number given dropped at count bytes more last events end gives =
    let place : dropped + (at + count) ≡ dropped + at + count = omega arith in
    subst (λ (o : ℕ). Gives stopped number given o (drop count (drop at bytes)) more last events end) place
    (subst (λ (l : List ℕ). Gives stopped number given (dropped + (at + count)) l more last events end) (sym (drop-drop count at bytes)) gives)

-- nothing is passed over
pub passes_none : (stop : Pulled) (bytes : List ℕ) (place : Place) → PassesOver stop bytes place place
passes_none stop bytes place = record {
  onward = omega arith;
  number = omega arith;
  numbered = omega arith;
  given = refl;
  gives = λ stopped is dropped fits more last events end gives. gives;
}

module _ (stop : Pulled) (bytes : List ℕ) (place : Place) (line : List ℕ) (count : ℕ) (within : place.at ≤ length bytes) (cut : IsCut stop (drop place.at bytes) line count) where
  rest_fits : (dropped : ℕ) → dropped + length bytes ≤ MAX_FILE_BYTES → dropped + place.at + length (drop place.at bytes) ≤ MAX_FILE_BYTES
  rest_fits dropped fits = omega (arith, length-drop place.at bytes, within, fits)

  cut_as : (stopped : Option Pulled) → stop_of stopped ≡ stop → IsCut (stop_of stopped) (drop place.at bytes) line count
  cut_as stopped is = subst (λ (s : Pulled). IsCut s (drop place.at bytes) line count) (sym is) cut

  -- one line more is passed over
  pub passes_more : (old : Place) → PassesOver stop bytes old place → length line ≤ MAX_LINE_BYTES → IsPassedOver line
      → PassesOver stop bytes old (record { at = place.at + count; number = place.number + 1; given = place.given })
  passes_more old so short passed = record {
    onward = omega (arith, so.onward);
    number = omega (arith, so.number);
    numbered = omega (arith, so.numbered, cut.some);
    given = so.given;
    gives = λ stopped is dropped fits more last events end gives. so.gives stopped is dropped fits more last events end
        (gives_line place.number place.given (place.number + 1) place.given line events events end (λ lines s r. inr (short, inl (passed, r)))
        stopped (drop place.at bytes) count (cut_as stopped is) short (dropped + place.at) (rest_fits dropped fits) more last
        (moved stopped (place.number + 1) place.given dropped place.at count bytes more last events end gives));
  }

  -- the line ends before the next place
  line_ends : IsLineEnd bytes (place.at + count)
  line_ends = ⊎_elim
      (λ whole.
      let long : length (drop place.at bytes) ≡ length line + length (10 ∷ drop count (drop place.at bytes)) = ap length whole ∙ length-append line (10 ∷ drop count (drop place.at bytes)) in
      let counts : place.at + length line ≡ place.at + count - 1 = omega (arith, long, length-drop count (drop place.at bytes), cut.within) in
      let here : get_or (drop place.at bytes) (length line) 0 ≡ 10 = ap (λ (l : List ℕ). get_or l (length line) 0) whole ∙ get_or_at line 10 (drop count (drop place.at bytes)) 0 (length line) refl in
      inr (omega (arith, cut.some), subst (λ (k : ℕ). get_or bytes k 0 ≡ 10) counts (sym (behind_place bytes place.at (length line)) ∙ here)))
      (λ last. inl (omega (arith, last.1, length-drop place.at bytes, within)))
      cut.ends

  -- the line is an event's
  pub reads_event : (e : Event) → length line ≤ MAX_LINE_BYTES → IsLineOf line e → place.given < MAX_EVENTS
      → ReadsLine stop bytes place (record { at = place.at + count; number = place.number + 1; given = place.given + 1 }) (Ok (step.Event e))
  reads_event e short is few = record {
    onward = omega arith;
    number = omega arith;
    numbered = omega (arith, cut.some);
    given = omega arith;
    few = omega (arith, few);
    ends = tt;
    near = line_ends;
    gives = λ stopped at dropped fits more last events end gives.
        gives_line place.number place.given (place.number + 1) (place.given + 1) line (e ∷ events) events end (λ lines s r. inr (short, inr (inl (e, is, inl (events, few, refl, r)))))
        stopped (drop place.at bytes) count (cut_as stopped at) short (dropped + place.at) (rest_fits dropped fits) more last
        (moved stopped (place.number + 1) (place.given + 1) dropped place.at count bytes more last events end gives);
  }

  module _ (few : place.given ≤ MAX_EVENTS) where
    fault_gives : (fault : FileEnd) → (fault ≡ file.ReadFault → ⊥) → ((lines : List (List ℕ)) (s : Pulled) → LinesGive place.number place.given (line ∷ lines) s [] fault)
        → (stopped : Option Pulled) → stop_of stopped ≡ stop → (dropped : ℕ) → dropped + length bytes ≤ MAX_FILE_BYTES → (more : List ℕ) (last : Pulled) (events : List Event) (end : FileEnd)
        → (events ≡ []) × (end ≡ fault) → GivesAt stopped bytes dropped place more last events end
    fault_gives fault other every stopped is dropped fits more last events end ended =
        rw (ended.0, ended.1) (gives_fault place.number place.given line fault other every stopped (drop place.at bytes) count (cut_as stopped is) (dropped + place.at) (rest_fits dropped fits) more last)

    pub reads_too_long : MAX_LINE_BYTES < length line → ReadsLine stop bytes place place (Ok (step.LineTooLong place.number))
    reads_too_long long = record {
      onward = omega arith;
      number = tt;
      numbered = omega arith;
      given = omega arith;
      few = few;
      ends = tt;
      near = tt;
      gives = fault_gives (file.LineTooLong place.number) (λ e. cc) (λ lines s. inl (long, refl, refl));
    }

    pub reads_no_line : length line ≤ MAX_LINE_BYTES → IsNoLine line → ReadsLine stop bytes place place (Ok (step.BadLine place.number))
    reads_no_line short is = record {
      onward = omega arith;
      number = tt;
      numbered = omega arith;
      given = omega arith;
      few = few;
      ends = tt;
      near = tt;
      gives = fault_gives (file.BadLine place.number) (λ e. cc) (λ lines s. inr (short, inr (inr (is, refl, refl))));
    }

    pub reads_too_many : (e : Event) → length line ≤ MAX_LINE_BYTES → IsLineOf line e → MAX_EVENTS ≤ place.given → ReadsLine stop bytes place place (Ok step.TooMany)
    reads_too_many e short is many = record {
      onward = omega arith;
      number = tt;
      numbered = omega arith;
      given = omega arith;
      few = few;
      ends = tt;
      near = tt;
      gives = fault_gives file.TooMany (λ e. cc) (λ lines s. inr (short, inr (inl (e, is, inr (many, refl, refl)))));
    }

-- the line is passed over, and is none that is
pub not_nothing : (stop : Pulled) (bytes : List ℕ) (count : ℕ) → HasOwnLine stop bytes → SaysFirst stop bytes said.Nothing count → ⊥
not_nothing stop bytes count own first =
    let same : first.line ≡ own.line = first.is_cut.first ∙ sym own.is_cut.first in
    let short : length own.line ≤ MAX_LINE_BYTES = subst (λ (l : List ℕ). length l ≤ MAX_LINE_BYTES) same first.says.0 in
    own.own short (subst IsPassedOver same first.says.1)

pub not_none : (stop : Pulled) (bytes : List ℕ) → HasOwnLine stop bytes → lines_until stop bytes ≡ [] → ⊥
not_none stop bytes own none = let cut = sym none ∙ own.is_cut.cut in absurd cc
