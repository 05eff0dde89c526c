-- What pending bytes give behind a pull.
use Rattle.std.proofs.Common.{◌≡◌, ◌<◌, ◌≤◌, ◌+◌, ◌-◌, ℕ, Option, Some, None, MatchOption, List, [], ◌++◌, ⊎_elim, length, take, drop, get_or, refl, sym, ap, ◌∙◌, subst, arith, append_assoc, append-nil, add-zero}
use Rattle.std.proofs.lemmas.List.{take-append-le, length-append, length-drop, length-take-le, get_or_append_left, get_or-take}
use Rattle.std.proofs.lemmas.List.Elements.{All-nil}
use Rattle.std.proofs.lemmas.Bool.{cases_lt, ltb-false}
use Rattle.std.specs.Io.KnownBytes.{Consumes, IsAtEnd, Keeps}
use Rattle.stat_defs.specs.Faults.{Rose}
use Rattle.stat_defs.specs.declared.events.Event.{Event}
use Rattle.stat_defs.specs.declared.reports.FileEnd.{FileEnd}
use Rattle.stat_defs.specs.declared.reports.FileEnd.TheVariants as file
use Rattle.stats_io.specs.States.{SourceState, IsLater}
use Rattle.std.proofs.KnownBytes.{Consumes-nil}
use Rattle.stats_io.proofs.Pieces.{kept_consumes}
use Rattle.stats_io.specs.declared.source.Pull.{Pull}
use Rattle.stats_io.specs.declared.source.Pull.TheVariants as pull
use Rattle.stats_io.specs.declared.pulling.Pulled.{Pulled}
use Rattle.stats_io.specs.declared.pulling.Pulled.TheVariants.{End, TooMany, Failed}
use Rattle.event_script.specs.declared.cutting.Place.{Place}
use Rattle.event_script.specs.declared.window.Window.{Window}
use Rattle.event_script.specs.declared.limits.TheConstants.{MAX_FILE_BYTES, MAX_LINE_BYTES, MAX_PULL_BYTES}
use Rattle.event_script.specs.Grammar.{Lacks, IsLawful}
use Rattle.event_script.specs.Script.{LinesGive, lines_until, FileFrom}
use Rattle.event_script.specs.Reader.{Reading, Gives, Comes, MayFollow}
use Rattle.event_script.specs.Answer.{IsAnswer, no_answer}
use Rattle.event_script.specs.Window.{IsHeld, IsPiece, IsWholeEnd, AddsBytes, AddsPull, IsCutShort}
use Rattle.event_script.specs.ReaderKept.{IsReaderKept}
use Rattle.event_script.specs.Ready.{GoesOn}
use Rattle.event_script.proofs.CutLines.{none_until}
use Rattle.event_script.proofs.AnswerStep.{seen, holds_taken}

module _ (number given offset : ℕ) (pending : List ℕ) (events : List Event) (end : FileEnd) where
  -- the source stopped within the limit
  pub gives_stopped : (stop : Pulled) → offset + length pending ≤ MAX_FILE_BYTES → LinesGive number given (lines_until stop pending) stop events end
      → FileFrom number given offset (pending ++ []) stop events end
  gives_stopped stop fits reads =
      let long : length (pending ++ []) ≡ length pending = ap length (append-nil pending) in
      ((λ _. subst (λ (l : List ℕ). LinesGive number given (lines_until stop l) stop events end) (sym (append-nil pending)) reads), (λ big. absurd (omega (arith, big, fits, long))))

  -- it gave a byte too many
  pub gives_past : (got more : List ℕ) (last : Pulled) → MAX_FILE_BYTES < offset + length (pending ++ got)
      → LinesGive number given (lines_until TooMany (take (MAX_FILE_BYTES - offset) (pending ++ got))) TooMany events end
      → FileFrom number given offset (pending ++ (got ++ more)) last events end
  gives_past got more last big reads =
      let e : pending ++ (got ++ more) ≡ (pending ++ got) ++ more = sym (append_assoc pending got more) in
      let long : length (pending ++ (got ++ more)) ≡ length (pending ++ got) + length more = ap length e ∙ length-append (pending ++ got) more in
      let cut : take (MAX_FILE_BYTES - offset) (pending ++ (got ++ more)) ≡ take (MAX_FILE_BYTES - offset) (pending ++ got) =
      ap (take (MAX_FILE_BYTES - offset)) e ∙ take-append-le (MAX_FILE_BYTES - offset) (pending ++ got) more (omega (arith, big)) in
      ((λ fits. absurd (omega (arith, fits, long, big))), (λ _. subst (λ (l : List ℕ). LinesGive number given (lines_until TooMany l) TooMany events end) (sym cut) reads))

  -- it gave more bytes
  pub gives_more : (got more : List ℕ) (last : Pulled) (new_offset : ℕ) (held : List ℕ) → new_offset ≡ offset → held ≡ pending ++ got
      → FileFrom number given new_offset (held ++ more) last events end → FileFrom number given offset (pending ++ (got ++ more)) last events end
  gives_more got more last new_offset held same is gives =
      subst (λ (o : ℕ). FileFrom number given o (pending ++ (got ++ more)) last events end) same
      (subst (λ (l : List ℕ). FileFrom number given new_offset l last events end) (ap (λ l. l ++ more) is ∙ append_assoc pending got more) gives)

-- a newline that is held behind a pull stands among its bytes
late : (piece got : List ℕ) (k : ℕ) → Lacks 10 piece → get_or (piece ++ got) k 0 ≡ 10 → length piece ≤ k
late piece got k lacks newline = ⊎_elim
    (λ before. absurd (lacks k before (sym (get_or_append_left piece got 0 k before) ∙ newline)))
    (λ behind. behind)
    (cases_lt k (length piece))

module _ {S : Type 0} (state : S → SourceState) (source later : S) (held : List ℕ) (window now : Window) (place : Place) (first : ℕ)
    (kept : IsReaderKept held window place first None None (state source)) (piece : IsPiece Failed (drop place.at held))
    (dropped : now.dropped ≡ window.dropped + place.at) (is_later : IsLater (state source) (state later)) where
  abbrev pub before : Reading S
  before = seen source held window place first None None

  abbrev pub start : Place
  start = record { at = 0; number = place.number; given = place.given }

  fits : window.dropped + place.at + length (drop place.at held) ≤ MAX_FILE_BYTES
  fits = omega (arith, length-drop place.at held, kept.within, kept.held.short)

  piece_short : length (drop place.at held) ≤ MAX_LINE_BYTES
  piece_short = ltb-false MAX_LINE_BYTES (length (drop place.at held)) piece.1

  piece_length : length (drop place.at held) + place.at ≡ length held
  piece_length = omega (arith, length-drop place.at held, kept.within)

  same_offset : now.dropped + 0 ≡ window.dropped + place.at
  same_offset = add-zero now.dropped ∙ dropped

  faults_later : first ≤ (state later).faults
  faults_later = omega (arith, kept.later, is_later.count)

  -- the source ended, failed, or gave nothing for want of memory
  module _ (taken : now.taken ≡ window.taken) (whole : now.whole ≡ 0) (keeps : Consumes (state source).left (state later).left []) where
    held_piece : (stopped : Option Pulled) → IsHeld (drop place.at held) now stopped
    held_piece stopped = record {
      whole = record { within = omega (arith, whole); newline = λ some. absurd (omega (arith, some, whole)); last = subst (λ (n : ℕ). Lacks 10 (drop n (drop place.at held))) (sym whole) piece.0 };
      late = λ k lt newline. absurd (piece.0 k lt newline);
      all = omega (arith, taken, dropped, piece_length, kept.held.all);
      but_one = omega (arith, taken, dropped, piece_length, kept.held.but_one);
      no_more = λ none. omega (arith, taken, dropped, piece_length, kept.held.no_more refl);
      short = omega (arith, dropped, piece_length, kept.held.short);
      few = omega (arith, taken, dropped, piece_length, piece_short, kept.held.but_one);
      bound = omega (arith, taken, kept.held.bound);
    }

    within_piece : 0 ≤ length (drop place.at held)
    within_piece = omega arith

    -- nothing was taken, and the source stopped so
    still : (stopped : Option Pulled) (ended : Option FileEnd) → (stopped ≡ Some End → IsAtEnd (state later).left)
        → ((more : List ℕ) (last : Pulled) (others : List Event) (end : FileEnd) → MayFollow stopped more last → Comes (seen later (drop place.at held) now start first stopped ended) more last others end
        → FileFrom place.number place.given (window.dropped + place.at) (drop place.at held ++ more) last others end)
        → IsAnswer state before (seen later (drop place.at held) now start first stopped ended) no_answer
    still stopped ended at_end answers = record {
      got = [];
      moves = record {
        consumed = keeps;
        later = is_later;
        first = refl;
        taken = taken ∙ sym (add-zero window.taken);
        given = sym (add-zero place.given);
        follows = λ more last may. tt;
        answers = answers;
      };
      lawful = All-nil IsLawful;
      onward = tt;
      ended = tt;
      whole = at_end;
      few = kept.few;
      short = omega (arith, kept.within, kept.numbered, kept.held.short);
      bound = omega (arith, taken, kept.held.bound);
      held = holds_taken later (drop place.at held) now start first stopped stopped ended (held_piece stopped) within_piece;
      near = tt;
    }

    pub goes_end : IsAtEnd (state later).left → GoesOn state before (seen later (drop place.at held) now start first (Some End) None)
    goes_end at_end = record {
      answer = still (Some End) None (λ e. at_end) (λ more last others end may comes.
          rw (may.0, may.1) (gives_stopped place.number place.given (window.dropped + place.at) (drop place.at held) others end End fits comes));
      number = omega arith;
      fault = λ none fault. cc;
    }

    pub goes_failed : Rose (state source).faults (state later).faults → GoesOn state before (seen later (drop place.at held) now start first (Some Failed) (Some file.ReadFault))
    goes_failed rose = record {
      answer = still (Some Failed) (Some file.ReadFault) (λ e. absurd cc) (λ more last others end may comes.
          rw (may.0, may.1, comes.0, comes.1) (gives_stopped place.number place.given (window.dropped + place.at) (drop place.at held) [] file.ReadFault Failed fits
          (rw (none_until Failed (drop place.at held) piece.0 piece.1) (refl, refl))));
      number = omega arith;
      fault = λ none fault. rose;
    }

    -- no memory was there
    pub goes_none : GoesOn state before (seen later (drop place.at held) now start first None None)
    goes_none = record {
      answer = still None None (λ e. absurd cc) (λ more last others end may comes.
          gives_more place.number place.given (window.dropped + place.at) (drop place.at held) others end [] more last (now.dropped + 0) (drop place.at held) same_offset (sym (append-nil (drop place.at held))) comes);
      number = omega arith;
      fault = λ none fault. cc;
    }

  -- bytes were taken
  module _ (bytes new : List ℕ) (count most : ℕ) (adds : AddsBytes (state source) (state later) (drop place.at held) bytes count most) (taken : now.taken ≡ window.taken + count)
      (asked : most ≤ MAX_PULL_BYTES) (bound : now.taken ≤ MAX_FILE_BYTES + 1) (whole : IsWholeEnd new now.whole) where
    bytes_length : length bytes ≡ length (drop place.at held) + count
    bytes_length = omega (arith, ap length adds.appended, length-append (drop place.at held) adds.got, adds.counted)

    all_taken : now.taken ≡ now.dropped + length bytes
    all_taken = omega (arith, taken, dropped, bytes_length, piece_length, kept.held.no_more refl)

    late_bytes : (k : ℕ) → get_or bytes k 0 ≡ 10 → now.taken ≤ now.dropped + k + MAX_PULL_BYTES
    late_bytes k newline =
        let behind = late (drop place.at held) adds.got k piece.0 (ap (λ (l : List ℕ). get_or l k 0) (sym adds.appended) ∙ newline) in
        omega (arith, behind, all_taken, bytes_length, adds.few, asked)

    took : (stopped : Option Pulled) → (stopped ≡ Some End → ⊥) → IsHeld new now stopped
        → ((more : List ℕ) (last : Pulled) (others : List Event) (end : FileEnd) → Gives stopped place.number place.given (now.dropped + 0) new more last others end
        → FileFrom place.number place.given (window.dropped + place.at) (drop place.at held ++ (adds.got ++ more)) last others end)
        → GoesOn state before (seen later new now start first stopped None)
    took stopped not_end is answers = record {
      answer = record {
        got = adds.got;
        moves = record {
          consumed = adds.consumed;
          later = is_later;
          first = refl;
          taken = omega (arith, taken, adds.counted);
          given = sym (add-zero place.given);
          follows = λ more last may. tt;
          answers = λ more last others end may comes. answers more last others end comes;
        };
        lawful = All-nil IsLawful;
        onward = tt;
        ended = tt;
        whole = λ e. absurd (not_end e);
        few = kept.few;
        short = omega (arith, kept.within, kept.numbered, kept.held.short);
        bound = bound;
        held = holds_taken later new now start first stopped stopped None is (omega arith);
        near = tt;
      };
      number = omega arith;
      fault = λ none fault. cc;
    }

    -- within the limit of a file
    module _ (is : new ≡ bytes) (few : now.taken ≤ MAX_FILE_BYTES) where
      held_all : IsHeld new now None
      held_all = record {
        whole = whole;
        late = λ k lt newline. late_bytes k (ap (λ (l : List ℕ). get_or l k 0) (sym is) ∙ newline);
        all = omega (arith, all_taken, ap length is);
        but_one = omega (arith, all_taken, ap length is);
        no_more = λ none. omega (arith, all_taken, ap length is);
        short = omega (arith, all_taken, ap length is, few);
        few = omega (arith, all_taken, bytes_length, piece_short, adds.few, asked);
        bound = bound;
      }

      pub goes_more : GoesOn state before (seen later new now start first None None)
      goes_more = took None (λ e. absurd cc) held_all
          (λ more last others end gives. gives_more place.number place.given (window.dropped + place.at) (drop place.at held) others end adds.got more last (now.dropped + 0) new same_offset (is ∙ adds.appended) gives)

    -- past it
    module _ (stop : Pulled) (cut : IsCutShort bytes new now stop) where
      cut_length : length new ≡ MAX_FILE_BYTES - now.dropped
      cut_length = ap length cut.cut ∙ length-take-le (MAX_FILE_BYTES - now.dropped) bytes (omega (arith, all_taken, cut.count))

      held_cut : IsHeld new now (Some TooMany)
      held_cut = record {
        whole = whole;
        late = λ k lt newline. late_bytes k (sym (get_or-take (MAX_FILE_BYTES - now.dropped) bytes k 0 (omega (arith, lt, cut_length))) ∙ ap (λ (l : List ℕ). get_or l k 0) (sym cut.cut) ∙ newline);
        all = omega (arith, all_taken, cut_length, cut.count);
        but_one = omega (arith, all_taken, cut_length, cut.count);
        no_more = λ none. absurd cc;
        short = omega (arith, cut_length, cut.count, all_taken, dropped, fits);
        few = omega (arith, all_taken, bytes_length, piece_short, adds.few, asked);
        bound = bound;
      }

      goes_cut : GoesOn state before (seen later new now start first (Some TooMany) None)
      goes_cut = took (Some TooMany) (λ e. absurd cc) held_cut
          (λ more last others end gives. gives_past place.number place.given (window.dropped + place.at) (drop place.at held) others end adds.got more last
          (omega (arith, cut.count, taken, kept.held.no_more refl, piece_length, length-append (drop place.at held) adds.got, adds.counted))
          (subst (λ (l : List ℕ). LinesGive place.number place.given (lines_until TooMany l) TooMany others end)
          (cut.cut ∙ ap (λ (n : ℕ). take (MAX_FILE_BYTES - n) bytes) dropped ∙ ap (take (MAX_FILE_BYTES - (window.dropped + place.at))) adds.appended) gives))

      pub goes_past : GoesOn state before (seen later new now start first (Some stop) None)
      goes_past = rw cut.is goes_cut

-- one pull, by what came of it
module _ {S : Type 0} (state : S → SourceState) (source later : S) (held rest : List ℕ) (window now : Window) (place start : Place) (first : ℕ) (stopped : Option Pulled) (ended : Option FileEnd)
    (open_still : stopped ≡ None) (none : ended ≡ None) (kept : IsReaderKept held window place first stopped ended (state source)) (piece : IsPiece Failed (drop place.at held))
    (is_rest : rest ≡ drop place.at held) (is_now : now ≡ record { dropped = window.dropped + place.at; taken = window.taken; whole = 0 })
    (is_start : start ≡ record { at = 0; number = place.number; given = place.given }) (is_later : IsLater (state source) (state later)) where
  still_kept : IsReaderKept held window place first None None (state source)
  still_kept =
      subst (λ (o : Option Pulled). IsReaderKept held window place first o None (state source)) open_still
      (subst (λ (o : Option FileEnd). IsReaderKept held window place first stopped o (state source)) none kept)

  abbrev at_rest : Window
  at_rest = record { dropped = window.dropped + place.at; taken = window.taken; whole = 0 }

  nothing : Keeps (state source).left (state later).left → Consumes (state source).left (state later).left []
  nothing keeps = kept_consumes (state source).left (state later).left (state later).left [] keeps (Consumes-nil (state later).left)

  pub no_memory : (new : List ℕ) → (new ≡ rest) × (later ≡ source) → GoesOn state (seen source held window place first stopped ended) (seen later new now start first stopped ended)
  no_memory new same =
      let taken : Consumes (state source).left (state later).left [] = subst (λ (s : S). Consumes (state source).left (state s).left []) (sym same.1) (Consumes-nil (state source).left) in
      rw (open_still, none, same.0 ∙ is_rest, is_now, is_start) (goes_none state source later held window at_rest place first still_kept piece refl is_later refl refl taken)

  module _ (new : List ℕ) (most : ℕ) (pulled : Pull) (adds : AddsPull (state source) (state later) rest new pulled most) where
    pub at_end : pulled ≡ pull.End → GoesOn state (seen source held window place first stopped ended) (seen later new now start first (Some End) ended)
    at_end is =
        let told = rw is at adds in
        rw (open_still, none, told.0 ∙ is_rest, is_now, is_start) (goes_end state source later held window at_rest place first still_kept piece refl is_later refl refl (nothing told.1) told.2)

    pub at_fault : pulled ≡ pull.Failed → GoesOn state (seen source held window place first stopped ended) (seen later new now start first (Some Failed) (Some file.ReadFault))
    at_fault is =
        let told = rw is at adds in
        rw (open_still, none, told.0 ∙ is_rest, is_now, is_start) (goes_failed state source later held window at_rest place first still_kept piece refl is_later refl refl (nothing told.1) told.2)

    pub at_bytes : (count : ℕ) → pulled ≡ pull.Bytes count → (held_now : List ℕ) (then : Window) (stop : Option Pulled) → then.dropped ≡ now.dropped → then.taken ≡ now.taken + count
        → IsWholeEnd held_now then.whole → MatchOption stop ((held_now ≡ new) × (then.taken ≤ MAX_FILE_BYTES)) (IsCutShort new held_now then)
        → most ≤ MAX_PULL_BYTES → now.taken + most ≤ MAX_FILE_BYTES + 1
        → GoesOn state (seen source held window place first stopped ended) (seen later held_now then start first stop ended)
    at_bytes count is held_now then stop dropped taken whole cut asked bound = rw (open_still, none, is_start) (by stop cut)
      where
        told : AddsBytes (state source) (state later) (drop place.at held) new count most
        told = subst (λ (l : List ℕ). AddsBytes (state source) (state later) l new count most) is_rest (rw is at adds)

        dropped_now : then.dropped ≡ window.dropped + place.at
        dropped_now = dropped ∙ ap (λ (w : Window). w.dropped) is_now

        taken_now : then.taken ≡ window.taken + count
        taken_now = taken ∙ ap (λ (w : Window). w.taken + count) is_now

        few_taken : then.taken ≤ MAX_FILE_BYTES + 1
        few_taken = omega (arith, taken, told.few, bound)

        by : (o : Option Pulled) → MatchOption o ((held_now ≡ new) × (then.taken ≤ MAX_FILE_BYTES)) (IsCutShort new held_now then)
            → GoesOn state (seen source held window place first None None) (seen later held_now then (record { at = 0; number = place.number; given = place.given }) first o None)
        by None here = goes_more state source later held window then place first still_kept piece dropped_now is_later new held_now count most told taken_now asked few_taken whole here.0 here.1
        by (Some stop) here = goes_past state source later held window then place first still_kept piece dropped_now is_later new held_now count most told taken_now asked few_taken whole stop here
