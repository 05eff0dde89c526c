-- From the answers of a reader to the run of its file.
use Rattle.std.proofs.Common.{◌≡◌, ◌<◌, ◌≤◌, ◌+◌, ◌-◌, ℕ, Bool, true, false, cond, nat_lt, Option, Some, None, MatchOption, List, [], ◌∷◌, ◌++◌, inl, inr, ⊎_elim, length, take, refl, sym, ap, ◌∙◌, subst, arith, append-nil, zero-add}
use Rattle.std.proofs.lemmas.List.{take-append-le, take_at, length-append}
use Rattle.std.proofs.Math.Seq.{take-append-add}
use Rattle.std.proofs.lemmas.Bool.{cases_lt, lt-ltb, ltb-true}
use Rattle.std.specs.List.{slice_split, onto_first}
use Rattle.std.proofs.lemmas.List.Splits.{length-slice_split}
use Rattle.std.specs.Io.KnownBytes.{Consumes, IsAtEnd}
use Rattle.stat_defs.specs.declared.events.Event.{Event}
use Rattle.stat_defs.specs.declared.reports.FileEnd.{FileEnd}
use Rattle.stat_defs.specs.declared.reports.FileEnd.TheVariants as file
use Rattle.stats_io.specs.declared.pulling.Pulled.{Pulled}
use Rattle.stats_io.specs.declared.pulling.Pulled.TheVariants.{End, TooMany, Failed}
use Rattle.event_script.specs.declared.limits.TheConstants.{MAX_FILE_BYTES}
use Rattle.event_script.specs.declared.limits.TheConstants.{MAX_LINE_BYTES}
use Rattle.event_script.specs.Script.{LinesGive, is_line, piece_lines, lines_until, FileFrom, File, end_by}
use Rattle.event_script.proofs.CutLines.{is_newline, first_of}
use Rattle.event_script.specs.Reader.{Reading, Gives, Comes, MayFollow, Moves}
use Rattle.event_script.specs.Answer.{StoppedBy, EndsBy, IsLineFault, HasEnded}
use Rattle.stats_io.specs.States.{SourceState}
use Rattle.stats_io.specs.Told.{MayBe}
use Rattle.event_script.specs.FileEvents.{AreEventsOf}

-- the pieces of two lists, one behind the other
abbrev joined : List (List ℕ) → List (List ℕ) → List (List ℕ)
joined [] more = more
joined (piece ∷ []) [] = piece ∷ []
joined (piece ∷ []) (first ∷ more) = (piece ++ first) ∷ more
joined (piece ∷ (next ∷ pieces)) more = piece ∷ joined (next ∷ pieces) more

joined_some : (piece : List ℕ) (pieces more : List (List ℕ)) → 1 ≤ length (joined (piece ∷ pieces) more)
joined_some piece [] [] = omega arith
joined_some piece [] (first ∷ more) = omega arith
joined_some piece (next ∷ pieces) more = omega arith

joined_step : (b : Bool) (x : ℕ) (pieces more all : List (List ℕ)) → 1 ≤ length pieces → 1 ≤ length more → all ≡ joined pieces more
    → cond b ([] ∷ all) (onto_first x all) ≡ joined (cond b ([] ∷ pieces) (onto_first x pieces)) more
joined_step b x [] more all some also e = absurd (omega arith)
joined_step b x (piece ∷ pieces) [] all some also e = absurd (omega arith)
joined_step true x (piece ∷ pieces) (first ∷ more) all some also e = ap (λ l. [] ∷ l) e
joined_step false x (piece ∷ []) (first ∷ more) all some also e = ap (onto_first x) e
joined_step false x (piece ∷ (next ∷ pieces)) (first ∷ more) all some also e = ap (onto_first x) e

joined_none : (pieces : List (List ℕ)) → 1 ≤ length pieces → pieces ≡ joined ([] ∷ []) pieces
joined_none [] some = absurd (omega arith)
joined_none (piece ∷ pieces) some = refl

some_pieces : (bytes : List ℕ) → 1 ≤ length (slice_split is_newline bytes)
some_pieces bytes = omega (arith, length-slice_split is_newline bytes)

split_joined : (a b : List ℕ) → slice_split is_newline (a ++ b) ≡ joined (slice_split is_newline a) (slice_split is_newline b)
split_joined [] b = joined_none (slice_split is_newline b) (some_pieces b)
split_joined (x ∷ a) b =
    joined_step (is_newline x) x (slice_split is_newline a) (slice_split is_newline b) (slice_split is_newline (a ++ b)) (some_pieces a) (some_pieces b) (split_joined a b)

-- a piece that is too long is a line, whatever follows
too_long_is_line : (stop : Pulled) (piece : List ℕ) → MAX_LINE_BYTES < length piece → is_line stop (length piece) ≡ true
too_long_is_line End piece long = lt-ltb 0 (length piece) (omega arith)
too_long_is_line TooMany piece long = lt-ltb MAX_LINE_BYTES (length piece) long
too_long_is_line Failed piece long = lt-ltb MAX_LINE_BYTES (length piece) long

too_long_first : (stop : Pulled) (piece : List ℕ) (pieces : List (List ℕ)) → MAX_LINE_BYTES < length piece
    → (more : List (List ℕ)) × (piece_lines stop (piece ∷ pieces) ≡ piece ∷ more)
too_long_first stop piece [] long = ([], ap (λ b. cond b (piece ∷ []) []) (too_long_is_line stop piece long))
too_long_first stop piece (next ∷ pieces) long = (piece_lines stop (next ∷ pieces), refl)

too_long_joined : (stop : Pulled) (piece : List ℕ) (pieces : List (List ℕ)) → MAX_LINE_BYTES < length piece
    → (first : List ℕ) × (more : List (List ℕ)) × (piece_lines stop (joined (piece ∷ []) pieces) ≡ first ∷ more) × (MAX_LINE_BYTES < length first)
too_long_joined stop piece [] long = let first = too_long_first stop piece [] long in (piece, first.0, first.1, long)
too_long_joined stop piece (next ∷ pieces) long =
    let longer : MAX_LINE_BYTES < length (piece ++ next) = omega (arith, length-append piece next) in
    let first = too_long_first stop (piece ++ next) pieces longer in (piece ++ next, first.0, first.1, longer)

-- Where the source stopped before the end of the file, and one of its lines is a fault, that stands, whatever follows.
module _ (stop other : Pulled) (end : FileEnd) (fault : end ≡ end_by stop → ⊥) (cut : (count : ℕ) → is_line stop count ≡ nat_lt MAX_LINE_BYTES count) where
  last_stands : (b : Bool) (piece : List ℕ) → is_line stop (length piece) ≡ b → (pieces : List (List ℕ)) (number given : ℕ) (events : List Event)
      → LinesGive number given (cond b (piece ∷ []) []) stop events end → LinesGive number given (piece_lines other (joined (piece ∷ []) pieces)) other events end
  last_stands false piece is pieces number given events reads = absurd (fault reads.1)
  last_stands true piece is pieces number given events (inl reads) =
      let first = too_long_joined other piece pieces reads.0 in rw first.2 (inl (first.3, reads.1, reads.2))
  last_stands true piece is pieces number given events (inr reads) =
      let long : MAX_LINE_BYTES < length piece = ltb-true MAX_LINE_BYTES (length piece) (sym (cut (length piece)) ∙ is) in absurd (omega (arith, reads.0))

  -- behind the same line
  behind_line : (line : List ℕ) (lines others : List (List ℕ)) → ((number given : ℕ) (events : List Event) → LinesGive number given lines stop events end → LinesGive number given others other events end)
      → (number given : ℕ) (events : List Event) → LinesGive number given (line ∷ lines) stop events end → LinesGive number given (line ∷ others) other events end
  behind_line line lines others on number given events (inl long) = inl long
  behind_line line lines others on number given events (inr (fits, inl passed)) = inr (fits, inl (passed.0, on (number + 1) given events passed.1))
  behind_line line lines others on number given events (inr (fits, inr (inl (e, is, inl r)))) =
      inr (fits, inr (inl (e, is, inl (r.0, r.1, r.2, on (number + 1) (given + 1) r.0 r.3))))
  behind_line line lines others on number given events (inr (fits, inr (inl (e, is, inr many)))) = inr (fits, inr (inl (e, is, inr many)))
  behind_line line lines others on number given events (inr (fits, inr (inr bad))) = inr (fits, inr (inr bad))

  fault_stands : (pieces more : List (List ℕ)) (number given : ℕ) (events : List Event)
      → LinesGive number given (piece_lines stop pieces) stop events end → LinesGive number given (piece_lines other (joined pieces more)) other events end
  fault_stands [] more number given events reads = absurd (fault reads.1)
  fault_stands (piece ∷ []) more number given events reads = last_stands (is_line stop (length piece)) piece refl more number given events reads
  fault_stands (piece ∷ (next ∷ pieces)) more number given events reads =
      rw (first_of other piece (joined (next ∷ pieces) more) (joined_some next pieces more))
      (behind_line piece (piece_lines stop (next ∷ pieces)) (piece_lines other (joined (next ∷ pieces) more))
      (λ n g es r. fault_stands (next ∷ pieces) more n g es r) number given events reads)

pub seam_at : (limit : ℕ) (got rest : List ℕ) → length got ≤ limit → take limit (got ++ rest) ≡ got ++ take (limit - length got) rest
seam_at limit got rest fits =
    let e : limit ≡ length got + (limit - length got) = omega arith in
    ap (λ n. take n (got ++ rest)) e ∙ take-append-add got rest (limit - length got)

-- a fault that is found before a read fault stands, whatever follows
pub fault_within : (number given offset : ℕ) (last : Pulled) (end : FileEnd) → (end ≡ file.ReadFault → ⊥) → (got rest : List ℕ) (events : List Event)
    → offset + length got ≤ MAX_FILE_BYTES → LinesGive number given (lines_until Failed got) Failed events end → FileFrom number given offset (got ++ rest) last events end
fault_within number given offset last end fault got rest events fits reads =
    let room : length got ≤ MAX_FILE_BYTES - offset = omega (arith, fits) in
    let behind : List ℕ = take (MAX_FILE_BYTES - offset - length got) rest in
    let seam : take (MAX_FILE_BYTES - offset) (got ++ rest) ≡ got ++ behind = seam_at (MAX_FILE_BYTES - offset) got rest room in (
      (λ _. rw (split_joined got rest) (fault_stands Failed last end fault (λ count. refl) (slice_split is_newline got) (slice_split is_newline rest) number given events reads)),
      (λ _. rw (seam, split_joined got behind) (fault_stands Failed TooMany end fault (λ count. refl) (slice_split is_newline got) (slice_split is_newline behind) number given events reads)),
    )

module _ (end : FileEnd) (fault : end ≡ file.ReadFault → ⊥) (got rest : List ℕ) (events : List Event) where
  fault_past : MAX_FILE_BYTES < length got → LinesGive 1 0 (lines_until TooMany (take (MAX_FILE_BYTES - 0) got)) TooMany events end → File (got ++ rest) events end
  fault_past big reads =
      let long = length-append got rest in
      let cut : take (MAX_FILE_BYTES - 0) (got ++ rest) ≡ take (MAX_FILE_BYTES - 0) got = take-append-le (MAX_FILE_BYTES - 0) got rest (omega arith) in
      ((λ fits. absurd (omega arith)), (λ _. rw cut reads))

  -- a fault before a read fault is that of the whole file
  pub fault_before : FileFrom 1 0 0 got Failed events end → File (got ++ rest) events end
  fault_before script = ⊎_elim
      (λ big. fault_past big (script.1 (omega arith)))
      (λ fits. fault_within 1 0 0 End end fault got rest events (omega (arith, fits)) (script.0 (omega arith)))
      (cases_lt MAX_FILE_BYTES (length got))

abbrev rest_of : Option (List ℕ) → List ℕ
rest_of None = []
rest_of (Some bytes) = bytes

told_is : (before after : Option (List ℕ)) (got : List ℕ) → Consumes before after got → MayBe before (got ++ rest_of after)
told_is None after got c = tt
told_is (Some x) None got c = absurd c
told_is (Some x) (Some y) got c = c

rest_none : (after : Option (List ℕ)) → IsAtEnd after → rest_of after ≡ []
rest_none None e = refl
rest_none (Some x) e = e

module _ (before after : Option (List ℕ)) (got : List ℕ) (events : List Event) (consumed : Consumes before after got) where
  run_whole : (end : FileEnd) → (rest_of after ≡ []) → FileFrom 1 0 0 (got ++ []) End events end → File (got ++ rest_of after) events end
  run_whole end none script = subst (λ (l : List ℕ). FileFrom 1 0 0 (got ++ l) End events end) (sym none) script

  -- where the source had not stopped
  run_open : (end : FileEnd) → IsLineFault end → ((more : List ℕ) (last : Pulled) → FileFrom 1 0 0 (got ++ more) last events end) → AreEventsOf before end (length got) events
  run_open (file.BadLine n) by script = (got ++ rest_of after, told_is before after got consumed, script (rest_of after) End)
  run_open (file.LineTooLong n) by script = (got ++ rest_of after, told_is before after got consumed, script (rest_of after) End)
  run_open file.TooMany by script = (got ++ rest_of after, told_is before after got consumed, script (rest_of after) End)
  run_open file.Whole by script = absurd by
  run_open file.TooBig by script = absurd by
  run_open file.ReadFault by script = absurd by
  run_open file.NotOpened by script = absurd by

  -- by the way that the source stopped
  file_is : (stop : Pulled) (end : FileEnd) → (end ≡ file.ReadFault → ⊥) → (stop ≡ End → IsAtEnd after)
      → ((more : List ℕ) (last : Pulled) → MayFollow (Some stop) more last → FileFrom 1 0 0 (got ++ more) last events end)
      → (bytes : List ℕ) × MayBe before bytes × File bytes events end
  file_is End end fault at_end script = (got ++ rest_of after, told_is before after got consumed, run_whole end (rest_none after (at_end refl)) (script [] End (refl, refl)))
  file_is TooMany end fault at_end script = (got ++ rest_of after, told_is before after got consumed, script (rest_of after) End tt)
  file_is Failed end fault at_end script = (
    got ++ rest_of after,
    told_is before after got consumed,
    fault_before end fault got (rest_of after) events (subst (λ (l : List ℕ). FileFrom 1 0 0 l Failed events end) (append-nil got) (script [] Failed (refl, refl))),
  )

  run_is : (stop : Pulled) (end : FileEnd) → EndsBy stop end → (stop ≡ End → IsAtEnd after)
      → ((more : List ℕ) (last : Pulled) → MayFollow (Some stop) more last → FileFrom 1 0 0 (got ++ more) last events end)
      → AreEventsOf before end (length got) events
  run_is stop file.Whole by at_end script = file_is stop file.Whole (λ e. cc) at_end script
  run_is stop (file.BadLine n) by at_end script = file_is stop (file.BadLine n) (λ e. cc) at_end script
  run_is stop (file.LineTooLong n) by at_end script = file_is stop (file.LineTooLong n) (λ e. cc) at_end script
  run_is stop file.TooBig by at_end script = file_is stop file.TooBig (λ e. cc) at_end script
  run_is stop file.TooMany by at_end script = file_is stop file.TooMany (λ e. cc) at_end script
  run_is Failed file.ReadFault by at_end script = (
    got ++ rest_of after,
    told_is before after got consumed,
    omega (arith, length-append got (rest_of after)),
    subst (λ (l : List ℕ). FileFrom 1 0 0 l Failed events file.ReadFault) (append-nil got ∙ sym (take_at got (rest_of after) (length got) refl)) (script [] Failed (refl, refl)),
  )
  run_is End file.ReadFault by at_end script = absurd cc
  run_is TooMany file.ReadFault by at_end script = absurd cc
  run_is stop file.NotOpened by at_end script = absurd by

-- Where the reader was new, what it read is the run of its file.
pub run_of : {S : Type 0} (state : S → SourceState) (source : S) (now : Reading S) (first : ℕ) (got : List ℕ) (events : List Event) (end : FileEnd)
    → Moves state (record { source = source; number = 1; given = 0; offset = 0; pending = []; taken = 0; first_faults = first; stopped = None; ended = None }) now got events
    → HasEnded state now end → (now.stopped ≡ Some End → IsAtEnd (state now.source).left)
    → AreEventsOf (state source).left end now.taken events
run_of state source now first got events end moves has at_end =
    subst (λ (n : ℕ). AreEventsOf (state source).left end n events) (sym (moves.taken ∙ zero-add (length got))) (stopped_cases now.stopped refl has.by)
  where
    come : (more : List ℕ) (last : Pulled) → Comes now more last [] end
    come more last =
        let Told : Option FileEnd → Type 0 = λ e. MatchOption e (Gives now.stopped now.number now.given now.offset now.pending more last [] end)
        (λ ended. ◌≡◌ {A = List Event} [] [] × (end ≡ ended)) in
        subst Told (sym has.is) (refl, refl)

    answers : (s : Option Pulled) → now.stopped ≡ s → (more : List ℕ) (last : Pulled) → MayFollow s more last → FileFrom 1 0 0 (got ++ more) last events end
    answers s is more last may = subst (λ (es : List Event). FileFrom 1 0 0 (got ++ more) last es end) (append-nil events) (moves.answers more last [] end (rw is may) (come more last))

    stopped_cases : (s : Option Pulled) → now.stopped ≡ s → StoppedBy s end → AreEventsOf (state source).left end (length got) events
    stopped_cases None is by' = run_open (state source).left (state now.source).left got events moves.consumed end by' (λ more last. answers None is more last tt)
    stopped_cases (Some stop) is by' =
        (run_is (state source).left (state now.source).left got events moves.consumed stop end by' (λ e. at_end (is ∙ ap (λ x. Some x) e)) (answers (Some stop) is))
