-- What pending bytes give, whose first line is read.
use Rattle.std.proofs.Common.{◌≡◌, ◌≤◌, ◌+◌, ◌-◌, ℕ, suc, Option, Some, None, List, [], ◌∷◌, ◌++◌, ⊎_elim, length, take, drop, refl, sym, ap, ◌∙◌, subst, arith}
use Rattle.std.proofs.lemmas.List.{append_assoc, length-append, length-drop}
use Rattle.std.proofs.lemmas.Bool.{ltb-true}
use Rattle.stat_defs.specs.declared.events.Event.{Event}
use Rattle.stat_defs.specs.declared.reports.FileEnd.{FileEnd}
use Rattle.stat_defs.specs.declared.reports.FileEnd.TheVariants as file
use Rattle.stats_io.specs.declared.pulling.Pulled.{Pulled}
use Rattle.stats_io.specs.declared.pulling.Pulled.TheVariants.{TooMany, Failed}
use Rattle.event_script.specs.declared.limits.TheConstants.{MAX_FILE_BYTES, MAX_LINE_BYTES}
use Rattle.event_script.specs.Grammar.{Lacks}
use Rattle.event_script.specs.Said.{IsCut}
use Rattle.event_script.specs.Script.{LinesGive, lines_until, FileFrom}
use Rattle.event_script.specs.Reader.{Gives}
use Rattle.event_script.specs.Window.{stop_of}
use Rattle.event_script.proofs.CutLines.{cut_until, drop_at_newline, first_lacks}
use Rattle.event_script.proofs.Runs.{seam_at, fault_within}

-- a line and its newline stand before the limit
newline_seam : (limit : ℕ) (line rest : List ℕ) → length line + 1 ≤ limit → take limit (line ++ 10 ∷ rest) ≡ line ++ 10 ∷ take (limit - (length line + 1)) rest
newline_seam limit line rest fits =
    let more : limit - length line ≡ suc (limit - (length line + 1)) = omega (arith, fits) in
    seam_at limit line (10 ∷ rest) (omega (arith, fits)) ∙ ap (λ n. line ++ take n (10 ∷ rest)) more

-- a line with its newline is the first
cut_line : (stop : Pulled) (line rest : List ℕ) → Lacks 10 line → lines_until stop (line ++ 10 ∷ rest) ≡ line ∷ lines_until stop rest
cut_line stop line rest lacks = cut_until stop (line ++ 10 ∷ rest) line rest lacks refl ∙ ap (λ l. line ∷ lines_until stop l) (drop_at_newline line rest)

-- what a line gives before those behind it
module _ (number given new_number new_given : ℕ) (line : List ℕ) (events others : List Event) (end : FileEnd)
    (on : (lines : List (List ℕ)) (stop : Pulled) → LinesGive new_number new_given lines stop others end → LinesGive number given (line ∷ lines) stop events end) where
  from_line : (offset : ℕ) (rest : List ℕ) (last : Pulled) → Lacks 10 line → offset + (length line + 1) ≤ MAX_FILE_BYTES
      → FileFrom new_number new_given (offset + (length line + 1)) rest last others end → FileFrom number given offset (line ++ 10 ∷ rest) last events end
  from_line offset rest last lacks fits from =
      let long : length (line ++ 10 ∷ rest) ≡ length line + length (10 ∷ rest) = length-append line (10 ∷ rest) in
      let left : MAX_FILE_BYTES - offset - (length line + 1) ≡ MAX_FILE_BYTES - (offset + (length line + 1)) = omega (arith, fits) in
      let cut : List ℕ = take (MAX_FILE_BYTES - (offset + (length line + 1))) rest in
      let seam : take (MAX_FILE_BYTES - offset) (line ++ 10 ∷ rest) ≡ line ++ 10 ∷ cut =
      newline_seam (MAX_FILE_BYTES - offset) line rest (omega (arith, fits)) ∙ ap (λ n. line ++ 10 ∷ take n rest) left in (
        (λ h. rw (cut_line last line rest lacks) (on (lines_until last rest) last (from.0 (omega (arith, h, long))))),
        (λ h. rw (seam, cut_line TooMany line cut lacks) (on (lines_until TooMany cut) TooMany (from.1 (omega (arith, h, long))))),
      )

  -- a line that is no longer than a line may be, and what comes behind it
  pub gives_line : (stopped : Option Pulled) (pending : List ℕ) (count : ℕ) → IsCut (stop_of stopped) pending line count → length line ≤ MAX_LINE_BYTES
      → (offset : ℕ) → offset + length pending ≤ MAX_FILE_BYTES → (more : List ℕ) (last : Pulled)
      → Gives stopped new_number new_given (offset + count) (drop count pending) more last others end → Gives stopped number given offset pending more last events end
  gives_line (Some stop) pending count cut short offset fits more last gives = rw cut.cut (on (lines_until stop (drop count pending)) stop gives)
  gives_line None pending count cut short offset fits more last gives = ⊎_elim by_newline
      (λ piece. let long = ltb-true MAX_LINE_BYTES (length line) piece.2 in absurd (omega (arith, long, short)))
      cut.ends
    where
      by_newline : pending ≡ line ++ 10 ∷ drop count pending → FileFrom number given offset (pending ++ more) last events end
      by_newline whole =
          let lacks : Lacks 10 line = subst (Lacks 10) (sym cut.first) (first_lacks pending) in
          let long : length pending ≡ length line + length (10 ∷ drop count pending) = ap length whole ∙ length-append line (10 ∷ drop count pending) in
          let counts : length line + 1 ≡ count = omega (arith, long, length-drop count pending, cut.within) in
          let all : pending ++ more ≡ line ++ 10 ∷ (drop count pending ++ more) = ap (λ l. l ++ more) whole ∙ append_assoc line (10 ∷ drop count pending) more in
          let behind : FileFrom new_number new_given (offset + (length line + 1)) (drop count pending ++ more) last others end =
          subst (λ k. FileFrom new_number new_given (offset + k) (drop count pending ++ more) last others end) (sym counts) gives in
          subst (λ (l : List ℕ). FileFrom number given offset l last events end) (sym all)
          (from_line offset (drop count pending ++ more) last lacks (omega (arith, long, fits)) behind)

-- a line that ends the file
pub gives_fault : (number given : ℕ) (line : List ℕ) (end : FileEnd) → (end ≡ file.ReadFault → ⊥)
    → ((lines : List (List ℕ)) (stop : Pulled) → LinesGive number given (line ∷ lines) stop [] end)
    → (stopped : Option Pulled) (pending : List ℕ) (count : ℕ) → IsCut (stop_of stopped) pending line count → (offset : ℕ) → offset + length pending ≤ MAX_FILE_BYTES
    → (more : List ℕ) (last : Pulled) → Gives stopped number given offset pending more last [] end
gives_fault number given line end fault every (Some stop) pending count cut offset fits more last = rw cut.cut (every (lines_until stop (drop count pending)) stop)
gives_fault number given line end fault every None pending count cut offset fits more last =
    fault_within number given offset last end fault pending more [] fits (rw cut.cut (every (lines_until Failed (drop count pending)) Failed))
