-- What is written is read.
use Rattle.std.proofs.Common.{◌≡◌, ◌≢◌, ◌≤◌, ◌<◌, ◌+◌, ◌-◌, ◌==◌, ℕ, Bool, true, false, cond, List, [], ◌∷◌, ◌++◌, inl, inr, length, take, drop, codes, refl, sym, ap, ◌∙◌, subst, arith, All, append_assoc, length-append}
use Rattle.std.specs.List.{ends_with}
use Rattle.std.specs.Str.{bytes_eq}
use Rattle.std.proofs.lemmas.Slice.Eq.{ends_is, bytes_eq-Decides}
use Rattle.std.proofs.lemmas.Bool.Decides.{Decides-eqb}
use Rattle.std.proofs.lemmas.List.{take_at, drop_at}
use Rattle.std.proofs.lemmas.List.Folds.{list_all-append}
use Rattle.stat_defs.specs.declared.events.Event.{Event}
use Rattle.stat_defs.specs.declared.events.Event.TheVariants as event
use Rattle.stat_defs.specs.Names.{IsLocalName, IsScopePrefix, is_name_byte, without_dot}
use Rattle.stat_defs.specs.Events.{IsLawfulEvent, IsOpenedPrefix}
use Rattle.stat_defs.specs.declared.events.TheConstants.{MAX_NAME_BYTES}
use Rattle.stat_defs.specs.declared.reports.FileEnd.TheVariants as file
use Rattle.stats_io.specs.declared.pulling.Pulled.TheVariants.{End}
use Rattle.event_script.specs.Grammar.{given_prefix, given_for, line_for, lines_for, IsLineOf, IsLawful, Lacks}
use Rattle.event_script.specs.Script.{LinesGive, lines_until, File}
use Rattle.event_script.specs.declared.limits.TheConstants.{MAX_LINE_BYTES, MAX_FILE_BYTES, MAX_EVENTS}
use Rattle.event_script.proofs.Splits.{and_true}
use Rattle.event_script.proofs.CutLines.{cut_until}
use Rattle.event_script.proofs.Newlines.{lacks_newline}
use Rattle.std.proofs.lemmas.List.Elements.{All-head, All-tail}

abbrev has_dot : List ℕ → Bool
has_dot text = ends_with ◌==◌ text (46 ∷ [])

dotted : (text : List ℕ) → has_dot text ≡ true → text ≡ take (length text - 1) text ++ 46 ∷ []
dotted text = (ends_is Decides-eqb text (46 ∷ []) (has_dot text) refl).0

has_dot_at : (front : List ℕ) → has_dot (front ++ 46 ∷ []) ≡ true
has_dot_at front = (ends_is Decides-eqb (front ++ 46 ∷ []) (46 ∷ []) (has_dot (front ++ 46 ∷ [])) refl).1 front refl

-- a further dot is dropped
undotted : (front : List ℕ) → without_dot (front ++ 46 ∷ []) ≡ front
undotted front =
    let long : length (front ++ 46 ∷ []) - 1 ≡ length front = omega (arith, length-append front (46 ∷ [])) in
    rw (has_dot_at front) (ap (λ k. take k (front ++ 46 ∷ [])) long ∙ take_at front (46 ∷ []) (length front) refl)

kept : (text : List ℕ) → has_dot text ≡ false → without_dot text ≡ text
kept text e = rw e refl

not_dash : (prefix : List ℕ) → prefix ≢ codes "-" → bytes_eq prefix (codes "-") ≡ false
not_dash prefix other = by (bytes_eq prefix (codes "-")) refl
  where
    by : (b : Bool) → bytes_eq prefix (codes "-") ≡ b → b ≡ false
    by true e = absurd (other ((bytes_eq-Decides prefix (codes "-")).0 e))
    by false e = refl

-- the text for a prefix that a line gave gives it again
pub record IsAgain (prefix given : List ℕ) : Type 0 where
  pub fits : IsLocalName given
  pub means : given_prefix given ≡ prefix

dash : IsLocalName (codes "-")
dash = record { not_empty = omega arith; short = omega arith; bytes = refl }

-- of a text without its final dot, which is no `-`
module _ (given : List ℕ) (fits : IsLocalName given) where
  part : (w : List ℕ) → without_dot given ≡ w → w ≢ codes "-" → IsAgain w (given_for w)
  part [] is other = record { fits = dash; means = refl }
  part (b ∷ bs) is other = by (has_dot (b ∷ bs)) refl (has_dot given) refl
    where
      plain : (w : List ℕ) → w ≢ codes "-" → has_dot w ≡ false → given_prefix w ≡ w
      plain w other none = rw (kept w none, not_dash w other) refl

      dots : (w : List ℕ) → w ≢ codes "-" → given_prefix (w ++ 46 ∷ []) ≡ w
      dots w other = rw (undotted w, not_dash w other) refl

      whole : has_dot given ≡ true → given ≡ (b ∷ bs) ++ 46 ∷ []
      whole dot = dotted given dot ∙ ap (λ l. l ++ 46 ∷ []) (sym (rw dot refl) ∙ is)

      by : (more : Bool) → has_dot (b ∷ bs) ≡ more → (dot : Bool) → has_dot given ≡ dot → IsAgain (b ∷ bs) (cond more ((b ∷ bs) ++ 46 ∷ []) (b ∷ bs))
      by true more true dot = record { fits = subst IsLocalName (whole dot) fits; means = dots (b ∷ bs) other }
      by true more false none = let same : given ≡ b ∷ bs = sym (kept given none) ∙ is in absurd (let h = sym none ∙ ap has_dot same ∙ more in cc)
      by false none true dot =
          let all = subst IsLocalName (whole dot) fits in
          record {
            fits = record { not_empty = omega arith; short = omega (arith, all.short, length-append (b ∷ bs) (46 ∷ [])); bytes = (and_true _ _ (sym (list_all-append is_name_byte (b ∷ bs) (46 ∷ [])) ∙ all.bytes)).0 };
            means = plain (b ∷ bs) other none;
          }
      by false none false same = record { fits = subst IsLocalName (sym (kept given same) ∙ is) fits; means = plain (b ∷ bs) other none }

  pub given_again : IsAgain (given_prefix given) (given_for (given_prefix given))
  given_again = by (bytes_eq (without_dot given) (codes "-")) refl
    where
      by : (b : Bool) → bytes_eq (without_dot given) (codes "-") ≡ b → IsAgain (cond b [] (without_dot given)) (given_for (cond b [] (without_dot given)))
      by true e = record { fits = dash; means = refl }
      by false e = part (without_dot given) refl (λ same. let h = sym e ∙ (bytes_eq-Decides (without_dot given) (codes "-")).1 same in cc)

-- a prefix that a line gave is none that no line gives
opened : (given : List ℕ) → IsLocalName given → IsOpenedPrefix (given_prefix given)
opened given fits = by (bytes_eq (without_dot given) (codes "-")) refl
  where
    shorter : (b : Bool) → has_dot given ≡ b → IsScopePrefix (cond b (take (length given - 1) given) given)
    shorter true dot =
        let all = subst IsLocalName (dotted given dot) fits in
        record {
          short = omega (arith, all.short, length-append (take (length given - 1) given) (46 ∷ []));
          bytes = (and_true _ _ (sym (list_all-append is_name_byte (take (length given - 1) given) (46 ∷ [])) ∙ all.bytes)).0;
        }
    shorter false none = record { short = fits.short; bytes = fits.bytes }

    room : (b : Bool) → has_dot given ≡ b → has_dot (cond b (take (length given - 1) given) given) ≡ true
        → length (cond b (take (length given - 1) given) given) < MAX_NAME_BYTES
    room true dot ends =
        let all = subst IsLocalName (dotted given dot) fits in
        omega (arith, all.short, length-append (take (length given - 1) given) (46 ∷ []))
    room false none ends = let h = sym none ∙ ends in cc

    by : (b : Bool) → bytes_eq (without_dot given) (codes "-") ≡ b → IsOpenedPrefix (cond b [] (without_dot given))
    by true e = record { fits = record { short = omega arith; bytes = refl }; room_for_dot = λ ends. cc; not_dash = λ same. cc }
    by false e = record {
      fits = shorter (has_dot given) refl;
      room_for_dot = room (has_dot given) refl;
      not_dash = λ same. let h = sym e ∙ (bytes_eq-Decides (without_dot given) (codes "-")).1 same in cc;
    }

-- the line that is written for a lawful event says it, and is no longer than a line may be
pub written : (e : Event) → IsLawful e → (length (line_for e) ≤ MAX_LINE_BYTES) × IsLineOf (line_for e) e
written (event.Inc label name n) (line, (short, is)) = (subst (λ l. length l ≤ MAX_LINE_BYTES) is.metric.parts short, subst (λ l. IsLineOf l (event.Inc label name n)) is.metric.parts is)
written (event.Gauge label name mode op n) (line, (short, is)) = (subst (λ l. length l ≤ MAX_LINE_BYTES) is.metric.parts short, subst (λ l. IsLineOf l (event.Gauge label name mode op n)) is.metric.parts is)
written (event.Rec label name v) (line, (short, is)) = (subst (λ l. length l ≤ MAX_LINE_BYTES) is.metric.parts short, subst (λ l. IsLineOf l (event.Rec label name v)) is.metric.parts is)
written (event.SetText label name text) (line, (short, is)) = (subst (λ l. length l ≤ MAX_LINE_BYTES) is.metric.parts short, subst (λ l. IsLineOf l (event.SetText label name text)) is.metric.parts is)
written (event.OpenScope label prefix) (line, (short, is)) =
    let again : IsAgain prefix (given_for prefix) = subst (λ p. IsAgain p (given_for p)) (sym is.means) (given_again is.given is.given_fits) in (
      omega (arith, length-append label (32 ∷ given_for prefix), is.label_fits.short, again.fits.short),
      record { label_fits = is.label_fits; given = given_for prefix; given_fits = again.fits; means = sym again.means; parts = refl },
    )
written (event.Release label) (line, (short, is)) = (subst (λ l. length l ≤ MAX_LINE_BYTES) is.parts short, subst (λ l. IsLineOf l (event.Release label)) is.parts is)

-- what a line says is lawful
pub lawful_event : (e : Event) → IsLawful e → IsLawfulEvent e
lawful_event (event.Inc label name n) (line, (short, is)) = (is.metric.label_fits, is.metric.name_fits, is.n_fits)
lawful_event (event.Gauge label name mode op n) (line, (short, is)) = (is.metric.label_fits, is.metric.name_fits, is.n_fits)
lawful_event (event.Rec label name v) (line, (short, is)) = (is.metric.label_fits, is.metric.name_fits, is.v_fits)
lawful_event (event.SetText label name text) (line, (short, is)) = (is.metric.label_fits, is.metric.name_fits, is.text_fits)
lawful_event (event.OpenScope label prefix) (line, (short, is)) =
    (is.label_fits, subst (λ p. IsOpenedPrefix p) (sym is.means) (opened is.given is.given_fits))
lawful_event (event.Release label) (line, (short, is)) = is.label_fits

-- no newline stands in the line that is written
line_lacks : (e : Event) → IsLawful e → Lacks 10 (line_for e)
line_lacks e lawful = lacks_newline (line_for e) e (written e lawful).1

-- events that are written one after another are read
events_read : (number given : ℕ) (events : List Event) → All IsLawful events → given + length events ≤ MAX_EVENTS
    → LinesGive number given (lines_until End (lines_for events)) End events file.Whole
events_read number given [] lawful few = (refl, refl)
events_read number given (e ∷ es) lawful few =
    let first = All-head IsLawful e es lawful in
    let is = written e first in
    let e_lines : lines_for (e ∷ es) ≡ line_for e ++ 10 ∷ lines_for es = append_assoc (line_for e) (10 ∷ []) (lines_for es) in
    let after : drop (length (line_for e) + 1) (lines_for (e ∷ es)) ≡ lines_for es =
    drop_at (line_for e ++ 10 ∷ []) (lines_for es) (length (line_for e) + 1) (length-append (line_for e) (10 ∷ [])) in
    let cut : lines_until End (lines_for (e ∷ es)) ≡ line_for e ∷ lines_until End (lines_for es) =
    cut_until End (lines_for (e ∷ es)) (line_for e) (lines_for es) (line_lacks e first) e_lines ∙ ap (λ l. line_for e ∷ lines_until End l) after in
    rw cut (inr (is.0, inr (inl (e, is.1, inl (es, omega (arith, few), refl, events_read (number + 1) (given + 1) es (All-tail IsLawful e es lawful) (omega (arith, few)))))))

pub file_read : (events : List Event) → All IsLawful events → length events ≤ MAX_EVENTS → length (lines_for events) ≤ MAX_FILE_BYTES
    → File (lines_for events) events file.Whole
file_read events lawful few short = ((λ _. events_read 1 0 events lawful (omega (arith, few))), (λ big. absurd (omega (arith, big, short))))
