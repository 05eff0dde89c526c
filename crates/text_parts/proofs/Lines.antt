-- The lines of rows, gathered one after another.
use Rattle.std.proofs.Common.{◌≡◌, ℕ, ◌+◌, ◌<◌, ◌≤◌, List, [], ◌∷◌, ◌++◌, length, get_or, take, drop, sym, ap, ◌∙◌}
use Rattle.std.proofs.Common.{subst}
use Rattle.std.specs.List.{flat_map}
use Rattle.std.proofs.lemmas.List.{take_more, take_all, take-append-drop, flat_map_more}
use Rattle.std.proofs.lemmas.List.Concat.{flat_map-append}
use Rattle.stats_io.specs.States.{SinkState}
use Rattle.stats_io.specs.Push.{WritesWhole, WritesFront}
use Rattle.text_parts.specs.Gathered.{IsGathered, StopsWithin}
use Rattle.text_parts.proofs.Gathering.{gathered_put, gathered_whole, stopped_within, cut_within}

module _ {X : Type 0} (line : X → List ℕ) (rows : List X) (i : ℕ) where
  -- the lines up to a place, and those from it on
  lines_parted : flat_map line (take i rows) ++ flat_map line (drop i rows) ≡ flat_map line rows
  lines_parted = sym (flat_map-append line (take i rows) (drop i rows))
      ∙ ap (λ (l : List X). flat_map line l) (take-append-drop i rows)

  -- one line more of those up to a place
  pub lines_next : (row : X) → i < length rows → row ≡ get_or rows i row
      → flat_map line (take (i + 1) rows) ≡ flat_map line (take i rows) ++ line row
  lines_next row within is =
      ap (λ (l : List X). flat_map line l) (take_more rows i row within
      ∙ ap (λ (x : X). take i rows ++ x ∷ []) (sym is))
      ∙ sym (flat_map_more line [] (take i rows) row)

  -- so many lines were gathered, and one more is held
  pub line_put : (row : X) (first now : SinkState) (held after : List ℕ) → i < length rows → row ≡ get_or rows i row
      → IsGathered first now held (flat_map line (take i rows)) → after ≡ held ++ line row
      → IsGathered first now after (flat_map line (take (i + 1) rows))
  line_put row first now held after within is so_far put =
      subst (λ (l : List ℕ). IsGathered first now after l) (sym (lines_next row within is))
      (gathered_put first now held after (flat_map line (take i rows)) (line row) so_far put)

  -- no more lines are gathered
  pub lines_stopped : (first now : SinkState) (held : List ℕ) → IsGathered first now held (flat_map line (take i rows))
      → StopsWithin first now (flat_map line rows)
  lines_stopped first now held so_far =
      stopped_within first now held (flat_map line (take i rows)) (flat_map line (drop i rows))
      (flat_map line rows) so_far lines_parted

  -- a push of the lines that were held failed
  pub lines_cut : (first now last : SinkState) (held : List ℕ) → IsGathered first now held (flat_map line (take i rows))
      → WritesFront now last held → WritesFront first last (flat_map line rows)
  lines_cut first now last held so_far cut =
      cut_within first now last held (flat_map line (take i rows)) (flat_map line (drop i rows))
      (flat_map line rows) so_far lines_parted cut

  -- all lines were gathered, and those that were held were written
  pub lines_whole : (first now last : SinkState) (held : List ℕ) → length rows ≤ i
      → IsGathered first now held (flat_map line (take i rows)) → WritesWhole now last held
      → WritesWhole first last (flat_map line rows)
  lines_whole first now last held past so_far rest =
      subst (λ (l : List X). WritesWhole first last (flat_map line l)) (take_all i rows past)
      (gathered_whole first now last held (flat_map line (take i rows)) so_far rest)
