use Rattle.std.proofs.Common.{map, string_bytes, List, ap, sym, ◌∙◌, subst, inl, inr}
use Rattle.clap.specs.Words.{fault_of, matches_of}
use Rattle.clap.specs.Kinds.{IsAmong}
use Rattle.clap.specs.Words.{App, kind_of, is_simple, is_simple_and_free}
use Rattle.clap.specs.Walk.{Row}
use Rattle.command_words.specs.Options.{IsSaid, app}
use Rattle.command_words.specs.Sorted.{sorted}
use Rattle.command_words.proofs.Agrees.{all_utf8, reads_as_sorted, said_of, refused_of, simple_app, free_app}
use Rattle.command_words.proofs.sorting.matches_of.Goals as goal

pub returns-in-Ok : goal.returns-in-Ok
returns-in-Ok c =
    let told = c.in_ok-app.ensures in
    let words = map string_bytes c.args.words.now in
    let faults = c.in-Ok.ensures.kinds (ap (λ (a : App). is_simple_and_free a) told ∙ free_app) in
    let rows = (c.in-Ok.ensures.matches (ap (λ (a : App). is_simple a) told ∙ simple_app)).0 ∙ ap (λ (a : App). matches_of a words) told in
    let said = said_of (fault_of app words) (matches_of app words) (sorted words) (reads_as_sorted words (all_utf8 c.args.words.now))
    (sym (ap (λ (a : App). fault_of a words) told) ∙ faults) in
    (said.0, said.1, subst (λ (r : List Row). IsSaid r said.0) (sym rows) said.2)

pub returns : goal.returns
returns c =
    let told = c.in_ok-app.ensures in
    let words = map string_bytes c.args.words.now in
    elim (c.in-Err.ensures.kinds (ap (λ (a : App). is_simple_and_free a) told ∙ free_app)) [
      | inl memory ↦ let is = rw (c.kind.ensures ∙ memory) at c.eq.ensures in absurd cc
      | inr among ↦ refused_of (fault_of app words) (matches_of app words) (sorted words) _ (reads_as_sorted words (all_utf8 c.args.words.now)) (subst (λ (a : App). IsAmong (kind_of c.in-Err.error) (fault_of a words)) told among)
    ]
