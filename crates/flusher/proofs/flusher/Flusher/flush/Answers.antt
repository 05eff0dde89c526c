use Rattle.std.proofs.Common.{ap, subst, ◌∙◌, refl, map, None}
use Rattle.std.specs.Prelude.{option_map}
use Rattle.flush_cells.specs.Cells.{cell_of}
use Rattle.locked_book.specs.Sharing.{known_by}
use Rattle.flusher.specs.Flusher.{FlusherKnown, FlusherAccounts, IsFlusherOf, Flushes, begun_by}
use Rattle.flusher.specs.FlusherKept.{shown, told_by}
use Rattle.flusher.proofs.Accounts.{accounts-flushed}
use Rattle.flusher.proofs.Views.{seen, flushed-words, note-told}
use Rattle.flusher.proofs.flusher.Flusher.flush.Goals as goal

pub invariant_of-self-2 : goal.invariant_of-self-2
invariant_of-self-2 c =
    let f = c.self.inside in let step = c.in_ok-shown.ensures in let begun = begun_by (known_by f.parts.seat) c.in-Some.listing in
    let told = note-told f.flushes.items c.with_flush-self-inside.result.items c.in_ok-shown.shown c.round_of-round.result.items f.parts c.in-Some.listing c.with_flush-self-inside.ensures c.round_of-round.ensures in
    subst FlusherAccounts
    (flushed-words f.parts c.flush.new.self c.in_ok-shown.shown _ (map told_by c.with_flush-self-inside.result.items) (step.rest.0, step.rest.1) step.words.counters step.words.gauges step.round told)
    (accounts-flushed (shown f) begun c.in_ok-shown.shown c.self.invariant f.parts.cells.round (ap (option_map (begun_by (known_by f.parts.seat))) c.in-Some.is) step.shows step.parts)

pub returns-clause-own : goal.returns-clause-own
returns-clause-own c =
    let f = c.self.inside in let step = c.in_ok-shown.ensures in let is = c.self.view_is in
    let told = note-told f.flushes.items c.with_flush-self-inside.result.items c.in_ok-shown.shown c.round_of-round.result.items f.parts c.in-Some.listing c.with_flush-self-inside.ensures c.round_of-round.ensures in
    subst (IsFlusherOf c.args.store.now)
    (flushed-words f.parts c.flush.new.self c.in_ok-shown.shown _ (map told_by c.with_flush-self-inside.result.items) (step.rest.0, step.rest.1) step.words.counters step.words.gauges step.round told)
    (record {
      of = ap (λ (z : FlusherKnown). z.of) is ∙ c.requires.own.of;
      number = ap (λ (z : FlusherKnown). z.seat.number) is ∙ c.requires.own.number;
      cells = ap (λ (z : FlusherKnown). map cell_of z.tokens) is ∙ c.requires.own.cells;
    })

pub returns-clause-ok : goal.returns-clause-ok
returns-clause-ok c =
    let f = c.self.inside in let step = c.in_ok-shown.ensures in let record_shown = c.in_ok-shown.shown in
    let flushes = map told_by c.with_flush-self-inside.result.items in
    let told = note-told f.flushes.items c.with_flush-self-inside.result.items record_shown c.round_of-round.result.items f.parts c.in-Some.listing c.with_flush-self-inside.ensures c.round_of-round.ensures in
    subst (λ (z : FlusherKnown). Flushes record_shown z (seen c.flush.new.self flushes None)) c.self.view_is
    (subst (Flushes record_shown (shown f))
    (flushed-words f.parts c.flush.new.self record_shown _ flushes (step.rest.0, step.rest.1) step.words.counters step.words.gauges step.round told)
    (record {
      begun = begun_by (known_by f.parts.seat) c.in-Some.listing;
      was = ap (option_map (begun_by (known_by f.parts.seat))) c.in-Some.is;
      shows = step.shows;
      parts = step.parts;
      told = refl;
    }))
