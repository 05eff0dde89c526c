use Rattle.std.proofs.Common.{◌≡◌, Option, IfSome, option_map, unwrap_or, ap, sym, subst, ◌∙◌, inl, inr}
use Rattle.stat_defs.specs.Keys.{held_under}
use Rattle.stat_defs.specs.declared.events.Key.{Key}
use Rattle.stat_defs.specs.declared.ids.ScopeId.{ScopeId}
use Rattle.book_state.specs.SeatLaws.{is_held}
use Rattle.book_state.proofs.Lists.{true_false}
use Rattle.stat_book.specs.Finds.{scope_number}
use Rattle.thread_cache.specs.Held.{held_with}
use Rattle.book_seat.proofs.SeatLemmas.{not_held}
use Rattle.book_seat.proofs.seat.hold.Goals as goal

pub returns-in_default-clause-held : goal.returns-in_default-clause-held
returns-in_default-clause-held c held = absurd (true_false (sym held ∙ ap is_held (c.requires.scope.0 c.in_default.is)))

pub returns-in-Accepted-clause-held : goal.returns-in-Accepted-clause-held
returns-in-Accepted-clause-held c held =
    subst (λ (o : Option ScopeId). IfSome c.args.cache.now.room (λ room. (key : Key) → held_under key c.fill.new.self.entries
    ≡ held_with (record { key = room; scope = unwrap_or (option_map scope_number o) 0; verdict = c.args.answer.verdict }) c.args.cache.now.entries key)) (sym c.in-Some.is) c.fill.ensures.held

pub returns-in-Accepted-clause-passed : goal.returns-in-Accepted-clause-passed
returns-in-Accepted-clause-passed c passed = elim c.in-Accepted.is [
  | inl accepted ↦ absurd (true_false (sym (ap is_held accepted.1) ∙ passed))
  | inr rejected ↦ absurd (true_false (sym (ap is_held rejected) ∙ passed))
]

pub returns-in_default-verdict-clause-held : goal.returns-in_default-verdict-clause-held
returns-in_default-verdict-clause-held c held = absurd (not_held c.args.answer.verdict held c.in_default-verdict.not-Accepted c.in_default-verdict.not-Rejected)
