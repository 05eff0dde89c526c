use Rattle.std.proofs.Common.{◌≡◌, ◌-◌, ◌∙◌, ℕ, take, length, refl, ap, subst, arith}
use Rattle.book_state.specs.Stored.{StateView}
use Rattle.flush_view.specs.Before.{before_of}
use Rattle.flush_view.specs.Replaying.{AreNext}
use Rattle.flush_view.proofs.Befores.{next_to, applied_all}
use Rattle.live_view.proofs.following.carry_on.Goals as goal

pub apply_all-requires : goal.apply_all-requires
apply_all-requires c =
    let book = c.args.book.now in
    let entries = c.args.entries.now in
    let same : c.args.place - 0 ≡ c.args.place = omega arith in
    subst (λ (n : ℕ). AreNext book (take n entries)) same
    (next_to book entries book 0 refl c.args.place c.requires.next)

pub apply_all-requires-2 : goal.apply_all-requires-2
apply_all-requires-2 c =
    let entries = c.args.entries.now in
    next_to c.args.book.now entries c.apply_all.new.book c.args.place c.in_ok-apply_all.ensures (length entries)
    c.requires.next

pub returns-clause-before : goal.returns-clause-before
returns-clause-before c =
    c.in_ok-before.ensures ∙ ap (λ (v : StateView). before_of v.state) c.in_ok-apply_all.ensures

pub returns-clause-book : goal.returns-clause-book
returns-clause-book c =
    c.in_ok-apply_all-2.ensures
    ∙ applied_all c.args.book.now c.args.entries.now c.apply_all.new.book c.args.place c.in_ok-apply_all.ensures
    c.requires.within
