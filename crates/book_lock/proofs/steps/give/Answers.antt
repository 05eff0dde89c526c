use Rattle.std.proofs.Common.{rules, ap, sym, subst, ◌∙◌, ◌∷◌, [], Some, length}
use Rattle.stat_defs.specs.Books.{releases_in}
use Rattle.book_lock.specs.Naming.{MayCount}
use Rattle.seat_history.specs.History.{MayLeave}
use Rattle.book_lock.specs.History.{names_counted}
use Rattle.book_lock.specs.Locked.{in_box, names_in_box, own_part}
use Rattle.book_lock.proofs.Keeps.{allows-count, allows-publish, allows-give, put-back, changed-own, at-rest}
use Rattle.book_lock.proofs.Giving.{MayGive, given, as-found, once-stored}
use Rattle.book_lock.proofs.steps.give.Given.{Over}
use Rattle.book_lock.proofs.steps.give.Goals.{Joined-releases-found, then-releases-found, else-releases-found}
use Rattle.book_lock.proofs.steps.give.Goals as goal

pub store-requires : goal.store-requires
store-requires g c = let m = c.args.place.now.me in let m1 = c.exchange.new.seat.me in let book = c.args.book in let h = c.requires.holds in
    let back = put-back m m1 book h.1 c.exchange.ensures.3 in let v = book.value in (
      search rules,
      search rules,
      allows-count (in_box g.B.Booked.history) (names_in_box g.B.Booked.changed) _ _ _ _ _ m1 book (ap (λ z. length z.0.parts) back ∙ h.0) (ap (λ z. z.1) back) (ap (λ z. (own_part z.0).holds) back ∙ h.2)
          (subst (λ z. MayCount (own_part z.0) (g.B.Booked.history v).log (g.B.Booked.changed v)) (sym back) c.requires.names) _ (c.changes-changes.ensures ∙ ap (λ b. length (g.B.Booked.changed b)) c.deref.ensures),
    )

pub store-requires-then-releases-found : goal.store-requires-then-releases-found
store-requires-then-releases-found g c = let m = c.args.place.now.me in let m1 = c.exchange.new.seat.me in let m2 = c.store.new.seat.me in let book = c.args.book in let v = book.value in let h = c.requires.holds in
    let back = put-back m m1 book h.1 c.exchange.ensures.3 in
    let s = changed-own (names_counted (g.B.Booked.changed v) (length (g.B.Booked.history v).log)) m m1 m2 ((0, Some book) ∷ []) h.0 back (c.store.ensures.2 book (ap (λ z. z.1) back)) in (
      search rules,
      search rules,
      allows-publish (in_box g.B.Booked.history) (names_in_box g.B.Booked.changed) _ _ _ _ _ m2 book s.0 s.1 (ap (λ p. p.holds) s.2 ∙ h.2)
          (subst (λ p. MayLeave p.seat (g.B.Booked.history v)) (sym s.2) c.requires.book)
          _ (c.releases-releases.ensures ∙ ap (λ b. releases_in (g.B.Booked.history b).log) c.deref-2.ensures),
    )

-- once the releases are published
ready : (g : Over) (c : Joined-releases-found g) → MayGive (in_box g.B.Booked.history) (names_in_box g.B.Booked.changed) c.args.book c.args.place.now.me c.requires.holds.0 c.requires.holds.2 c.requires.book c.if-releases-found.place.me
ready g c = let m = c.args.place.now.me in let m1 = c.exchange.new.seat.me in let m2 = c.store.new.seat.me in let book = c.args.book in let h = c.requires.holds in
    let back = put-back m m1 book h.1 c.exchange.ensures.3 in let counted = c.store.ensures.2 book (ap (λ z. z.1) back) in
    let told = c.releases-releases.ensures ∙ ap (λ b. releases_in (g.B.Booked.history b).log) c.deref-2.ensures in
    let slot = ap (λ z. z.1) counted ∙ ap (λ z. z.1) back in
    elim c.if-releases-found.branch [
      | then-releases-found w ↦ subst (MayGive (in_box g.B.Booked.history) (names_in_box g.B.Booked.changed) book m h.0 h.2 c.requires.book) (sym (ap (λ z. z.me) w.place-is))
          (once-stored (in_box g.B.Booked.history) (names_in_box g.B.Booked.changed) book m h.0 h.2 c.requires.book m1 m2 _ back counted (w.store-then-releases-found.ensures.2 book slot) (λ e. w.if-releases-found.true (told ∙ (e ∙ sym c.requires.found))))
      | else-releases-found w ↦ subst (MayGive (in_box g.B.Booked.history) (names_in_box g.B.Booked.changed) book m h.0 h.2 c.requires.book) (sym (ap (λ z. z.me) w.place-is))
          (as-found (in_box g.B.Booked.history) (names_in_box g.B.Booked.changed) book m h.0 h.2 c.requires.book m1 m2 back counted (sym told ∙ (w.if-releases-found.false ∙ c.requires.found)))
    ]

pub store-requires-2 : goal.store-requires-2
store-requires-2 g c = let y = ready g (goal.at.store-requires-2 g c).Joined-releases-found in (
  search rules,
  search rules,
  allows-give (in_box g.B.Booked.history) (names_in_box g.B.Booked.changed) _ _ _ _ _ c.if-releases-found.place.me c.args.book y.one y.slot y.turn y.leaves y.released y.names y.reach,
)

pub returns-clause-told : goal.returns-clause-told
returns-clause-told g c = let y = ready g (goal.at.returns-clause-told g c).Joined-releases-found in let m3 = c.if-releases-found.place.me in
    c.store-2.ensures.2 c.args.book y.slot ∙ (at-rest (given (in_box g.B.Booked.history) (names_in_box g.B.Booked.changed) c.args.book c.args.place.now.me c.requires.holds.0 c.requires.holds.2 c.requires.book) m3 y.slot ∙ y.gives)
