use Rattle.std.proofs.Common.{ap, sym, subst, ◌∙◌, refl, map, Some}
use Rattle.locked_book.specs.Sharing.{known_by}
use Rattle.flusher.specs.Flusher.{FlusherKnown, FlusherAccounts, Begins, begun_by}
use Rattle.flusher.specs.FlusherKept.{shown, told_by}
use Rattle.flusher.proofs.Accounts.{accounts-unbegun, accounts-begun, begins}
use Rattle.flusher.proofs.Views.{seen, same-words, found-or-same, still-none}
use Rattle.flusher.proofs.flusher.Flusher.begin.Goals as goal

pub invariant_of-self : goal.invariant_of-self
invariant_of-self g c =
    let f = c.self.inside in let new = c.begin.new.self in let step = c.in_err-listing.ensures in
    let lock = c.begin.ensures.seat ∙ sym (ap (λ (z : FlusherKnown). z.of.lock) c.self.view_is ∙ ap (λ z. z.lock) c.requires.own.of) in
    let none = ap (λ (z : FlusherKnown). z.round) c.self.view_is ∙ c.requires.none in
    subst FlusherAccounts
    (same-words f.parts new f.parts.cells.tokens.items (map told_by f.flushes.items) (shown f).round _ lock (step.rest.0, step.rest.1, step.rest.2) (ap (λ z. z.tokens.items) step.err.0)
    (still-none (begun_by (known_by f.parts.seat)) (begun_by (known_by new.seat)) f.round none))
    (accounts-unbegun (shown f) (known_by new.seat) (found-or-same f.parts.seat new.seat step.err.1) none c.self.invariant)

pub invariant_of-self-2 : goal.invariant_of-self-2
invariant_of-self-2 g c =
    let f = c.self.inside in let new = c.begin.new.self in let step = c.in_ok-listing.ensures in let listing = c.in_ok-listing.listing in
    let lock = c.begin.ensures.seat ∙ sym (ap (λ (z : FlusherKnown). z.of.lock) c.self.view_is ∙ ap (λ z. z.lock) c.requires.own.of) in
    let number = ap (λ (z : FlusherKnown). z.seat.number) c.self.view_is ∙ c.requires.own.number in
    let none = ap (λ (z : FlusherKnown). z.round) c.self.view_is ∙ c.requires.none in
    subst FlusherAccounts
    (same-words f.parts new new.cells.tokens.items (map told_by f.flushes.items) (Some (begun_by (known_by new.seat) listing)) _ lock (step.rest.0, step.rest.1, step.rest.2) refl refl)
    (accounts-begun (shown f) (known_by new.seat) listing new.cells.tokens.items step.sweeps number none step.asks step.cells c.self.invariant)

pub returns-clause-ok : goal.returns-clause-ok
returns-clause-ok g c =
    let f = c.self.inside in let new = c.begin.new.self in let step = c.in_ok-listing.ensures in let listing = c.in_ok-listing.listing in
    let lock = c.begin.ensures.seat ∙ sym (ap (λ (z : FlusherKnown). z.of.lock) c.self.view_is ∙ ap (λ z. z.lock) c.requires.own.of) in
    let number = ap (λ (z : FlusherKnown). z.seat.number) c.self.view_is ∙ c.requires.own.number in
    subst (λ (z : FlusherKnown). Begins z (seen new (map told_by f.flushes.items) (Some (begun_by (known_by new.seat) listing)))) c.self.view_is
    (subst (Begins (shown f))
    (same-words f.parts new new.cells.tokens.items (map told_by f.flushes.items) (Some (begun_by (known_by new.seat) listing)) _ lock (step.rest.0, step.rest.1, step.rest.2) refl refl)
    (begins (shown f) (known_by new.seat) listing new.cells.tokens.items step.sweeps number step.asks))
