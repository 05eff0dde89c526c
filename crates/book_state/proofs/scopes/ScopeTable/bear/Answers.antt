use Rattle.std.proofs.Common.{refl}
use Rattle.book_state.proofs.Lists.{by_answer}
use Rattle.book_state.proofs.LiveScopes.{bearing_kept, same_kept}
use Rattle.book_state.proofs.scopes.ScopeTable.bear.Goals as goal

pub invariant_of-self : goal.invariant_of-self
invariant_of-self c = by_answer c.bear_at.result _ _ _ c.bear_at.ensures.bears c.bear_at.ensures.err
    (λ bears. bearing_kept c.self.inside _ c.args.metric c.args.id bears refl c.self.invariant)
    (λ same. same_kept c.self.inside _ same refl c.self.invariant)
