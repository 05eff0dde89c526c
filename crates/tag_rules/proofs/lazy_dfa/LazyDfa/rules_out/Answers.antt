use Rattle.tag_rules.proofs.Meanings.{none_by_text}
use Rattle.tag_rules.proofs.Steps.{none_within}
use Rattle.tag_rules.proofs.lazy_dfa.LazyDfa.rules_out.Goals as goal

pub returns-clause-none : goal.returns-clause-none
returns-clause-none c _ =
    let none = rw c.as_bytes-hay.ensures.value at c.in-NoMatch.ensures.end in
    rw (← c.self.view_is)
    (none_by_text c.self.inside.dfa.nfa c.args.name.now (λ k. (c.type_inv.name k).fits) c.self.inside.text c.self.invariant.0
    (λ tree same. none_within c.self.inside.dfa.nfa tree same c.args.name.now 0 none))
