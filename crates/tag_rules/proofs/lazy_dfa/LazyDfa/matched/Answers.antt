use Rattle.std.proofs.Common.{sym, ◌∙◌}
use Rattle.tag_rules.proofs.Meanings.{span_by_first, cells_by_first}
use Rattle.tag_rules.proofs.lazy_dfa.LazyDfa.matched.Goals as goal

pub returns-then-is_cut-clause-span : goal.returns-then-is_cut-clause-span
returns-then-is_cut-clause-span c =
    let done = rw (c.in-Done.is, c.as_bytes-hay.ensures.value) at c.in_ok-near.ensures.near in
    let cut = rw c.as_bytes-hay.ensures.value at (sym c.if-is_cut.true ∙ c.is_cut.ensures) in
    rw (← c.self.view_is)
    (span_by_first c.self.inside.dfa.nfa c.args.name.now (λ k. (c.type_inv.name k).fits) c.self.inside.text c.self.invariant.0 c.in-Some.found (sym c.in-Some.is ∙ done.0) cut)

pub returns-then-is_cut-clause-cells : goal.returns-then-is_cut-clause-cells
returns-then-is_cut-clause-cells c =
    let done = rw (c.in-Done.is, c.as_bytes-hay.ensures.value) at c.in_ok-near.ensures.near in
    let cut = rw c.as_bytes-hay.ensures.value at (sym c.if-is_cut.true ∙ c.is_cut.ensures) in
    rw (← c.self.view_is)
    (cells_by_first c.self.inside.dfa.nfa c.args.name.now (λ k. (c.type_inv.name k).fits) c.self.inside.text c.self.invariant.0 c.in-Some.found (sym c.in-Some.is ∙ done.0) cut _ _ done.1)
