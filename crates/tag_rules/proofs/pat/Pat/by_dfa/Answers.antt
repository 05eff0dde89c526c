use Rattle.tag_rules.proofs.pat.Pat.by_dfa.Goals as goal

pub returns-in-Made-clause-cells : goal.returns-in-Made-clause-cells
returns-in-Made-clause-cells c =
    rw (← c.self.view_is) (rw c.if-is_of.ensures at c.find.ensures.cells)
