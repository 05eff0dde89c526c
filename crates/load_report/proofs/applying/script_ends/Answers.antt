use Rattle.load_report.proofs.applying.script_ends.Goals as goal

pub returns : goal.returns
returns c = c.in_ok-ends.ensures.items_if_clones_equal (λ y same. same)
