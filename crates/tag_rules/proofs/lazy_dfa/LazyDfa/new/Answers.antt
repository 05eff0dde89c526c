use Rattle.std.proofs.Common.{rules, ◌≡◌}
use Rattle.tag_rules.proofs.Meanings.{runs}
use Rattle.tag_rules.proofs.lazy_dfa.LazyDfa.new.Goals as goal

pub invariant_of-result : goal.invariant_of-result
invariant_of-result c =
    let same : c.in_ok-text.text ≡ c.args.text.now = search rules in (
      rw (same, c.in-Ok-new.ensures.same)
          (runs c.in-Ok-compile.nfa c.in-Ok.parsed.hir _ c.args.text.now c.in-Ok-compile.ensures.matches (rw c.default.ensures at c.in-Ok.ensures.ok)),
      c.in-Ok-with_budget.ensures.own,
      c.in-Ok-new-2.ensures.own,
    )
