use Rattle.std.proofs.Common.{ℕ, ◌<◌, map}
use Rattle.regex_literal.specs.Find.{OccursAt, needle_at}
use Rattle.tag_rules.proofs.starts.holds_one.Given as goal

abbrev pub invariant-loop-needle : goal.invariant-loop-needle
invariant-loop-needle l =
    (n k : ℕ) → n < l.needle-index → ¬ OccursAt l.hay (needle_at (map (λ needle. needle.items) l.needles) n) k
