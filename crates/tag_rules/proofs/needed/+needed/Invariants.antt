use Rattle.std.proofs.Common.{map, IfSome}
use Rattle.regex_extract.specs.Needles.{needles_of}
use Rattle.regex_hir.specs.Meaning.{meaning, cat_all}
use Rattle.tag_rules.proofs.NeededFacts.{AllNeed}
use Rattle.tag_rules.specs.Starts.{Needs}
use Rattle.tag_rules.proofs.needed.+needed.Given as goal

abbrev pub invariant-needed_of_parts-loop-part : goal.invariant-needed_of_parts-loop-part
invariant-needed_of_parts-loop-part l =
    IfSome l.found (λ needles. Needs (cat_all (map meaning l.parts)) (needles_of needles))

abbrev pub invariant-needed_of_branches-loop-branch : goal.invariant-needed_of_branches-loop-branch
invariant-needed_of_branches-loop-branch l = AllNeed l.branches l.branch-index (needles_of l.all)
