use Rattle.std.proofs.Common.{◌≤◌, List, length, arith}
use Rattle.stat_defs.specs.declared.configs.Pattern.{Pattern}
use Rattle.stat_defs.specs.declared.configs.TheConstants.{MAX_PATTERNS}
use Rattle.stat_defs.specs.Configs.{IsMatchSpec, IsPatternList}
use Rattle.boot_values.specs.declared.matcher.Side.{Side}
use Rattle.boot_values.specs.declared.matcher.Side.TheVariants.{Exclusion, Inclusion}
use Rattle.boot_values.specs.StatsMatcher.{spec_of}
use Rattle.boot_values.proofs.matcher.list_at.Goals as goal

lawful_spec : (side : Side) (patterns : List Pattern) → IsPatternList patterns → IsMatchSpec (spec_of side patterns)
lawful_spec Exclusion patterns h = h
lawful_spec Inclusion patterns h = h

pub returns-clause-lawful : goal.returns-clause-lawful
returns-clause-lawful c =
    let few = c.in_ok-patterns.ensures.few in
    let most = c.in_ok-list.ensures.few in
    let short : length c.in_ok-patterns.patterns.items ≤ MAX_PATTERNS = omega arith in
    rw c.spec_of.ensures (lawful_spec c.args.side c.in_ok-patterns.patterns.items
    (record { few = short; texts = c.in_ok-patterns.ensures.lawful }))
