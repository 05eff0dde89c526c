use Rattle.std.proofs.Common.{sym, ◌∙◌}
use Rattle.admin_side.proofs.Following.{newest-end}
use Rattle.admin_side.proofs.known_names.newest_of.Goals as goal

pub returns-in-Some : goal.returns-in-Some
returns-in-Some c = c.at_of.ensures ∙ sym (newest-end c.args.at c.args.changes.now c.in-Some.change.now (sym c.in-Some.ensures.value))
