use Rattle.boot_file.proofs.Placed.{lawful_default}
use Rattle.boot_file.proofs.tags.default_at.Goals as goal

pub returns-in_ok-placed-in-Some-clause-lawful : goal.returns-in_ok-placed-in-Some-clause-lawful
returns-in_ok-placed-in-Some-clause-lawful c = rw c.in_ok-placed-in-Some.ensures (lawful_default c.in-Some.tag)
