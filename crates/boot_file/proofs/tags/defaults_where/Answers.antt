use Rattle.std.proofs.Common.{◌≡◌, true, refl}
use Rattle.boot_file.specs.Tags.{defaults_where}
use Rattle.boot_file.proofs.Placed.{lawful_defaults}
use Rattle.boot_file.proofs.tags.defaults_where.Goals as goal

pub returns-clause-lawful : goal.returns-clause-lawful
returns-clause-lawful c =
    let all : c.push-4.new.self.items ≡ defaults_where true =
    rw (
      c.in_ok-push-4.ensures.items,
      c.in_ok-push-3.ensures.items,
      c.in_ok-push-2.ensures.items,
      c.in_ok-push.ensures.items,
      c.new-found.ensures.items,
      c.in_ok-placed.ensures,
      c.in_ok-placed-2.ensures,
      c.in_ok-placed-3.ensures,
      c.in_ok-placed-4.ensures,
    )
    refl in
    rw all (lawful_defaults true)
