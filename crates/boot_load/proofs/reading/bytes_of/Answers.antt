use Rattle.std.proofs.Common.{rules}
use Rattle.boot_load.proofs.LoadAnswers.{read_of, failed}
use Rattle.boot_load.proofs.reading.bytes_of.Goals as goal

pub returns-in-Failed-clause-read : goal.returns-in-Failed-clause-read
returns-in-Failed-clause-read g c = (
  failed g.F.S.Source.state _ c.args.name.now c.in-Ok.source c.pull_up_to.new.source c.new-bytes.result.items c.pull_up_to.new.bytes.items
      (search rules) c.in-Ok.ensures.opened c.pull_up_to.ensures.later c.pull_up_to.ensures.got c.pull_up_to.ensures.bound
      c.requires c.fault_count.result c.fault_count.ensures (search rules),
  search rules,
)

pub returns-clause-read : goal.returns-clause-read
returns-clause-read g c =
    let given = read_of g.F.S.Source.state _ c.args.name.now c.in-Ok.source c.pull_up_to.new.source c.new-bytes.result.items c.pull_up_to.new.bytes.items
    (search rules) c.in-Ok.ensures.opened c.pull_up_to.ensures.later c.pull_up_to.ensures.got c.pull_up_to.ensures.bound in
    (record { file = c.requires; given = _; read = given; long = search rules }, search rules)
