use Rattle.std.proofs.Common.{arith}
use Rattle.load_run.proofs.ScriptsRead.{as_many_files, load_run_told, load_ends_told, load_names_told}
use Rattle.load_run.proofs.running.run_scripts.Goals as goal

pub run_files-requires-clause-files : goal.run_files-requires-clause-files
run_files-requires-clause-files g c κs within =
    let many = as_many_files c.args.scripts c.args.events c.in_ok-files.files.items c.in_ok-files.ensures in
    let some = c.requires.some in
    let few = c.requires.scripts in
    (omega (arith, many, some), omega (arith, many, few))

pub returns-clause-ledger : goal.returns-clause-ledger
returns-clause-ledger g c =
    load_run_told c.args.setup.config.now c.args.scripts c.args.events c.in_ok-files.files.items c.in_ok-files.ensures
    c.requires.scripts c.requires.events c.run_files.result c.run_files.ensures.report

pub returns-clause-ends : goal.returns-clause-ends
returns-clause-ends g c =
    load_ends_told c.args.setup.config.now c.args.scripts c.args.events c.in_ok-files.files.items c.in_ok-files.ensures
    c.requires.scripts c.requires.events c.run_files.result c.run_files.ensures.report

pub returns-clause-names : goal.returns-clause-names
returns-clause-names g c =
    load_names_told c.args.setup.config.now c.args.scripts c.args.events c.in_ok-files.files.items
    c.in_ok-files.ensures c.run_files.result c.run_files.ensures.names
