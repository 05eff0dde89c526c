use Rattle.load_report.proofs.ScriptsReported.{room_for_all, reported, ends_told, with_names}
use Rattle.load_report.proofs.loading.load_report.Goals as goal

pub apply_scripts-requires-clause-room : goal.apply_scripts-requires-clause-room
apply_scripts-requires-clause-room c =
    room_for_all c.args.config.now c.in_ok-store.store c.args.scripts c.args.events c.in_ok-store.ensures
    c.requires.scripts c.requires.events

pub returns-in_ok-ends-in-Ok-clause-ledger : goal.returns-in_ok-ends-in-Ok-clause-ledger
returns-in_ok-ends-in-Ok-clause-ledger c =
    reported c.args.scripts c.args.events c.in-Ok.verdicts.items c.in_ok-given-in-Ok.given c.args.config.now
    c.in_ok-store.store c.apply_scripts.new.store c.in_ok-ends-in-Ok.ends.items c.requires.scripts c.requires.events
    c.in_ok-store.ensures c.in-Ok.ensures c.in_ok-given-in-Ok.ensures c.in_ok-ends-in-Ok.ensures c.report_of.result
    c.report_of.ensures

pub returns-in_ok-ends-in-Ok-clause-ends : goal.returns-in_ok-ends-in-Ok-clause-ends
returns-in_ok-ends-in-Ok-clause-ends c =
    ends_told c.args.scripts c.args.events c.in-Ok.verdicts.items c.in_ok-given-in-Ok.given
    c.in_ok-ends-in-Ok.ends.items c.in_ok-ends-in-Ok.ensures c.report_of.result c.report_of.ensures

pub returns-in_ok-ends-in-Ok-clause-names : goal.returns-in_ok-ends-in-Ok-clause-names
returns-in_ok-ends-in-Ok-clause-names c =
    with_names c.args.scripts c.args.events c.in-Ok.verdicts.items c.in_ok-given-in-Ok.given c.args.config.now
    c.in_ok-store.store c.apply_scripts.new.store c.in_ok-ends-in-Ok.ends.items c.in_ok-store.ensures c.in-Ok.ensures
    c.in_ok-given-in-Ok.ensures c.report_of.result c.report_of.ensures
