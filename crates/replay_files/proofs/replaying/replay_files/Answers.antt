use Rattle.std.proofs.Common.{map, string_bytes}
use Rattle.replay_files.proofs.FilesReported.{reported, with_names}
use Rattle.replay_files.proofs.replaying.replay_files.Goals as goal

pub returns-in_ok-given-in-Ok-clause-report : goal.returns-in_ok-given-in-Ok-clause-report
returns-in_ok-given-in-Ok-clause-report g c =
    reported g.F.Shelf.state g.F.S.Source.state (g.F.Shelf.holds c.args.shelf.now) (map string_bytes c.args.names.now)
    c.args.shelf.now c.read_files.new.shelf c.args.config.now c.in_ok-store.store c.read_files.new.store
    c.in-Ok.runs c.in_ok-given-in-Ok.given c.in_ok-store.ensures c.in-Ok.ensures c.in_ok-given-in-Ok.ensures
    c.report_of.result c.report_of.ensures

pub returns-in_ok-given-in-Ok-clause-names : goal.returns-in_ok-given-in-Ok-clause-names
returns-in_ok-given-in-Ok-clause-names g c =
    with_names g.F.Shelf.state g.F.S.Source.state (g.F.Shelf.holds c.args.shelf.now)
    (map string_bytes c.args.names.now) c.args.shelf.now c.read_files.new.shelf c.args.config.now
    c.in_ok-store.store c.read_files.new.store c.in-Ok.runs c.in_ok-given-in-Ok.given c.in_ok-store.ensures
    c.in-Ok.ensures c.in_ok-given-in-Ok.ensures c.report_of.result c.report_of.ensures
