use Rattle.std.proofs.Common.{◌≤◌, length, map, string_bytes, arith}
use Rattle.std.proofs.lemmas.List.{length-map}
use Rattle.file_reading.specs.declared.limits.TheConstants.{MAX_FILES}
use Rattle.stats_commands.proofs.Shown.{records}
use Rattle.stats_commands.proofs.replay.record.Goals as goal

pub returns : goal.returns
returns g c =
    let few : length (map string_bytes c.args.files.now) ≤ MAX_FILES = omega (arith, length-map c.args.files.now string_bytes, c.requires.few) in
    records g.F.Shelf.state g.F.S.Source.state (g.F.Shelf.holds c.args.shelf.now) (map string_bytes c.args.files.now) c.args.shelf.now
    c.replay_files.new.shelf (record { report = c.in_ok-report.field-0.report; names = c.in_ok-report.field-0.names; config = c.args.boot.config; buckets = c.args.boot.buckets })
    c.requires.built.lawful c.requires.built.buckets few c.in_ok-report.ensures.report c.in_ok-report.ensures.names
