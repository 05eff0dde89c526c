use Rattle.replay_files.proofs.FilesRead.{file_opened_read, file_not_opened}
use Rattle.replay_files.proofs.reading.read_file.Goals as goal

pub returns-in-Ok-clause-read : goal.returns-in-Ok-clause-read
returns-in-Ok-clause-read g c =
    let opens = rw c.in-Ok.is at c.in_ok-source.ensures.opens in
    file_opened_read g.F.Shelf.state g.F.S.Source.state (g.F.Shelf.holds c.args.shelf.now) c.args.name.now
    c.args.shelf.now c.open_file.new.shelf c.in-Ok.source _ _ opens.0 opens.1 c.read_source.result c.read_source.ensures

pub returns-in-Err-clause-read : goal.returns-in-Err-clause-read
returns-in-Err-clause-read g c =
    let opens = rw c.in-Err.is at c.in_ok-source.ensures.opens in
    file_not_opened g.F.Shelf.state g.F.S.Source.state (g.F.Shelf.holds c.args.shelf.now) c.args.name.now
    c.args.shelf.now c.open_file.new.shelf c.args.store.now
    (record { verdicts = c.new.result; end = c.in-Err.end }) c.new.ensures.items opens.0 opens.1
