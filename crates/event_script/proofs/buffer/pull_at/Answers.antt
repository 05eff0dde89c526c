use Rattle.std.proofs.Common.{rules}
use Rattle.std.proofs.lemmas.List.{places}
use Rattle.event_script.proofs.Pieces.{adds_pull}
use Rattle.event_script.proofs.buffer.pull_at.Goals as goal

pub returns-clause-adds : goal.returns-clause-adds
returns-clause-adds g c = adds_pull (g.S.Source.state c.args.source.now) (g.S.Source.state c.pull.new.self) c.args.room.now c.pull.new.into _ c.args.at c.args.most c.pull.result
    (search (rules, places)) (search (rules, places)) (search (rules, places)) c.pull.ensures.bytes c.pull.ensures.failed
