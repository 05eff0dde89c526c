use Rattle.std.proofs.Common.{sym}
use Rattle.threads_bench.proofs.Pushes.{no-releases}
use Rattle.threads_bench.proofs.tally.TallyBooked.releases.Goals as goal

pub returns : goal.returns
returns c = sym (no-releases c.args.self.now.words.items)
