use Rattle.std.proofs.Common.{sym, append-nil, []}
use Rattle.std.proofs.KnownBytes.{Consumes-nil}
use Rattle.stats_io.proofs.pulling.pull_up_to.Goals as goal

pub returns-in_err-chunk-clause-got : goal.returns-in_err-chunk-clause-got
returns-in_err-chunk-clause-got g c = record { got = []; appended = sym (append-nil _); consumed = Consumes-nil _ }
