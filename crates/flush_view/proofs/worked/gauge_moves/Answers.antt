use Rattle.std.proofs.Common.{refl}
use Rattle.std.specs.Fmt.{digits}
use Rattle.stat_name.specs.Spelling.{spelling}
use Rattle.hex.specs.Hex.{encode_with}
use Rattle.flush_view.proofs.worked.gauge_moves.Goals as goal

pub returns : goal.returns
unfolding digits spelling encode_with
returns c = record { shows = refl; none_behind = refl; written = λ text. refl; with_symbols = λ text. refl }
