use Rattle.flush_view.proofs.Cumulative.{cumulative}
use Rattle.flush_view.proofs.laws.cumulative_of_all.Goals as goal

pub returns : goal.returns
returns c = λ plan workers report id account. record { each = λ bin. cumulative id bin plan workers report account }
