use Rattle.flush_view.proofs.Cumulative.{cumulative}
use Rattle.flush_view.proofs.laws.last_bins_of_all.Goals as goal

pub returns : goal.returns
returns c = λ plan workers report flush bounds numbered account.
    record { each = λ bin. cumulative numbered.0 bin plan workers report account }
