use Rattle.flush_view.proofs.Shown.{last_totals}
use Rattle.flush_view.proofs.laws.totals_of_units.Goals as goal

pub returns : goal.returns
returns c = λ plan workers report flush passes history account. last_totals plan workers report passes history account
