use Rattle.ledger.proofs.Sweeps.{fits_at, made_stay}
use Rattle.ledger.proofs.laws.flush_at_sweep.Goals as goal

pub returns : goal.returns
returns c = record { fits = fits_at; made = made_stay }
