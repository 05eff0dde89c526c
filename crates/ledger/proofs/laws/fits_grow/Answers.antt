use Rattle.ledger.proofs.FlushesFit.{all_entries, all_event, all_flush, all_last}
use Rattle.ledger.proofs.laws.fits_grow.Goals as goal

pub returns : goal.returns
returns c = record { entries = all_entries; event = all_event; flush = all_flush; last = all_last }
