use Rattle.ledger.proofs.Pieces.{segments_event, left_event, less_event, segments_flush, segments_whole}
use Rattle.ledger.proofs.laws.segments_grow.Goals as goal

pub returns : goal.returns
returns c = record { event = segments_event; later = left_event; less = less_event; flush = segments_flush; whole = segments_whole }
