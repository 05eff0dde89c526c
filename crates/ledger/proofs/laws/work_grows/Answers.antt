use Rattle.ledger.proofs.WorkLists.{work_event, zip_events, zip_verdicts, work_file}
use Rattle.ledger.proofs.laws.work_grows.Goals as goal

pub returns : goal.returns
returns c = record { event = work_event; events = zip_events; verdicts = zip_verdicts; file = work_file }
