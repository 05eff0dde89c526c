use Rattle.event_script.proofs.Runs.{fault_before}
use Rattle.event_script.proofs.laws.first_fault_stands.Goals as goal

pub returns : goal.returns
returns c = λ bytes more events end reads fault. fault_before end fault bytes more events reads
