use Rattle.shared_tests.proofs.working.worker_calls.Goals as goal

pub returns-in-poll : goal.returns-in-poll
returns-in-poll g c =
    c.poll_alone-answer.ensures c.args.number c.in-AtWork.given (rw c.in-AtWork.is at c.requires)

pub returns-in_default-words : goal.returns-in_default-words
returns-in_default-words g c =
    c.event_calls-answer.ensures c.args.number c.in-AtWork.given (rw c.in-AtWork.is at c.requires)
