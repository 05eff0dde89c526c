use Rattle.std.proofs.Common.{◌∙◌, ap}
use Rattle.event_script.specs.Told.{answer_of}
use Rattle.event_script.proofs.AnswerStep.{ends_again, answer_behind, own_end, fault_at_end}
use Rattle.event_script.proofs.lines.Lines.next.Goals as goal

pub returns-in-Some : goal.returns-in-Some
returns-in-Some g c =
    let last = c.in-Some.ensures in
    let ready = c.ready.ensures in
    rw (own_end c.in-Some.step last.end c.to_step.result last.tells c.to_step.ensures) record {
      answer = answer_behind g.S.Source.state c.args.self.now c.ready.new.self c.ready.new.self (answer_of c.in-Some.step) ready.goes.answer ready.goes.number last.answer;
      again = λ end ended.
          let same = (ready.same end ended).1 in
          (ends_again g.S.Source.state c.ready.new.self c.in-Some.step last end (ap (λ r. r.ended) same ∙ ended), same);
      fault = fault_at_end g.S.Source.state c.args.self.now c.ready.new.self (answer_of c.in-Some.step) last.end ready.goes last.is last.tells;
    }

pub returns-clause-answer : goal.returns-clause-answer
returns-clause-answer g c =
    answer_behind g.S.Source.state c.args.self.now c.ready.new.self c.step.new.self c.step.result c.ready.ensures.goes.answer c.ready.ensures.goes.number c.step.ensures.answer
