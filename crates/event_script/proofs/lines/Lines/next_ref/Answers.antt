use Rattle.std.proofs.Common.{◌∙◌, ap, sym, refl}
use Rattle.event_script.specs.Told.{answer_of}
use Rattle.event_script.proofs.AnswerStep.{ends_again, answer_behind, fault_of_line, fault_at_end}
use Rattle.event_script.proofs.lines.Lines.next_ref.Goals as goal

pub returns-in-Some : goal.returns-in-Some
returns-in-Some g c =
    let last = c.in-Some.ensures in
    let ready = c.ready.ensures in (
      (
        refl,
        λ _. tt,
        record {
          answer = answer_behind g.S.Source.state c.args.self.now c.ready.new.self c.ready.new.self (answer_of c.in-Some.step) ready.goes.answer ready.goes.number last.answer;
          again = λ end ended.
              let same = (ready.same end ended).1 in
              (ends_again g.S.Source.state c.ready.new.self c.in-Some.step last end (ap (λ r. r.ended) same ∙ ended), same);
          fault = fault_at_end g.S.Source.state c.args.self.now c.ready.new.self (answer_of c.in-Some.step) last.end ready.goes last.is last.tells;
        },
      ),
      record { answered = tt },
    )

pub returns : goal.returns
returns g c =
    let ready = c.ready.ensures in
    let read = c.step_ref.follows.holds-at-none in (
      (
        refl,
        λ _. tt,
        record {
          answer = answer_behind g.S.Source.state c.args.self.now c.ready.new.self c.step_ref.follows.lender-at-none (answer_of c.step_ref.result) ready.goes.answer ready.goes.number read.answer;
          again = λ end ended. let none = sym c.in_default.ensures ∙ ap (λ r. r.ended) (ready.same end ended).1 ∙ ended in absurd cc;
          fault = fault_of_line g.S.Source.state c.args.self.now c.ready.new.self c.step_ref.follows.lender-at-none (answer_of c.step_ref.result) read;
        },
      ),
      record { answered = tt },
    )
