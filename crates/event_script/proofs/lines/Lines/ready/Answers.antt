use Rattle.std.proofs.Common.{rules, ◌≡◌, ◌∙◌, ap, sym, refl, None}
use Rattle.event_script.proofs.AnswerStep.{goes_nowhere, goes_behind, goes_passed}
use Rattle.event_script.proofs.lines.Lines.ready.Goals as goal

pub loop-alloc-init : goal.loop-alloc-init
loop-alloc-init g c =
    let i = c.self.inside in record {
      goes = rw (← c.self.view_is) (goes_nowhere g.S.Source.state i.source i.held i.window i.place i.first_faults i.stopped i.ended c.self.invariant);
      same = λ end is. refl;
    }

pub loop-alloc-preserved : goal.loop-alloc-preserved
loop-alloc-preserved g c =
    let so = c.loop-alloc.invariant in
    let passes = c.find_line.ensures.passes in
    let none : c.loop-alloc.self.ended ≡ None = search rules in record {
      goes = goes_behind g.S.Source.state c.args.self.now c.find_line.new.self c.read_more.new.self (passes.ended ∙ none)
          (goes_passed g.S.Source.state c.args.self.now c.loop-alloc.self c.find_line.new.self none so.goes passes) c.read_more.ensures.goes;
      same = λ end ended. let both = sym none ∙ ap (λ r. r.ended) (so.same end ended) ∙ ended in absurd cc;
    }

pub returns-in_err-read_more-clause-goes : goal.returns-in_err-read_more-clause-goes
returns-in_err-read_more-clause-goes g c =
    let so = c.loop-alloc.invariant in
    let passes = c.find_line.ensures.passes in
    let none : c.loop-alloc.self.ended ≡ None = search rules in
    goes_behind g.S.Source.state c.args.self.now c.find_line.new.self c.read_more.new.self (passes.ended ∙ none)
    (goes_passed g.S.Source.state c.args.self.now c.loop-alloc.self c.find_line.new.self none so.goes passes) c.read_more.ensures.goes
