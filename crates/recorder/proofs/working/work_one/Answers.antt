use Rattle.std.proofs.Common.{ap, ◌∙◌, arith}
use Rattle.stat_defs.specs.Borrowed.{event_of}
use Rattle.recorder.specs.Knowing.{RecorderKnown}
use Rattle.recorder.proofs.WorkLemmas.{works_on, followed_on}
use Rattle.recorder.proofs.working.work_one.Goals as goal

pub apply-requires : goal.apply-requires
apply-requires g c =
    let rest = c.in_ok-polled.ensures.ok.rest in let given = ap (λ (r : RecorderKnown). r.given) rest in let few = c.requires.few in
    record { own = ap (λ (r : RecorderKnown). r.of) rest ∙ c.requires.own; lawful = c.requires.lawful; few = omega (arith, given, few) }

pub returns-clause-handles : goal.returns-clause-handles
returns-clause-handles g c = record {
  between = c.poll.new.self;
  polls = c.in_ok-polled.ensures.ok;
  applies = c.in_ok-verdict.ensures.ok;
}

pub returns-clause-works : goal.returns-clause-works
returns-clause-works g c =
    let old = c.args.recorder.now in let mid = c.poll.new.self in let new = c.apply.new.self in let e = event_of c.args.event.now in
    works_on c.in_ok-polled.polled e c.in_ok-verdict.verdict old mid new c.in_ok-polled.ensures.ok c.in_ok-verdict.ensures.ok

pub returns-clause-so_far : goal.returns-clause-so_far
returns-clause-so_far g c =
    let old = c.args.recorder.now in let mid = c.poll.new.self in let new = c.apply.new.self in let e = event_of c.args.event.now in
    followed_on c.in_ok-polled.polled e c.in_ok-verdict.verdict old mid new c.in_ok-polled.ensures.ok c.in_ok-verdict.ensures.ok c.requires.so_far
