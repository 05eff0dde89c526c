use Rattle.std.proofs.Common.{◌≡◌, Ok, Some, None, ap, ◌∙◌}
use Rattle.stat_defs.specs.Borrowed.{event_of}
use Rattle.shared_tests.proofs.Worked.{hit_on, applied_on}
use Rattle.shared_tests.proofs.working.work_one.Goals as goal

pub returns-in-Some : goal.returns-in-Some
returns-in-Some g c =
    let hit : c.apply_hit.result ≡ Ok (Some c.in-Some.verdict) = c.expect-hit.ensures ∙ ap Ok c.in-Some.is in
    hit_on c.args.desk.now.store.now c.expect-polled.result c.args.recorder.now c.poll.new.self
    (rw c.expect-polled.ensures at c.poll.ensures.ok) (event_of c.args.event.now) c.in-Some.verdict
    c.apply_hit.new.self (rw hit at c.apply_hit.ensures.did)

pub returns : goal.returns
returns g c =
    let hit : c.apply_hit.result ≡ Ok None = c.expect-hit.ensures ∙ ap Ok c.in_default.is in
    applied_on c.args.desk.now.store.now c.expect-polled.result c.args.recorder.now c.poll.new.self
    (rw c.expect-polled.ensures at c.poll.ensures.ok) (event_of c.args.event.now) c.expect-verdict.result
    c.apply_hit.new.self c.apply.new.self (rw hit at c.apply_hit.ensures.did)
    (rw c.expect-verdict.ensures at c.apply.ensures.ok)
