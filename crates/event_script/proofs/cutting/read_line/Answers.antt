use Rattle.std.proofs.Common.{drop, subst, arith}
use Rattle.stat_defs.specs.Borrowed.{event_of}
use Rattle.event_script.specs.Said.{SaysFirst}
use Rattle.event_script.specs.declared.cutting.Said.{Said}
use Rattle.event_script.specs.declared.cutting.Said.TheVariants as said
use Rattle.event_script.proofs.CutLines.{at_place}
use Rattle.event_script.proofs.Passed.{reads_event, reads_too_long, reads_no_line, reads_too_many}
use Rattle.event_script.proofs.cutting.read_line.Goals as goal

pub returns-then-place-eq-MAX_EVENTS-clause-reads : goal.returns-then-place-eq-MAX_EVENTS-clause-reads
returns-then-place-eq-MAX_EVENTS-clause-reads c =
    let told = at_place c.args.stop c.args.bytes.now c.args.place.now.at _ _ c.in-Some.ensures in
    let first : SaysFirst c.args.stop (drop c.args.place.now.at c.args.bytes.now) (said.Event c.in-Event.event) c.in-Some.count =
    subst (λ (s : Said). SaysFirst c.args.stop (drop c.args.place.now.at c.args.bytes.now) s c.in-Some.count) c.in-Event.is told in
    reads_too_many c.args.stop c.args.bytes.now c.args.place.now first.line c.in-Some.count c.requires.within first.is_cut c.requires.few (event_of c.in-Event.event) first.says.0 first.says.1
    (omega (arith, c.if-place-eq-MAX_EVENTS.true))

pub returns-in-NoLine-clause-reads : goal.returns-in-NoLine-clause-reads
returns-in-NoLine-clause-reads c =
    let told = at_place c.args.stop c.args.bytes.now c.args.place.now.at _ _ c.in-Some.ensures in
    let first : SaysFirst c.args.stop (drop c.args.place.now.at c.args.bytes.now) said.NoLine c.in-Some.count =
    subst (λ (s : Said). SaysFirst c.args.stop (drop c.args.place.now.at c.args.bytes.now) s c.in-Some.count) c.in-NoLine.is told in
    reads_no_line c.args.stop c.args.bytes.now c.args.place.now first.line c.in-Some.count c.requires.within first.is_cut c.requires.few first.says.0 first.says.1

pub returns-in-TooLong-clause-reads : goal.returns-in-TooLong-clause-reads
returns-in-TooLong-clause-reads c =
    let told = at_place c.args.stop c.args.bytes.now c.args.place.now.at _ _ c.in-Some.ensures in
    let first : SaysFirst c.args.stop (drop c.args.place.now.at c.args.bytes.now) said.TooLong c.in-Some.count =
    subst (λ (s : Said). SaysFirst c.args.stop (drop c.args.place.now.at c.args.bytes.now) s c.in-Some.count) c.in-TooLong.is told in
    reads_too_long c.args.stop c.args.bytes.now c.args.place.now first.line c.in-Some.count c.requires.within first.is_cut c.requires.few first.says

pub returns-else-place-eq-MAX_EVENTS-clause-reads : goal.returns-else-place-eq-MAX_EVENTS-clause-reads
returns-else-place-eq-MAX_EVENTS-clause-reads c =
    let told = at_place c.args.stop c.args.bytes.now c.args.place.now.at _ _ c.in-Some.ensures in
    let first : SaysFirst c.args.stop (drop c.args.place.now.at c.args.bytes.now) (said.Event c.in-Event.event) c.in-Some.count =
    subst (λ (s : Said). SaysFirst c.args.stop (drop c.args.place.now.at c.args.bytes.now) s c.in-Some.count) c.in-Event.is told in
    reads_event c.args.stop c.args.bytes.now c.args.place.now first.line c.in-Some.count c.requires.within first.is_cut (event_of c.in-Event.event) first.says.0 first.says.1
    (omega (arith, c.requires.few, c.if-place-eq-MAX_EVENTS.false))
