use Rattle.std.proofs.Common.{None, List, slice_set, ap, sym, ◌∙◌, add-one}
use Rattle.std.proofs.lemmas.List.{take_all}
use Rattle.stat_defs.specs.declared.reports.WorkerEnd.{WorkerEnd}
use Rattle.run_report.specs.Opened.{with_told}
use Rattle.run_report.proofs.ToldEnds.{some_told, none_told}
use Rattle.run_report.proofs.ends.tell_ends.Goals.{in-Some, in-None}
use Rattle.run_report.proofs.ends.tell_ends.Goals as goal

pub loop-place-preserved : goal.loop-place-preserved
loop-place-preserved c =
    let told = c.args.told.now in
    let ends = c.args.ends.now in
    let place = c.loop-place.place in
    rw add-one (elim c.match-told-place.branch [
      | in-Some w ↦ w.ends-is
          ∙ ap (λ (es : List WorkerEnd). slice_set es place w.in-Some.end) c.loop-place.invariant
          ∙ sym (some_told told ends place None w.in-Some.end c.loop-place-test.true w.in-Some.is)
      | in-None w ↦ w.ends-is ∙ c.loop-place.invariant
          ∙ sym (none_told told ends place None c.loop-place-test.true w.in-None.is)
    ])

pub returns : goal.returns
returns c =
    c.loop-place.invariant
    ∙ ap (λ told. with_told told c.args.ends.now)
    (take_all c.loop-place.place c.args.told.now c.loop-place-test.false)
