use Rattle.std.proofs.Common.{List, ℕ, drop, sym, subst, arith}
use Rattle.std.proofs.lemmas.List.{length-drop, take_rest}
use Rattle.event_script.specs.EventIn.{first_line}
use Rattle.event_script.specs.Grammar.{IsPassedOver}
use Rattle.event_script.specs.Said.{IsCut}
use Rattle.event_script.proofs.Passed.{passes_more}
use Rattle.event_script.proofs.cutting.pass_over.Goals as goal

pub loop-stop-preserved : goal.loop-stop-preserved
loop-stop-preserved c =
    let at : ℕ = c.loop-stop.place.at in
    let same = take_rest c.args.bytes.now at in
    let cut : IsCut c.args.stop (drop at c.args.bytes.now) c.in-Some.line.now c.in-Some.count =
    subst (λ (l : List ℕ). IsCut c.args.stop l c.in-Some.line.now c.in-Some.count) same c.in-Some.ensures in
    let passed : IsPassedOver (first_line (drop at c.args.bytes.now)) = subst (λ (l : List ℕ). IsPassedOver (first_line l)) same c.loop-stop-test.ensures.0 in
    record {
      within = omega (arith, cut.within, length-drop at c.args.bytes.now, c.loop-stop.invariant.within);
      passes = passes_more c.args.stop c.args.bytes.now c.loop-stop.place c.in-Some.line.now c.in-Some.count c.loop-stop.invariant.within cut c.args.place.now
          c.loop-stop.invariant.passes c.if-line-gt-MAX_LINE_BYTES.false (subst IsPassedOver (sym cut.first) passed);
    }
