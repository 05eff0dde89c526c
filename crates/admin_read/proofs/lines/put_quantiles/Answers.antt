use Rattle.std.proofs.Common.{◌≡◌, ◌≤◌, ◌++◌, ◌∙◌, ap, sym, arith}
use Rattle.std.proofs.lemmas.List.Elements.{All-from_recursion}
use Rattle.loglinear_bins.specs.Counts.{total}
use Rattle.admin_read.specs.declared.lines.TheConstants.{QUANTILES}
use Rattle.admin_read.proofs.Quantiles.{text_of_none}
use Rattle.admin_read.proofs.lines.put_quantiles.Goals as goal

pub put_parts-requires-clause-shares : goal.put_parts-requires-clause-shares
put_parts-requires-clause-shares c =
    All-from_recursion (λ q. q ≤ 1000) QUANTILES
    (omega arith, (omega arith, (omega arith, (omega arith, (omega arith, (omega arith, (omega arith, (omega arith, (omega arith, (omega arith, tt))))))))))

pub returns-then-values_in-eq0 : goal.returns-then-values_in-eq0
returns-then-values_in-eq0 c =
    let none : total c.args.cumulative.now ≡ 0 = omega (arith, c.values_in.ensures, c.if-values_in-eq0.true) in
    c.in_ok-extend_from_slice.ensures.items
    ∙ ap (λ l. c.args.text.now.items ++ l) (sym (text_of_none c.args.interval.now c.args.cumulative.now none))
