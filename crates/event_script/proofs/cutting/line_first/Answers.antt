use Rattle.std.proofs.Common.{◌≡◌, ◌+◌, length, subst, sym, arith, ℕ, take}
use Rattle.std.proofs.lemmas.List.{length-take-le}
use Rattle.event_script.specs.Said.{IsCut}
use Rattle.event_script.proofs.CutLines.{none_found, found_at, cut_at_newline, cut_last, none_until}
use Rattle.event_script.proofs.cutting.line_first.Goals as goal

pub returns-in-Some : goal.returns-in-Some
returns-in-Some c =
    let at = c.in-Some.at in
    let found = found_at c.args.bytes.now at c.in-Some.ensures.0 c.in-Some.ensures.1 in
    let long : length (take at c.args.bytes.now) ≡ at = length-take-le at c.args.bytes.now (omega (arith, c.in-Some.ensures.0.high)) in
    subst (λ (k : ℕ). IsCut c.args.stopped c.args.bytes.now (take at c.args.bytes.now) (k + 1)) long (cut_at_newline c.args.stopped c.args.bytes.now (take at c.args.bytes.now) _ found.0 found.1)

pub returns-then-not-is_line : goal.returns-then-not-is_line
returns-then-not-is_line c = none_until c.args.stopped c.args.bytes.now (none_found c.args.bytes.now c.in_default.ensures) (sym c.if-not-is_line.ensures)

pub returns : goal.returns
returns c = cut_last c.args.stopped c.args.bytes.now (none_found c.args.bytes.now c.in_default.ensures) (sym c.if-not-is_line.ensures)
