use Rattle.std.proofs.Common.{ap, sym, ◌∙◌}
use Rattle.loglinear_bins.specs.Counts.{merged}
use Rattle.loglinear_bins.proofs.Occupied.{empty_view}
use Rattle.loglinear_bins.proofs.Reading.{shown}
use Rattle.loglinear_bins.proofs.Restored.{merged-IsBinList}
use Rattle.loglinear_bins.proofs.Rising.{IsBinList-shown}
use Rattle.loglinear_bins.proofs.bins.Bins.append.Goals as goal

pub returns-then-other-eq0-clause-none : goal.returns-then-other-eq0-clause-none
returns-then-other-eq0-clause-none c = empty_view c.other.inside.counts.items c.other.inside.total c.args.other.now c.other.view_is c.other.invariant.0 c.if-other-eq0.true

pub returns-then-other-eq0-clause-all : goal.returns-then-other-eq0-clause-all
returns-then-other-eq0-clause-all c =
    ap (merged c.args.self.now) (sym (empty_view c.other.inside.counts.items c.other.inside.total c.args.other.now c.other.view_is c.other.invariant.0 c.if-other-eq0.true))

pub returns-then-self-eq0-clause-all : goal.returns-then-self-eq0-clause-all
returns-then-self-eq0-clause-all c =
    let ns = c.other.inside.counts.items in
    let none = empty_view c.self.inside.counts.items c.self.inside.total c.args.self.now c.self.view_is c.self.invariant.0 c.if-self-eq0.true in
    let rises = IsBinList-shown ns c.args.other.now (shown ns c.other.inside.total c.args.other.now c.other.view_is c.other.invariant.0) in
    c.swap.ensures.x_after ∙ sym (merged-IsBinList c.args.other.now rises) ∙ ap (λ bins. merged bins c.args.other.now) (sym none)

pub returns-then-self-eq0-clause-none : goal.returns-then-self-eq0-clause-none
returns-then-self-eq0-clause-none c =
    c.swap.ensures.y_after ∙ empty_view c.self.inside.counts.items c.self.inside.total c.args.self.now c.self.view_is c.self.invariant.0 c.if-self-eq0.true
