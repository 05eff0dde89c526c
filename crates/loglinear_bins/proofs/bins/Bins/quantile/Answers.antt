use Rattle.std.proofs.Common.{sym, ◌∙◌, refl}
use Rattle.std.proofs.lemmas.Bool.{true≢false}
use Rattle.loglinear_bins.proofs.Tables.{total-view}
use Rattle.loglinear_bins.proofs.Reading.{quantile_of-none, quantile_of-some}
use Rattle.loglinear_bins.proofs.bins.Bins.quantile.Goals as goal

pub returns-then-self-eq0-clause-value : goal.returns-then-self-eq0-clause-value
returns-then-self-eq0-clause-value c =
    let count = total-view c.self.inside.counts.items c.self.inside.total c.args.self.now c.self.view_is c.self.invariant.0 in
    sym (quantile_of-none c.args.self.now c.args.q (count ∙ c.if-self-eq0.true))

pub returns-clause-value : goal.returns-clause-value
returns-clause-value c =
    let count = total-view c.self.inside.counts.items c.self.inside.total c.args.self.now c.self.view_is c.self.invariant.0 in
    rw (c.value_at_rank.ensures, c.from.ensures) (sym (quantile_of-some c.args.self.now c.args.q c.self.inside.total count c.if-self-eq0.false))

pub returns-then-self-eq0-clause-none : goal.returns-then-self-eq0-clause-none
returns-then-self-eq0-clause-none c =
    let count = total-view c.self.inside.counts.items c.self.inside.total c.args.self.now c.self.view_is c.self.invariant.0 in
    (λ _. count ∙ c.if-self-eq0.true, λ _. refl)

pub returns-clause-none : goal.returns-clause-none
returns-clause-none c =
    let count = total-view c.self.inside.counts.items c.self.inside.total c.args.self.now c.self.view_is c.self.invariant.0 in
    (λ some. absurd (true≢false some), λ none. absurd (c.if-self-eq0.false (sym count ∙ none)))
