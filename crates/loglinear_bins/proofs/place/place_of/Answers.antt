use Rattle.std.proofs.Common.{◌∙◌, sym}
use Rattle.loglinear_bins.proofs.Places.{place_of-least, place_of-above}
use Rattle.loglinear_bins.proofs.place.place_of.Goals as goal

pub returns-then-steps-eq0-clause-place : goal.returns-then-steps-eq0-clause-place
returns-then-steps-eq0-clause-place c = place_of-least c.args.bin (sym c.steps_of-steps.ensures.steps ∙ c.if-steps-eq0.true)

pub returns-else-steps-eq0-clause-place : goal.returns-else-steps-eq0-clause-place
returns-else-steps-eq0-clause-place c = rw c.steps_of-steps.ensures.steps (place_of-above c.args.bin (λ none. c.if-steps-eq0.false (c.steps_of-steps.ensures.steps ∙ none)))
