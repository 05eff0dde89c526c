use Rattle.std.proofs.Common.{◌∙◌, Some, None, ap, set, rules}
use Rattle.std.proofs.lemmas.List.{set-set, get_or_default}
use Rattle.loglinear_bins.specs.Counts.{merged}
use Rattle.merge_round.specs.Slots.{held, bins_at}
use Rattle.flush_view.proofs.sums.add_part.Goals as goal

pub returns-in_ok-joined : goal.returns-in_ok-joined
returns-in_ok-joined c =
    let slots = c.args.slots.now in
    let id = c.args.part.now.id.0 in
    let slot = c.take-slot.ensures.value ∙ get_or_default slots id c.index-slots-place.result None (search rules) in
    set-set slots id c.take-slot.new.self (Some c.in_ok-joined.field-0)
    ∙ ap (λ bins. set slots id (Some bins))
    (c.in_ok-joined.ensures
    ∙ ap (λ s. merged (held s) c.items.result.now) slot
    ∙ ap (λ bins. merged (bins_at slots id) bins) c.items.ensures)
