use Rattle.std.proofs.Common.{◌≡◌, ◌/◌, ◌%◌, ◌∙◌, ap, arith, slice_index_or}
use Rattle.std.proofs.lemmas.Bool.{ne_eqb}
use Rattle.std.proofs.lemmas.List.FromFn.{get_or-map-range_with_len}
use Rattle.stat_defs.specs.declared.events.Event.TheVariants.{Inc}
use Rattle.load_scripts.specs.Load.{counter_name}
use Rattle.load_scripts.proofs.names.ScriptNames.event_by.Goals as goal

pub returns-else-r-eq3 : goal.returns-else-r-eq3
returns-else-r-eq3 c =
    let r = c.args.r in let names = c.self.inside.counters.items in let found = c.index-else-r-eq3.result.now in
    let name : c.bytes-else-r-eq3.result.now ≡ counter_name (r / 4 % 512) =
    c.bytes-else-r-eq3.ensures ∙ (c.index-else-r-eq3.ensures
    ∙ (ap (λ l. slice_index_or l (r / 4 % 512) found) c.self.invariant.counters
    ∙ get_or-map-range_with_len counter_name 0 512 (r / 4 % 512) (r / 4 % 512) found (omega arith) (omega arith))) in
    rw (ne_eqb _ _ c.if-r-eq2.false, ne_eqb _ _ c.if-r-eq3.false)
    (λ i. Inc (c.as_slice-label.ensures i) (name i) (r / 2048 % 1000))
