use Rattle.std.proofs.Common.{ap, sym, ◌∙◌, option_map}
use Rattle.stat_defs.specs.Keys.{Held}
use Rattle.thread_cache.specs.Keys.{asked}
use Rattle.thread_cache.proofs.Finding.{found, held_at, live_where_all, shown_once, verdict_held}
use Rattle.thread_cache.proofs.cache.look_up.Goals as goal

pub verdict_of-requires : goal.verdict_of-requires
verdict_of-requires c fresh =
    live_where_all c.args.scopes.now.entries (asked c.args.query.now) c.args.table.now.entries _ (c.requires fresh)
    (sym c.slot_of.ensures ∙ c.in-Some.is)

pub returns-in-Some-clause-verdict : goal.returns-in-Some-clause-verdict
returns-in-Some-clause-verdict c =
    let scopes = c.args.scopes.now.entries in
    let key = asked c.args.query.now in
    let table = c.args.table.now.entries in
    let slot = sym c.slot_of.ensures ∙ c.in-Some.is in
    c.verdict_of.ensures ∙ sym (ap (option_map (λ (held : Held). held.verdict)) (found scopes key table c.keys_differ.ensures)
    ∙ (ap (λ s. option_map (λ (held : Held). held.verdict) (held_at scopes key s)) slot ∙ verdict_held scopes key _))

pub returns-in-None-clause-verdict : goal.returns-in-None-clause-verdict
returns-in-None-clause-verdict c =
    let scopes = c.args.scopes.now.entries in
    let key = asked c.args.query.now in
    let table = c.args.table.now.entries in
    let slot = sym c.slot_of.ensures ∙ c.in-None.is in
    sym (ap (option_map (λ (held : Held). held.verdict)) (found scopes key table c.keys_differ.ensures)
    ∙ ap (λ s. option_map (λ (held : Held). held.verdict) (held_at scopes key s)) slot)

pub returns-in-Some-clause-once : goal.returns-in-Some-clause-once
returns-in-Some-clause-once c = shown_once c.args.scopes.now.entries c.args.table.now.entries c.keys_differ.ensures

pub returns-in-None-clause-once : goal.returns-in-None-clause-once
returns-in-None-clause-once c = shown_once c.args.scopes.now.entries c.args.table.now.entries c.keys_differ.ensures
