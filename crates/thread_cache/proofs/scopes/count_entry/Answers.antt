use Rattle.std.proofs.Common.{ap, sym, refl, ◌∙◌}
use Rattle.thread_cache.specs.declared.scopes.ScopeEntries.{ScopeEntries}
use Rattle.thread_cache.specs.Scopes.{is_live, is_listed}
use Rattle.thread_cache.proofs.ScopeLemmas.{is_live-written, is_listed-written}
use Rattle.thread_cache.proofs.scopes.count_entry.Goals as goal

pub returns-then-entries-clause-live : goal.returns-then-entries-clause-live
returns-then-entries-clause-live c s =
    let was = c.in-Some.entries.now in
    ap (λ es. is_live es s) (c.get_mut.follows.holds was).0
    ∙ is_live-written _ was was s c.args.scopes.now.entries (sym c.in-Some.ensures.value) refl

pub returns-then-entries-clause-listed : goal.returns-then-entries-clause-listed
returns-then-entries-clause-listed c s =
    let was = c.in-Some.entries.now in
    ap (λ es. is_listed es s) (c.get_mut.follows.holds was).0 ∙ is_listed-written _ was s c.args.scopes.now.entries

pub returns-else-entries-clause-live : goal.returns-else-entries-clause-live
returns-else-entries-clause-live c s =
    let was = c.in-Some.entries.now in
    let counted : ScopeEntries = record { dropped = was.dropped; count = c.saturating_add-entries.result } in
    ap (λ es. is_live es s) (c.get_mut.follows.holds counted).0
    ∙ is_live-written _ counted was s c.args.scopes.now.entries (sym c.in-Some.ensures.value) refl

pub returns-else-entries-clause-listed : goal.returns-else-entries-clause-listed
returns-else-entries-clause-listed c s =
    let counted : ScopeEntries = record { dropped = c.in-Some.entries.now.dropped; count = c.saturating_add-entries.result } in
    ap (λ es. is_listed es s) (c.get_mut.follows.holds counted).0 ∙ is_listed-written _ counted s c.args.scopes.now.entries
