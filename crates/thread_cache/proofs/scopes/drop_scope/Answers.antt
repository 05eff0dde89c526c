use Rattle.std.proofs.Common.{ap, sym, refl, ◌∙◌, true}
use Rattle.thread_cache.specs.declared.scopes.ScopeEntries.{ScopeEntries}
use Rattle.thread_cache.specs.Scopes.{is_live, is_listed}
use Rattle.thread_cache.proofs.ScopeLemmas.{is_live-written, is_listed-written}
use Rattle.thread_cache.proofs.scopes.drop_scope.Goals as goal

pub returns-then-entries-clause-listed : goal.returns-then-entries-clause-listed
returns-then-entries-clause-listed c s =
    let was = c.in-Some.entries.now in
    ap (λ es. is_listed es s) (c.get_mut.follows.holds was).0 ∙ is_listed-written _ was s c.args.scopes.now.entries

pub returns-then-entries-clause-idle : goal.returns-then-entries-clause-idle
returns-then-entries-clause-idle c none s =
    let was = c.in-Some.entries.now in
    ap (λ es. is_live es s) (c.get_mut.follows.holds was).0
    ∙ is_live-written _ was was s c.args.scopes.now.entries (sym c.in-Some.ensures.value) refl

pub returns-clause-listed : goal.returns-clause-listed
returns-clause-listed c s =
    let entries : ScopeEntries = record { dropped = true; count = c.in-Some.entries.now.count } in
    ap (λ es. is_listed es s) (c.get_mut.follows.holds entries).0 ∙ is_listed-written _ entries s c.args.scopes.now.entries
