use Rattle.std.proofs.Common.{◌≡◌, ◌∙◌, sym, ap, subst, All, true, Some, None, IfSome, option_map, is_some, length, ◌+◌, true≢false}
use Rattle.std.specs.List.{IsDistinct}
use Rattle.std.specs.Map.{keys_of}
use Rattle.std.specs.Option.{IsSomeAnd}
use Rattle.stat_defs.specs.declared.events.Key.{Key as TheKey}
use Rattle.stat_defs.specs.Keys.{Held, held_under}
use Rattle.thread_cache.specs.Keys.{key_of}
use Rattle.thread_cache.specs.Scopes.{is_live, is_listed}
use Rattle.thread_cache.specs.Held.{shown, held_with}
use Rattle.thread_cache.specs.KeyLaws.{eq}
use Rattle.thread_cache.proofs.Opening.{listed_of_live}
use Rattle.thread_cache.proofs.Filling.{All-filled, held_in_filled, one_more}
use Rattle.thread_cache.proofs.cache.Cache.fill.Goals as goal

pub invariant_of-self-2 : goal.invariant_of-self-2
invariant_of-self-2 c =
    let opened = c.open_scope-self-inside in
    let scopes = opened.new.scopes.entries in
    record {
      table_room = λ some. absurd (true≢false (sym some ∙ ap is_some c.take.ensures.after));
      scopes_room = λ some. absurd (true≢false (sym some ∙ ap is_some c.take.ensures.after));
      listed = subst (All (λ e. is_listed scopes e.1.scope ≡ true)) (sym c.put.ensures.entries)
          (All-filled c.in-Some.key _ (λ s. is_listed scopes s.scope ≡ true) _ opened.ensures.listed (listed_of_live scopes _ opened.ensures.opened));
      live = λ fresh. subst (All (λ e. is_live scopes e.1.scope ≡ true)) (sym c.put.ensures.entries)
          (All-filled c.in-Some.key _ (λ s. is_live scopes s.scope ≡ true) _ (opened.ensures.live fresh) opened.ensures.opened);
    }

pub returns-clause-held : goal.returns-clause-held
returns-clause-held c =
    let opened = c.open_scope-self-inside in
    let scopes = opened.new.scopes.entries in
    let key = key_of c.in-Some.key in
    let room : c.args.self.now.room ≡ Some key =
    (λ i. (sym c.self.view_is i).room) ∙ ap (option_map key_of) (sym c.take.ensures.value ∙ c.in-Some.is) in
    let entries : shown scopes opened.new.table.entries ≡ c.args.self.now.entries = opened.ensures.shown ∙ (λ i. (c.self.view_is i).entries) in
    let held : Held = record { key = key; scope = c.args.scope.0; verdict = c.args.verdict } in
    subst (λ r. IfSome r (λ room. (k : TheKey) → held_under k (shown scopes c.put.new.table.entries)
    ≡ held_with (record { key = room; scope = c.args.scope.0; verdict = c.args.verdict }) c.args.self.now.entries k)) (sym room)
    (λ k. ap (λ t. held_under k (shown scopes t)) c.put.ensures.entries
    ∙ (held_in_filled c.in-Some.key _ scopes opened.ensures.opened opened.new.table.entries c.put.ensures.different
    (subst (λ t. IsDistinct eq (keys_of t)) c.put.ensures.entries c.put.ensures.still_different) k
    ∙ ap (λ es. held_with held es k) entries))

pub returns-clause-one_more : goal.returns-clause-one_more
returns-clause-one_more c =
    let opened = c.open_scope-self-inside in
    let scopes = opened.new.scopes.entries in
    let key = key_of c.in-Some.key in
    let room : c.args.self.now.room ≡ Some key =
    (λ i. (sym c.self.view_is i).room) ∙ ap (option_map key_of) (sym c.take.ensures.value ∙ c.in-Some.is) in
    let entries : shown scopes opened.new.table.entries ≡ c.args.self.now.entries = opened.ensures.shown ∙ (λ i. (c.self.view_is i).entries) in
    let free = subst (λ r. IsSomeAnd r (λ k. held_under k c.args.self.now.entries ≡ None)) room c.requires.room in
    ap (λ t. length (shown scopes t)) c.put.ensures.entries
    ∙ (one_more c.in-Some.key _ scopes opened.ensures.opened opened.new.table.entries c.put.ensures.different
    (ap (held_under key) entries ∙ free)
    ∙ ap (λ es. length es + 1) entries)
