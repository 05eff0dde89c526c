use Rattle.std.proofs.Common.{◌≡◌, ◌∙◌, true}
use Rattle.std.proofs.lemmas.List.Elements.{All-weaker}
use Rattle.thread_cache.specs.Scopes.{is_live, is_listed}
use Rattle.thread_cache.proofs.Opening.{shown-opened, unlisted, dropped_not_live, listed_of_live}
use Rattle.thread_cache.proofs.Shown.{shown-alike}
use Rattle.thread_cache.proofs.table.open_scope.Goals as goal

pub returns-in-Unlisted-clause-shown : goal.returns-in-Unlisted-clause-shown
returns-in-Unlisted-clause-shown c =
    let before = c.args.scopes.now.entries in
    let counted = c.count_entry.new.scopes.entries in
    let kept = unlisted counted c.args.scope (c.count_entry.ensures.listed c.args.scope ∙ c.in-Unlisted.ensures.standing) in
    let listed = All-weaker (λ e. is_listed before e.1.scope ≡ true) (λ e. is_listed counted e.1.scope ≡ true)
    (λ e listed. c.count_entry.ensures.listed e.1.scope ∙ listed) _ c.requires.listed in
    shown-opened counted _ c.args.scope kept c.list_scope.ensures.live c.args.table.now.entries listed
    ∙ shown-alike counted before c.args.table.now.entries c.count_entry.ensures.live

pub returns-in-Dropped-clause-shown : goal.returns-in-Dropped-clause-shown
returns-in-Dropped-clause-shown c =
    let before = c.args.scopes.now.entries in
    let counted = c.count_entry.new.scopes.entries in
    let scopes = c.purge.new.scopes.entries in
    let gone = dropped_not_live before c.args.scope c.in-Dropped.ensures.standing in
    let kept = unlisted scopes c.args.scope (c.purge.ensures.listed c.args.scope ∙ (c.count_entry.ensures.live c.args.scope ∙ gone)) in
    let listed = All-weaker (λ e. is_live scopes e.1.scope ≡ true) (λ e. is_listed scopes e.1.scope ≡ true)
    (λ e live. listed_of_live scopes e.1.scope live) _ c.purge.ensures.all_live in
    shown-opened scopes _ c.args.scope kept c.list_scope-in-Dropped.ensures.live c.purge.new.table.entries listed
    ∙ (c.purge.ensures.shown ∙ shown-alike counted before c.args.table.now.entries c.count_entry.ensures.live)
