use Rattle.std.proofs.Common.{◌+◌, ◌<◌, refl, ap, sym, ◌∙◌, subst}
use Rattle.symbol_table.specs.Table.{Table, uses_at, total, counted_again}
use Rattle.symbol_table.proofs.Uses.{use_positive, use_within, use_room, more_shown, more_total, more_kept}
use Rattle.symbol_table.proofs.table.SymbolTable.count_again.Goals as goal

pub overflow_sub-n : goal.overflow_sub-n
overflow_sub-n c = use_positive c.self.inside c.self.invariant.indexed c.args.n (subst (λ (t : Table). 0 < uses_at t c.args.n) (sym c.self.view_is) c.requires.used)

pub add_use-requires-clause-within : goal.add_use-requires-clause-within
add_use-requires-clause-within c = use_within c.self.inside c.self.invariant.indexed c.args.n (subst (λ (t : Table). 0 < uses_at t c.args.n) (sym c.self.view_is) c.requires.used)

pub add_use-requires-clause-room : goal.add_use-requires-clause-room
add_use-requires-clause-room c = use_room c.self.inside c.self.invariant.indexed c.args.n (subst (λ (t : Table). 0 < uses_at t c.args.n) (sym c.self.view_is) c.requires.used) (rw c.self.view_is c.requires.room)

pub invariant_of-self : goal.invariant_of-self
invariant_of-self c = more_kept c.self.inside c.self.invariant.indexed c.args.n (subst (λ (t : Table). 0 < uses_at t c.args.n) (sym c.self.view_is) c.requires.used) _ c.add_use.ensures refl refl refl c.self.invariant.in_use (rw c.self.view_is c.requires.room)

pub returns-clause-counted : goal.returns-clause-counted
returns-clause-counted c =
    more_shown c.self.inside c.self.invariant.indexed c.args.n (subst (λ (t : Table). 0 < uses_at t c.args.n) (sym c.self.view_is) c.requires.used) (record c.self.inside { slots = c.add_use.new.slots }) c.add_use.ensures
    ∙ ap (λ (t : Table). counted_again t c.args.n) c.self.view_is

pub returns-clause-total : goal.returns-clause-total
returns-clause-total c =
    more_total c.self.inside c.self.invariant.indexed c.args.n (subst (λ (t : Table). 0 < uses_at t c.args.n) (sym c.self.view_is) c.requires.used) (record c.self.inside { slots = c.add_use.new.slots }) c.add_use.ensures
    ∙ ap (λ (t : Table). total t + 1) c.self.view_is
