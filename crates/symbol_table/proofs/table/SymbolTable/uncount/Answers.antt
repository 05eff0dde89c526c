use Rattle.std.proofs.Common.{◌≡◌, ◌-◌, ◌<◌, Some, List, length, slice_get, refl, ap, sym, ◌∙◌, subst}
use Rattle.symbol_table.specs.declared.slots.Slot.{Slot}
use Rattle.symbol_table.specs.Table.{Table, uses_at, total, uncounted}
use Rattle.symbol_table.proofs.Uses.{use_positive, use_within, use_some, in_use_some, less_within, less_total, gone_shown, gone_kept, left_shown, left_kept}
use Rattle.symbol_table.proofs.table.SymbolTable.uncount.Goals as goal

pub overflow_sub-at : goal.overflow_sub-at
overflow_sub-at c = use_positive c.self.inside c.self.invariant.indexed c.args.n (subst (λ (t : Table). 0 < uses_at t c.args.n) (sym c.self.view_is) c.requires)

pub drop_use-requires-clause-within : goal.drop_use-requires-clause-within
drop_use-requires-clause-within c = use_within c.self.inside c.self.invariant.indexed c.args.n (subst (λ (t : Table). 0 < uses_at t c.args.n) (sym c.self.view_is) c.requires)

pub drop_use-requires-clause-some : goal.drop_use-requires-clause-some
drop_use-requires-clause-some c = use_some c.self.inside c.self.invariant.indexed c.args.n (subst (λ (t : Table). 0 < uses_at t c.args.n) (sym c.self.view_is) c.requires)

pub unlist_token-requires : goal.unlist_token-requires
unlist_token-requires c = subst (λ (l : List Slot). c.args.n - 1 < length l) (sym c.deref.ensures.value)
    (less_within c.self.inside c.self.invariant.indexed c.args.n (subst (λ (t : Table). 0 < uses_at t c.args.n) (sym c.self.view_is) c.requires) (record c.self.inside { slots = c.drop_use.new.slots }) c.drop_use.result c.drop_use.ensures.changed c.drop_use.ensures.last)

pub overflow_sub-self : goal.overflow_sub-self
overflow_sub-self c = in_use_some c.self.inside c.self.invariant.indexed c.args.n (subst (λ (t : Table). 0 < uses_at t c.args.n) (sym c.self.view_is) c.requires) c.self.invariant.in_use

pub invariant_of-self : goal.invariant_of-self
invariant_of-self c = gone_kept c.self.inside c.self.invariant.indexed c.args.n (subst (λ (t : Table). 0 < uses_at t c.args.n) (sym c.self.view_is) c.requires) _ c.drop_use.result c.drop_use.ensures.changed c.drop_use.ensures.last c.if-drop_use.true
    c.self.invariant (λ s at. c.unlist_token.ensures s (subst (λ (l : List Slot). slice_get l (c.args.n - 1) ≡ Some s) (sym c.deref.ensures.value) at)) c.min-self-inside.ensures refl

pub invariant_of-self-else-drop_use : goal.invariant_of-self-else-drop_use
invariant_of-self-else-drop_use c = left_kept c.self.inside c.self.invariant.indexed c.args.n (subst (λ (t : Table). 0 < uses_at t c.args.n) (sym c.self.view_is) c.requires) _ c.drop_use.result c.drop_use.ensures.changed c.drop_use.ensures.last c.if-drop_use.false c.self.invariant refl refl refl

pub returns-then-drop_use-clause-uncounted : goal.returns-then-drop_use-clause-uncounted
returns-then-drop_use-clause-uncounted c =
    gone_shown c.self.inside c.self.invariant.indexed c.args.n (subst (λ (t : Table). 0 < uses_at t c.args.n) (sym c.self.view_is) c.requires) (record { slots = c.drop_use.new.slots; index = c.unlist_token.new.index; free_from = c.min-self-inside.result; in_use = c.self.inside.in_use - 1; recent = c.self.inside.recent }) c.drop_use.result c.drop_use.ensures.changed c.drop_use.ensures.last c.if-drop_use.true
    ∙ ap (λ (t : Table). uncounted t c.args.n) c.self.view_is

pub returns-then-drop_use-clause-total : goal.returns-then-drop_use-clause-total
returns-then-drop_use-clause-total c =
    less_total c.self.inside c.self.invariant.indexed c.args.n (subst (λ (t : Table). 0 < uses_at t c.args.n) (sym c.self.view_is) c.requires) (record { slots = c.drop_use.new.slots; index = c.unlist_token.new.index; free_from = c.min-self-inside.result; in_use = c.self.inside.in_use - 1; recent = c.self.inside.recent }) c.drop_use.result c.drop_use.ensures.changed c.drop_use.ensures.last
    ∙ ap total c.self.view_is

pub returns-else-drop_use-clause-uncounted : goal.returns-else-drop_use-clause-uncounted
returns-else-drop_use-clause-uncounted c =
    left_shown c.self.inside c.self.invariant.indexed c.args.n (subst (λ (t : Table). 0 < uses_at t c.args.n) (sym c.self.view_is) c.requires) (record c.self.inside { slots = c.drop_use.new.slots }) c.drop_use.result c.drop_use.ensures.changed c.drop_use.ensures.last c.if-drop_use.false
    ∙ ap (λ (t : Table). uncounted t c.args.n) c.self.view_is

pub returns-else-drop_use-clause-total : goal.returns-else-drop_use-clause-total
returns-else-drop_use-clause-total c =
    less_total c.self.inside c.self.invariant.indexed c.args.n (subst (λ (t : Table). 0 < uses_at t c.args.n) (sym c.self.view_is) c.requires) (record c.self.inside { slots = c.drop_use.new.slots }) c.drop_use.result c.drop_use.ensures.changed c.drop_use.ensures.last
    ∙ ap total c.self.view_is
