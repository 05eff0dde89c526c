use Rattle.std.proofs.Common.{◌≡◌, ◌-◌, ◌<◌, Some, List, length, slice_get, ap, sym, ◌∙◌, subst}
use Rattle.symbol_table.specs.declared.slots.Slot.{Slot}
use Rattle.symbol_table.specs.Table.{Table, uses_at, token_in}
use Rattle.symbol_table.proofs.Uses.{use_positive, use_within, use_token}
use Rattle.symbol_table.proofs.table.SymbolTable.token_of.Goals as goal

pub overflow_sub-n : goal.overflow_sub-n
overflow_sub-n c = use_positive c.self.inside c.self.invariant.indexed c.args.n (subst (λ (t : Table). 0 < uses_at t c.args.n) (sym c.self.view_is) c.requires)

pub token_at-requires : goal.token_at-requires
token_at-requires c = subst (λ (l : List Slot). c.args.n - 1 < length l) (sym c.deref.ensures.value)
    (use_within c.self.inside c.self.invariant.indexed c.args.n (subst (λ (t : Table). 0 < uses_at t c.args.n) (sym c.self.view_is) c.requires))

pub returns : goal.returns
returns c =
    use_token c.self.inside c.self.invariant.indexed c.args.n (subst (λ (t : Table). 0 < uses_at t c.args.n) (sym c.self.view_is) c.requires) c.token_at.result.now
    (subst (λ (l : List Slot). (s : Slot) → slice_get l (c.args.n - 1) ≡ Some s → c.token_at.result.now ≡ s.token) c.deref.ensures.value c.token_at.ensures)
    ∙ ap (λ (t : Table). token_in t c.args.n) c.self.view_is
