use Rattle.std.proofs.Common.{◌≡◌, ◌++◌, map, take}
use Rattle.stat_defs.specs.declared.history.NameOp.TheVariants as op
use Rattle.flush_view.proofs.log_names.push_gone.Given as goal

abbrev pub invariant-loop-id : goal.invariant-loop-id
invariant-loop-id l = l.changes.items ≡ l.fn.changes.items ++ map (λ id. op.Gone l.at id) (take l.id-index l.ids)
