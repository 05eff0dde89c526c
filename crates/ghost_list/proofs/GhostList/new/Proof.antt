-- `new` makes the empty struct, with the items that its clause names. Assumes `Logic`.
use Rattle.std.proofs.Common.{◌≡◌, [], ◌∷◌, refl}
use Rattle.std.proofs.raw_atomic.Walks.{proved, leaves}
use mir.Syntax.{a_type}
use mir.MapTy.{inst_fn}
use base.Logic.{emp}
use contract.Monad.{fact, fact_i}
use contract.Running.{tables}
use types.Kit.{‵, raw, ◌⊛◌, ◌$◌, ◌∵◌, !, qed, by, keep, split, use0}
use types.Part.{agg}
use types.Run.{enter, returns, and_then, no_more}
use types.ByLocal.{alloc_all, pass_all, free_all, look_at, get, sets}
use denote.RattleType.{owns}
use denote.Param.{param, layouts}
use denote.Signature.{types_at}
use denote.Triple.Entry.{alive}
use denote.Triple.Walked.{Stays, walk_of}
use Rattle.ghost_list.specs.contracts.GhostList as list
use Rattle.ghost_list.specs.contracts.GhostList.new.{ended, clauses}
use Rattle.ghost_list.specs.contracts.GhostList.new.Key.{name as key}
use Rattle.ghost_list.proofs.Made.{list_val, list_made}
use Rattle.ghost_list.proofs.GhostList.new.Statement.{statement}
use Rattle.ghost_list.proofs.GhostList.new.Code as code

pub new_spec : {M : Type 1} → statement M
new_spec 𝓤 𝓛 𝓜 𝓡 wired A _ =
    let T = param 0 A in let made : (list.the_row T).Denot = record { marker = record {}; items = [] } in
    let E = ended A in let c = clauses A 𝓛 𝓜.mem 𝓡.returns in let stayed : Stays E.signature.params E.kept = tt in
    let types = layouts (a_type ∷ []) (A, tt) in let 𝓣 = tables 𝓤 𝓛.H 𝓜 𝓡 𝓡.env in let function = inst_fn types code.function in
    proved 𝓛 E stayed c 𝓜 𝓡 tt (key types) function (code.unfolded 𝓤 𝓛.H 𝓜 𝓡 wired (A, tt)) (λ κs. tt) (λ κs. tt) (λ κs qs bounds a g are.
    let y : (walk_of 𝓛 E stayed c).Ghost = ((κs, qs, bounds, a, tt), g) in
    qed 𝓛 ((raw (alive 𝓛 E.signature κs qs) ⊛ ‵ (owns (types_at E.signature.params κs) a y.0.4)) ∷ raw ((c κs a).requires g) ∷ []) ∵ split ! $ keep ! (0 ∷ 1 ∷ []) $
    enter ! 𝓣.C 𝓣.Λ function [] _ $ alloc_all ! (λ l. pass_all ! refl tt $
    sets ! (agg ! (no_more !)) refl (tt, tt) $ sets ! (agg ! (and_then ! (get ! refl) (no_more !))) refl (tt, (tt, tt)) $
    returns ! (look_at ! 0 refl) $ free_all ! refl $
    use0 𝓛 (‵ ((list.the_row T).own_val made (list_val ∷ []))) (list_made 𝓛 T []) $
    use0 𝓛 (raw (fact 𝓤 (made.items ≡ []))) (fact_i 𝓤 _ (emp 𝓤) refl) $
    keep ! (2 ∷ 3 ∷ 1 ∷ 0 ∷ []) $ by ! (leaves 𝓛 E stayed c y list_val made tt tt)))
