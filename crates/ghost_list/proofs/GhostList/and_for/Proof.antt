-- `and_for` makes the empty struct, with the items that its clause names. Assumes `Logic`.
use Rattle.std.proofs.Common.{◌≡◌, [], ◌∷◌, ◌++◌, refl}
use Rattle.std.proofs.raw_atomic.Walks.{proved, leaves}
use mir.Syntax.{a_type, named}
use mir.Val.{vptr}
use mir.MapTy.{inst_fn}
use base.Logic.{emp}
use contract.Monad.{fact, fact_i}
use contract.Running.{tables}
use types.Kit.{‵, raw, ◌⊛◌, ◌$◌, ◌∵◌, !, qed, by, keep, split, fjoin, use0}
use types.Part.{agg}
use types.Run.{enter, returns, and_then, no_more}
use types.ByLocal.{alloc_all, pass_all, free_all, look_at, get, sets}
use denote.Exit.{yes}
use denote.RattleType.{owns}
use denote.Builtin.{RefOf}
use denote.Param.{param, layouts}
use denote.Ref.{shr_vals, shr_Tells}
use denote.Signature.{plain, types_at}
use denote.Steps.{nothing}
use denote.Triple.Entry.{alive}
use denote.Triple.Walked.{Stays, stay_dropped, walk_of, Goes-dropped}
use Rattle.ghost_list.specs.contracts.GhostList as list
use Rattle.ghost_list.specs.contracts.GhostList.and_for.{ended, clauses}
use Rattle.ghost_list.specs.contracts.GhostList.and_for.Key.{name as key}
use Rattle.ghost_list.proofs.Made.{list_val, list_made}
use Rattle.ghost_list.proofs.GhostList.and_for.Statement.{statement}
use Rattle.ghost_list.proofs.GhostList.and_for.Code as code

pub and_for_spec : {M : Type 1} → statement M
and_for_spec 𝓤 𝓛 𝓜 𝓡 wired A B _ _ =
    let T = param 0 A in let U = param 1 B in let E = ended A B in let c = clauses A B 𝓛 𝓜.mem 𝓡.returns in
    let before = RefOf (0 ∷ []) tt (plain (λ _. list.the_row T)) (λ _. tt) in let item = RefOf (1 ∷ []) tt (plain (λ _. U)) (λ _. tt) in
    let stayed : Stays E.signature.params E.kept = (stay_dropped before yes, (stay_dropped item yes, tt)) in
    let types = layouts (a_type ∷ a_type ∷ []) (A, (B, tt)) in let 𝓣 = tables 𝓤 𝓛.H 𝓜 𝓡 𝓡.env in let function = inst_fn types code.function in
    proved 𝓛 E stayed c 𝓜 𝓡 (Goes-dropped 𝓛 4 before yes (λ κs x f. refl), (Goes-dropped 𝓛 4 item yes (λ κs x f. refl), tt))
    (key types) function (code.unfolded 𝓤 𝓛.H 𝓜 𝓡 wired (A, (B, tt)))
    (λ κs. (shr_vals, (shr_vals, tt))) (λ κs. (shr_Tells (named 0) κs.0 (list.the_row T), (shr_Tells (named 1) κs.1.0 U, tt))) (λ κs qs bounds a g are.
    let p = vptr a.0.ref_ptr.0 a.0.ref_ptr.1 in let q = vptr a.1.0.ref_ptr.0 a.1.0.ref_ptr.1 in
    let y : (walk_of 𝓛 E stayed c).Ghost = ((κs, qs, bounds, a, (p ∷ [], (q ∷ [], tt))), g) in
    let made : (list.the_row T).Denot = record { marker = record {}; items = a.0.now.items ++ g ∷ [] } in
    qed 𝓛 ((raw (alive 𝓛 E.signature κs qs) ⊛ ‵ (owns (types_at E.signature.params κs) a y.0.4)) ∷ raw ((c κs a).requires g) ∷ []) ∵ split ! $ keep ! (0 ∷ []) $
    enter ! 𝓣.C 𝓣.Λ function (p ∷ q ∷ []) _ $ alloc_all ! (λ l. pass_all ! refl ((tt, tt), ((tt, tt), tt)) $
    sets ! (agg ! (no_more !)) refl (tt, tt) $ sets ! (agg ! (and_then ! (get ! refl) (no_more !))) refl (tt, (tt, tt)) $
    returns ! (look_at ! 0 refl) $ free_all ! refl $
    use0 𝓛 (‵ ((list.the_row T).own_val made (list_val ∷ []))) (list_made 𝓛 T made.items) $
    use0 𝓛 (raw (fact 𝓤 (made.items ≡ made.items))) (fact_i 𝓤 _ (emp 𝓤) refl) $
    nothing ! $ nothing ! $ fjoin ! $ nothing ! $ fjoin ! $
    keep ! (3 ∷ 0 ∷ 2 ∷ 1 ∷ []) $ by ! (leaves 𝓛 E stayed c y list_val made (tt, (tt, tt)) (tt, (tt, tt)))))
