-- The empty struct, with any items. Assumes `Logic`.
use Rattle.std.proofs.Common.{List, [], ◌∷◌, refl}
use seplogic.Ra.Ura.{Ura}
use mir.Val.{Val, vstruct, vcons, vnil}
use base.Logic.{ent, emp}
use types.Logic.{Logic, sem}
use denote.RattleType.{RattleType}
use denote.Shadow.{makes_shadow}
use Rattle.ghost_list.specs.contracts.GhostList as list

abbrev pub list_val : Val
list_val = vstruct (vcons (vstruct vnil) vnil)

pub list_made : {M : Type 1} {𝓤 : Ura M} (𝓛 : Logic 𝓤) (T : RattleType) (items : List T.Denot)
    → ent 𝓤 (emp 𝓤) (sem 𝓛 ((list.the_row T).own_val (record { marker = record {}; items = items }) (list_val ∷ [])))
list_made 𝓛 T items =
    makes_shadow 𝓛 ((list.the_row T).own_val (record { marker = record {}; items = items }) (list_val ∷ []))
    ((λ vss. (tt, ((λ uss. (tt, tt)), tt))), tt) (((vstruct vnil ∷ [], tt), (refl, ((tt, (refl, tt)), tt))), tt)
