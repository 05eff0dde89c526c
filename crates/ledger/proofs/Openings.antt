-- A worker's entries begin behind the openings of the configuration.
use Rattle.std.proofs.Common.{◌≢◌, ◌≤◌, ℕ, suc, List, [], ◌∷◌, arith}
use Rattle.std.proofs.lemmas.List.Elements.{All-cons}
use Rattle.stat_defs.specs.declared.configs.ScopeSpec.{ScopeSpec}
use Rattle.stat_defs.specs.declared.history.Entry.{Entry}
use Rattle.book_state.specs.State.{NameRules}
use Rattle.book_state.specs.Log.{openings}
use Rattle.book_state.specs.Follows.{FollowsSoFar}
use Rattle.book_state.specs.Laws.{AreOfOthers}
use Rattle.book_state.proofs.Growing.{chain_none}

openings_of_others : (seat id : ℕ) (scopes : List ScopeSpec) → 1 ≤ seat → AreOfOthers seat (openings id scopes)
openings_of_others seat id [] worker = λ k d below. absurd (omega (arith, below))
openings_of_others seat id (scope ∷ scopes) worker =
    All-cons (λ (e : Entry). seat ≢ e.seat) _ (openings (suc id) scopes) (λ same. omega (arith, worker, same)) (openings_of_others seat (suc id) scopes worker)

pub from_openings : (rules : NameRules) (workers seat : ℕ) (scopes : List ScopeSpec) → 1 ≤ seat → FollowsSoFar rules workers seat [] [] (openings 0 scopes)
from_openings rules workers seat scopes worker = chain_none rules workers seat (openings 0 scopes) (openings_of_others seat 0 scopes worker)
