-- A cache beside what its seat holds by the book's log. This project's own.
use Rattle.std.specs.Prelude.{◌≡◌, ◌++◌, Bool, not, None, List, [], ◌∷◌, filter, All}
use Rattle.stat_defs.specs.declared.events.Key.{Key}
use Rattle.stat_defs.specs.declared.ids.ScopeId.{ScopeId}
use Rattle.stat_defs.specs.Keys.{Held, held_under, HoldsOnce, is_through}
use Rattle.thread_cache.specs.Held.{held_with, held_without}

-- both give the same answer for every key
abbrev pub SameHeld : List Held → List Held → Type 0
SameHeld cached held = (key : Key) → held_under key cached ≡ held_under key held

-- a find that is held: the seat holds one entry more, and the cache was filled with it
abbrev pub FillIsFind : Type 0
FillIsFind = (cached filled held : List Held) (one : Held) → SameHeld cached held → held_under one.key held ≡ None
    → ((key : Key) → held_under key filled ≡ held_with one cached key) → SameHeld filled (held ++ one ∷ [])

-- an acknowledgement: the seat keeps the entries of live scopes, and the cache dropped the scopes of the others
abbrev pub DropIsAcknowledgement : Type 0
DropIsAcknowledgement = (cached left held : List Held) (released : List ScopeId) (stays : Held → Bool)
    → SameHeld cached held → HoldsOnce held
    → All (λ one. stays one ≡ not (is_through released one)) held
    → ((key : Key) → held_under key left ≡ held_without released (held_under key cached))
    → SameHeld left (filter stays held)

-- an end: the seat holds nothing, and a cache without entries gives the same
abbrev pub EndIsEmpty : Type 0
EndIsEmpty = (cached : List Held) → ((key : Key) → held_under key cached ≡ None) → SameHeld cached []
