-- Worked logs that are not legal, and are not safe. This project's own.
use Rattle.std.specs.Prelude.{◌≡◌, List, [], ◌∷◌, ◌++◌, codes}
use Rattle.stat_defs.specs.declared.history.Entry.{Entry}
use Rattle.book_state.specs.State.{symbols_in}
use Rattle.book_state.specs.Log.{openings, replay}
use Rattle.book_state.specs.Safe.{SymbolsSafe}
use Rattle.book_state.specs.Worked.{plain, root_alone, opens, releases, makes, finds, acks, sweeps, ends}
use Rattle.book_state.specs.Worked.{to_second_sweep}

-- number 1 is given to a second token
abbrev pub given_twice : List Entry
given_twice = openings 0 root_alone
    ++ makes 1 (codes "root") (codes "u") 0 (1 ∷ [])
    ∷ makes 1 (codes "root") (codes "w") 1 (1 ∷ [])
    ∷ []

-- a seat finds a metric after its end, and a sweep does not wait for it
abbrev pub found_after_end : List Entry
found_after_end = openings 0 root_alone
    ++ opens 1 (codes "s") (codes "t") 1
    ∷ makes 1 (codes "s") (codes "u") 0 (1 ∷ 2 ∷ [])
    ∷ ends 1
    ∷ finds 1 (codes "s") (codes "u") 0
    ∷ releases 1 (codes "s") 1
    ∷ sweeps 1
    ∷ []

-- a seat acknowledges a release that there was not yet, and a sweep does not wait for it
abbrev pub acknowledged_early : List Entry
acknowledged_early = openings 0 root_alone
    ++ opens 1 (codes "s") (codes "t") 1
    ∷ makes 1 (codes "s") (codes "u") 0 (1 ∷ 2 ∷ [])
    ∷ acks 1 1
    ∷ releases 1 (codes "s") 1
    ∷ sweeps 1
    ∷ []

-- a metric that is gone is found, though its number was given again
abbrev pub found_gone : List Entry
found_gone = openings 0 root_alone
    ++ opens 1 (codes "s") [] 1
    ∷ makes 1 (codes "s") (codes "u") 0 (1 ∷ [])
    ∷ releases 1 (codes "s") 1
    ∷ acks 1 1
    ∷ sweeps 1
    ∷ makes 1 (codes "root") (codes "w") 1 (1 ∷ [])
    ∷ finds 1 (codes "root") (codes "u") 0
    ∷ []

-- a name of one token gets two numbers, and the second is given again while a seat holds the name
abbrev pub number_unseen : List Entry
number_unseen = openings 0 root_alone
    ++ makes 1 (codes "root") (codes "u") 0 (1 ∷ 7 ∷ [])
    ∷ makes 1 (codes "root") (codes "w") 1 (7 ∷ [])
    ∷ []

-- the number of a name that is gone is given to a new one
abbrev pub given_again : List Entry
given_again = to_second_sweep ++ makes 1 (codes "root") (codes "x") 2 (1 ∷ []) ∷ []

pub record SafeAndNot : Type 0 where
  pub twice : SymbolsSafe plain 1 given_twice → ⊥
  pub lost : SymbolsSafe plain 1 found_after_end → ⊥
  pub early : SymbolsSafe plain 1 acknowledged_early → ⊥
  pub revived : SymbolsSafe plain 1 found_gone → ⊥
  pub unseen : SymbolsSafe plain 1 number_unseen → ⊥
  pub safe : SymbolsSafe plain 2 given_again
  pub symbols : symbols_in (replay plain 2 given_again) ≡ (codes "w", 3) ∷ (codes "x", 1) ∷ []
