-- What a log comes to: its state, whether it is legal, and what each seat holds. This project's own.
use Rattle.std.specs.Prelude.{◌≡◌, ℕ, suc, ◌==◌, ◌&&◌, if◌then◌else◌, nat_le, Bool, true, false, List, [], ◌∷◌, ◌++◌}
use Rattle.std.specs.Prelude.{replicate}
use Rattle.std.specs.List.{list_all}
use Rattle.stat_defs.specs.declared.history.Call.{Call}
use Rattle.stat_defs.specs.declared.history.Call.TheVariants as call
use Rattle.stat_defs.specs.declared.history.Reply.TheVariants as reply
use Rattle.stat_defs.specs.declared.history.Entry.{Entry}
use Rattle.stat_defs.specs.declared.configs.ScopeSpec.{ScopeSpec}
use Rattle.book_state.specs.State.{NameRules, State, Held, held_in}
use Rattle.book_state.specs.Step.{effect, Allowed}

-- no scope, no metric, and a seat for each worker
abbrev pub empty : ℕ → State
empty workers = record {
  scopes = [];
  metrics = [];
  releases = 0;
  seats = replicate workers
      (record { tag = 0; held = []; ended = false });
}

-- the openings of the configuration's scopes, in order, from this number on
abbrev pub openings : ℕ → List ScopeSpec → List Entry
openings id [] = []
openings id (scope ∷ scopes) = record {
  seat = 0;
  call = call.OpenScope scope.label scope.prefix;
  reply = reply.Opened
      (record { 0 = id });
} ∷ openings (suc id) scopes

abbrev pub is_sweep : Call → Bool
is_sweep call.Sweep = true
is_sweep _ = false

-- whose entry it is: seat 0 sweeps, and the workers, from 1, make every other call
abbrev pub fits_seat : ℕ → Entry → Bool
fits_seat workers entry = if is_sweep entry.call then entry.seat == 0
    else (nat_le 1 entry.seat && nat_le entry.seat workers)

-- the state that the entries of a log give, one after the other
abbrev pub replay_from : NameRules → State → List Entry → State
replay_from rules s [] = s
replay_from rules s (entry ∷ log) = replay_from rules (effect rules entry.seat entry.call entry.reply s) log

abbrev pub replay : NameRules → ℕ → List Entry → State
replay rules workers log = replay_from rules (empty workers) log

-- each entry is a step from the state that the entries before it leave
abbrev pub Run : NameRules → State → List Entry → Type 0
Run rules s [] = Unit {0}
Run rules s (entry ∷ log) =
    Allowed rules entry.seat entry.call entry.reply s × Run rules (effect rules entry.seat entry.call entry.reply s) log

-- a log of a book with these scopes configured and this number of workers
pub record Legal (rules : NameRules) (scopes : List ScopeSpec) (workers : ℕ) (log : List Entry) : Type 0 where
  pub rest : List Entry
  pub begins : log ≡ openings 0 scopes ++ rest
  pub seats : list_all (fits_seat workers) rest ≡ true
  pub steps : Run rules (empty workers) log

-- what a seat holds after a log
abbrev pub held_by : NameRules → ℕ → ℕ → List Entry → List Held
held_by rules workers seat log = held_in (replay rules workers log) seat
