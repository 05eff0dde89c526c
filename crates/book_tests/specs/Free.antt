-- What a log shows of a seat's right to call. This project's own.
use Rattle.std.specs.Prelude.{ℕ, ◌+◌, ◌*◌, Bool, true, false, ◌&&◌, ◌==◌, nat_le, List, get_or}
use Rattle.std.specs.List.{list_any}
use Rattle.stat_defs.specs.Keys.{same_key}
use Rattle.stat_defs.specs.declared.events.Key.{Key}
use Rattle.stat_defs.specs.declared.history.Call.{Call}
use Rattle.stat_defs.specs.declared.history.Call.TheVariants as call
use Rattle.stat_defs.specs.declared.history.Entry.{Entry}
use Rattle.book_state.specs.SeatLaws.{is_end}

-- it ends a seat, or finds this key for it
abbrev pub uses_key : Key → Call → Bool
uses_key key call.End = true
uses_key key (call.Find other) = same_key other key
uses_key key _ = false

abbrev pub has_ended : ℕ → List Entry → Bool
has_ended seat log = list_any (λ entry. entry.seat == seat && is_end entry.call) log

abbrev pub has_used : ℕ → Key → List Entry → Bool
has_used seat key log = list_any (λ entry. entry.seat == seat && uses_key key entry.call) log

-- the first three bytes of a key's name, as one number
abbrev pub rank : Key → ℕ
rank key = get_or key.name 0 0 * 65536 + get_or key.name 1 0 * 256 + get_or key.name 2 0

-- it ends a seat, or finds a key of this rank or above
abbrev pub is_from : ℕ → Call → Bool
is_from least call.End = true
is_from least (call.Find key) = nat_le least (rank key)
is_from least _ = false

abbrev pub has_from : ℕ → ℕ → List Entry → Bool
has_from seat least log = list_any (λ entry. entry.seat == seat && is_from least entry.call) log
