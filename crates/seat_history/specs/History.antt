-- The history of a book that several seats call, as each of them knows it (this project's own).
use Rattle.std.specs.Prelude.{◌≡◌, ◌≢◌, ℕ, ◌≤◌, ◌==◌, List, [], ◌++◌, length, drop, filter, All}
use Rattle.stat_defs.specs.declared.history.Entry.{Entry}
use Rattle.stat_defs.specs.Books.{BookHistory, releases_in}
use Rattle.seat_history.specs.declared.known.LogKnown.{LogKnown}

-- a log goes on from the known one by entries that have this property
abbrev pub GoesOn : (Entry → Type 0) → List Entry → List Entry → Type 0
GoesOn P known log = (more : List Entry) × (log ≡ known ++ more) × All P more

-- the entries of a log past those of the known one
abbrev pub past : List Entry → List Entry → List Entry
past known log = drop (length known) log

-- the entries of a seat, in order
abbrev pub entries_by : ℕ → List Entry → List Entry
entries_by seat log = filter (λ entry. entry.seat == seat) log

-- a history with this log in place of its own
abbrev pub with_log : List Entry → BookHistory → BookHistory
with_log log history = record { config = history.config; workers = history.workers; log = log }

-- the history of the book that the seat was made with
abbrev pub first_history : LogKnown → BookHistory
first_history k = record { config = k.config; workers = k.workers; log = k.first }

-- the history of the book as the seat found or left it last
abbrev pub known_history : LogKnown → BookHistory
known_history k = record { config = k.config; workers = k.workers; log = k.known }

-- What is true of a seat at every moment, where the book was made with the history `first`, and `log` is the log so
-- far:
-- the log begins with the one that the seat found or left last, and has no further entry of its number;
-- past the entries that the book was made with, its entries are those that its calls made, in order, each once;
-- and there are as many releases as it saw, which are those of the log that it knows, or more.
pub record SeatHistory (first : BookHistory) (log : List Entry) (k : LogKnown) : Type 0 where
  pub made_with : first_history k ≡ first
  pub known : GoesOn (λ entry. entry.seat ≢ k.number) k.known log
  pub made : entries_by k.number (past first.log log) ≡ k.made
  pub seen : k.seen ≤ releases_in log
  pub fewest : releases_in k.known ≤ k.seen

-- What a seat finds when it calls: the log that it knows, then entries of others alone, with no fewer releases than it
-- saw.
pub record Finds (k : LogKnown) (found : BookHistory) : Type 0 where
  pub config : found.config ≡ k.config
  pub workers : found.workers ≡ k.workers
  pub log : GoesOn (λ entry. entry.seat ≢ k.number) k.known found.log
  pub releases : k.seen ≤ releases_in found.log

-- What a seat may leave: the log that it found, then entries of its own number alone.
pub record MayLeave (k : LogKnown) (history : BookHistory) : Type 0 where
  pub config : history.config ≡ k.config
  pub workers : history.workers ≡ k.workers
  pub log : GoesOn (λ entry. entry.seat ≡ k.number) k.known history.log

-- the seat found this log
abbrev pub found_log : List Entry → LogKnown → LogKnown
found_log log k = record k { known = log; seen = releases_in log }

-- the seat, which found the log that it knows, left this one
abbrev pub left_log : List Entry → LogKnown → LogKnown
left_log log k = record k { known = log; made = k.made ++ past k.known log; seen = releases_in log }

-- the seat loaded so many releases
abbrev pub loaded : ℕ → LogKnown → LogKnown
loaded n k = record k { seen = n }

-- a seat that has made no call
abbrev pub new_known : BookHistory → ℕ → LogKnown
new_known first number = record {
  number = number;
  config = first.config;
  workers = first.workers;
  first = first.log;
  known = first.log;
  made = [];
  seen = releases_in first.log;
}
