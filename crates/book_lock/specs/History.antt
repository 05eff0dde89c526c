-- What the seats of a lock know of the one history of its book (this project's own).
use Rattle.std.specs.Prelude.{◌≡◌, ℕ, suc, ◌*◌, ◌<◌, ◌==◌, if◌then◌else◌, true, false, List, [], ◌∷◌, ◌++◌, length, drop, replicate, All}
use Rattle.stat_defs.specs.declared.history.Entry.{Entry}
use Rattle.stat_defs.specs.declared.history.NameOp.{NameOp}
use Rattle.stat_defs.specs.Books.{BookHistory, releases_in}
use Rattle.stat_defs.specs.Changes.{GoesOnLater}
use Rattle.seat_history.specs.declared.known.LogKnown.{LogKnown}
use Rattle.seat_history.specs.History.{GoesOn, SeatHistory, found_log, left_log, loaded, new_known}
use Rattle.book_lock.specs.Naming.{words_of, AreNames}
use Rattle.book_lock.specs.declared.view.LockKind.{LockKind}
use Rattle.book_lock.specs.declared.view.LockKind.TheVariants.{Take, Publish, Give, Load, StoreWord}
use Rattle.book_lock.specs.declared.view.LockKind.TheVariants.{Count, LoadCount, LoadWord}
use Rattle.book_lock.specs.declared.view.LockStep.{LockStep}
use Rattle.book_lock.specs.declared.view.LockPart.{LockPart}

-- The history of the last book: its log goes on from the first one by entries of the lock's seats, of which
-- each knows its own.
pub record IsOneHistory (first : BookHistory) (seats : ℕ) (known : List LogKnown) (last : BookHistory) : Type 0 where
  pub config : last.config ≡ first.config
  pub workers : last.workers ≡ first.workers
  pub log : GoesOn (λ entry. entry.seat < seats) first.log last.log
  pub each : All (SeatHistory first last.log) known

abbrev pub step_of : LockKind → ℕ → LockStep
step_of kind word = record { kind = kind; word = word }

abbrev pub with_step : LockStep → LockPart → LockPart
with_step step p = record p { steps = step ∷ p.steps }

-- a take that found the turn free, and this log with these changes of names
abbrev pub took : List Entry → List NameOp → LockPart → LockPart
took log names p = with_step (step_of Take 0) (record p {
  seat = found_log log p.seat;
  holds = true;
  names = names;
  stored = [];
  reach = length log;
})

-- a take that found this word
abbrev pub missed : ℕ → LockPart → LockPart
missed word p = with_step (step_of Take word) p

-- so many takes that found the turn taken
abbrev pub tried : ℕ → LockPart → LockPart
tried misses p = record p { steps = replicate misses (step_of Take 1) ++ p.steps }

-- a seat entered, after some tries, and found this log with these changes of names
abbrev pub Entered : List Entry → List NameOp → LockPart → LockPart → Type 0
Entered log names p q = (misses : ℕ) × (q ≡ took log names (tried misses p))

-- a word of a change is stored
abbrev pub stored_word : ℕ → ℕ → LockPart → LockPart
stored_word place word p = with_step (step_of (StoreWord place) word) (record p { stored = p.stored ++ word ∷ [] })

-- the steps on words of changes, one after the other from this place on
abbrev pub word_steps : (ℕ → LockKind) → ℕ → List ℕ → List LockStep → List LockStep
word_steps kind place [] steps = steps
word_steps kind place (w ∷ ws) steps = word_steps kind (suc place) ws (step_of (kind place) w ∷ steps)

-- the words are stored, one after the other from this place on
abbrev pub stored_all : ℕ → List ℕ → LockPart → LockPart
stored_all place words p = record p {
  stored = p.stored ++ words;
  steps = word_steps (λ i. StoreWord i) place words p.steps;
}

-- the number of these changes is published, with a log of this length
abbrev pub names_counted : List NameOp → ℕ → LockPart → LockPart
names_counted names reach p = with_step (step_of Count (length names))
    (record p { names = names; stored = []; reach = reach })

-- the changes past those that were found are stored, and then the number of all
abbrev pub named : List NameOp → ℕ → LockPart → LockPart
named names reach p = names_counted names reach
    (stored_all (2 * length p.names) (words_of (drop (length p.names) names)) p)

-- the log is this one
abbrev pub logged : List Entry → LockPart → LockPart
logged log p = record p { seat = left_log log p.seat }

-- the log is this one, and the number of its releases is stored
abbrev pub releases_stored : List Entry → LockPart → LockPart
releases_stored log p = with_step (step_of Publish (releases_in log)) (logged log p)

-- the log is this one, and the number of its releases is stored where it is not that of the log that was found
abbrev pub published : List Entry → LockPart → LockPart
published log p =
    if releases_in log == releases_in p.seat.known then logged log p else releases_stored log p

abbrev pub gave : LockPart → LockPart
gave p = with_step (step_of Give 0) (record p { holds = false })

-- a book with this log and these changes of names is left
abbrev pub left : List Entry → List NameOp → LockPart → LockPart
left log names p = gave (published log (named names (length log) p))

-- a load that found so many releases
abbrev pub counted : ℕ → LockPart → LockPart
counted n p = with_step (step_of Load n) (record p { seat = loaded n p.seat })

-- a load that found the number of these changes
abbrev pub told : List NameOp → LockPart → LockPart
told names p = with_step (step_of LoadCount (length names)) (record p { names = names })

-- a load of a word of a change
abbrev pub read_word : ℕ → ℕ → LockPart → LockPart
read_word place word p = with_step (step_of (LoadWord place) word) p

-- loads of the words of changes, one after the other from this place on
abbrev pub read_all : ℕ → List ℕ → LockPart → LockPart
read_all place words p = record p { steps = word_steps (λ i. LoadWord i) place words p.steps }

-- What a seat loads that knew the changes of p: one load of the number of changes, and it finds that of these, which go
-- on from those that it knew.
pub record Tells (p : LockPart) (names : List NameOp) : Type 0 where
  pub known : GoesOnLater p.names names
  pub lawful : AreNames p.room names

-- A reading of the changes from this number on: one load of the number of changes, then one of each word of each change
-- from there on; these changes are appended, in order.
pub record Reads (from n : ℕ) (before after : List NameOp) (p q : LockPart) : Type 0 where
  pub names : List NameOp
  pub number : length names ≡ n
  pub tells : Tells p names
  pub appended : after ≡ before ++ drop from names
  pub part : q ≡ read_all (2 * from) (words_of (drop from names)) (told names p)

-- a seat that has made no step, of a lock with this room
abbrev pub new_part : BookHistory → ℕ → ℕ → LockPart
new_part first room number = record {
  seat = new_known first number;
  holds = false;
  room = room;
  names = [];
  stored = [];
  reach = 0;
  steps = [];
}
