-- The rule of a lock's words and slot (this project's own).
--
-- Word 0 is the turn, 1 while a seat has it. Word 8 is the number of releases in the log. Word 16 is the number of
-- published changes of the list of names, and behind it stand two words of each change. The words between them are not
-- used, so that neither the word which each event loads nor the one which each reading loads is on the cache line of the
-- turn, which each try writes. The one slot has the book while no seat has the turn.
-- A seat takes the turn by a compare-and-exchange of 0 for 1, and takes the book out of the slot. It stores the words of
-- the book's new changes behind those of the published ones, gives the book back into the slot, stores the number of its
-- changes, stores that of its releases where it is another than the one that it found, and then stores 0 as the turn.
-- A seat that only wants the number of releases loads word 8. A seat that only wants the changes loads word 16, and then
-- the words below that number.
--
-- Why there is one history at every moment of every interleaving. `Locked` is a fact of the words, of the
-- book at home and of what all seats know. It holds when the lock is made, and a step is only allowed where
-- it keeps it, whatever the other seats did before.
-- The turn is the number of seats that hold, so at most one holds, and where it is 0 the book is at home
-- with the log so far.
-- A take that finds 0 gets this very book. Its log is the one that the seat left last and then entries of
-- other numbers, since no other seat may leave entries of this number, and no two seats have one number.
-- The seat that holds makes the log longer where it stores the number of releases, and else at its give: to all
-- others it is then the log that they knew with further entries of the holder's number, and to the holder it is its own.
-- A give is allowed where the book has as many releases as the log that its seat knows, which are those of the store just
-- made, or those that it found where the call released nothing.
-- So word 8 is the number of releases of the log so far at every moment, and never falls: a load finds at
-- least what its seat saw before. No seat can tell that the book itself comes home a step later than the number, at the
-- give, since the turn is 1 until then.
-- The words below the published number are the changes of the book in order, as it came home last or is about to. Words
-- beyond are stored by the seat that holds alone, and no other seat loads them. So a seat that loaded the number finds in
-- each word below it, whenever it loads that word, the change of that number, which no step changes any more.
-- Each published change has an `at` at most the length of the log that its holder left, and above that of the log that it
-- found. So what stands below a loaded number is cut at an `at`: each change that comes later has a greater one.
-- A split or a join moves parts from view to view, and no sum over all parts and no fact of each part can
-- tell.
use Rattle.std.specs.Prelude.{◌≡◌, ◌≢◌, ℕ, zero, suc, ◌+◌, ◌*◌, ◌<◌, ◌≤◌, Bool, true, false, ◌==◌, List, [], ◌∷◌, length}
use Rattle.std.specs.Prelude.{slice_index, Option, Some, All}
use Rattle.std.specs.declared.boxed.Box.{Box}
use mathlib.Core.Option.{some}
use lib.ListN.{get_elem?}
use Rattle.atomic_table.specs.Table.{State, Me, Step, rest}
use Rattle.seat_parts.specs.declared.Parts.{Parts}
use Rattle.seat_parts.specs.Parts.{parts_total, AllParts, first_or, own_changed}
use Rattle.stat_defs.specs.declared.history.Entry.{Entry}
use Rattle.stat_defs.specs.declared.configs.Config.{Config}
use Rattle.stat_defs.specs.declared.configs.MatchSpec.TheVariants as matcher
use Rattle.stat_defs.specs.Books.{BookHistory, releases_in}
use Rattle.book_lock.specs.declared.view.LockPart.{LockPart}
use Rattle.stat_defs.specs.declared.history.NameOp.{NameOp}
use Rattle.stat_defs.specs.Changes.{at_of}
use Rattle.book_lock.specs.Naming.{words_of, NamesStand, KnowsNames, FindsNames}
use Rattle.seat_history.specs.History.{GoesOn, SeatHistory, Finds, with_log}
use Rattle.book_lock.specs.History.{took, missed, logged, releases_stored, gave, counted}
use Rattle.book_lock.specs.History.{stored_word, names_counted, told, read_word, Tells, new_part}

abbrev pub View : Type 0
View = Parts LockPart

abbrev pub bit : Bool → ℕ
bit true = 1
bit false = 0

-- 1 for the seat of this number, and 1 for a seat that has the turn
abbrev pub numbered : ℕ → LockPart → ℕ
numbered k p = bit (p.seat.number == k)

abbrev pub holding : LockPart → ℕ
holding p = bit p.holds

-- what a seat of a lock with so many seats is: the seat that holds knows the whole log
pub record FitsLock (first : BookHistory) (seats room : ℕ) (log : List Entry) (changes : List NameOp) (words : List ℕ)
    (p : LockPart) : Type 0 where
  pub number : p.seat.number < seats
  pub history : SeatHistory first log p.seat
  pub current : p.holds ≡ true → p.seat.known ≡ log
  pub names : KnowsNames room words changes p

-- the history of a book in a box, as it lies in the slot
abbrev pub in_box : {B A : Type 0} → (B → BookHistory) → Box B A → BookHistory
in_box history_of boxed = history_of boxed.value

abbrev pub names_in_box : {B A : Type 0} → (B → List NameOp) → Box B A → List NameOp
names_in_box changes_of boxed = changes_of boxed.value

pub record Locked {B : Type 0} (history_of : B → BookHistory) (changes_of : B → List NameOp) (first : BookHistory)
    (seats room : ℕ) (s : State (Option B) View) : Type 0 where
  pub log : List Entry
  pub changes : List NameOp
  pub words : length s.words ≡ 17 + 2 * room
  pub slots : length s.homes ≡ 1
  pub origin : GoesOn (λ entry. entry.seat < seats) first.log log
  pub turn : slice_index s.words 0 ≡ parts_total holding s.views
  pub one : parts_total holding s.views ≤ 1
  pub released : slice_index s.words 8 ≡ releases_in log
  pub home : slice_index s.words 0 ≡ 0 → (book : B) × (get_elem? s.homes 0 ≡ some (some (Some book)))
      × (history_of book ≡ with_log log first) × (changes_of book ≡ changes)
  pub names : NamesStand room s.words changes
  pub within : slice_index s.words 0 ≡ 0 → All (λ c. at_of c ≤ length log) changes
  pub count : parts_total (λ _. 1) s.views ≡ seats
  pub numbers : (k : ℕ) → parts_total (numbered k) s.views ≤ 1
  pub each : AllParts (FitsLock first seats room log changes s.words) s.views

-- n seats that have made no step, numbered from `number` on
abbrev pub new_parts : BookHistory → ℕ → ℕ → ℕ → List LockPart
new_parts first room number zero = []
new_parts first room number (suc n) = new_part first room number ∷ new_parts first room (suc number) n

-- a new lock: its seats are numbered from 0
abbrev pub lock_view : BookHistory → ℕ → ℕ → View
lock_view first seats room = record { parts = new_parts first room 0 seats }

abbrev pub blank_config : Config
blank_config = record {
  tags = [];
  tag_paths = [];
  matcher = matcher.AdmitAll;
  buckets = [];
  statsd_prefix = [];
  scopes = [];
  flushes = 0;
  flush_every = 0;
  reads = 0;
}

-- a part for a view that has none; each seat of a lock has one
abbrev pub blank_part : LockPart
blank_part = new_part (record { config = blank_config; workers = 0; log = [] }) 0 0

-- a view's own part
abbrev pub own_part : View → LockPart
own_part v = first_or blank_part v.parts

abbrev pub Sat : Type 0 → Type 0
Sat B = Me (Option B) View

-- What each kind of step leaves of its seat, by the number that it found.
module _ {B : Type 0} where
  -- a take that finds 0 has the book out of the slot, and any other finds 1
  abbrev pub Taken : (B → BookHistory) → (B → List NameOp) → Step (Option B) → Sat B → ℕ → Sat B → Type 0
  Taken history_of changes_of st m r m' =
      (r ≡ 0 → (book : B)
      × (m' ≡ (own_changed (took (history_of book).log (changes_of book)) m.0, (0, Some book) ∷ m.1))
      × Finds (own_part m.0).seat (history_of book)
      × FindsNames (own_part m.0) (history_of book).log (changes_of book))
      × (r ≢ 0 → (r ≡ 1) × (m' ≡ (own_changed (missed r) m.0, m.1)))

  -- a store of a word behind the published ones
  abbrev pub WordStored : Step (Option B) → Sat B → ℕ → Sat B → Type 0
  WordStored st m r m' = (place : ℕ) → st.word ≡ 17 + place → m' ≡ (own_changed (stored_word place r) m.0, m.1)

  -- where the number of changes is published the book lies in the slot again, which is still the seat's
  abbrev pub Counted : (B → BookHistory) → (B → List NameOp) → Step (Option B) → Sat B → ℕ → Sat B → Type 0
  Counted history_of changes_of st m r m' = (book : B) → m.1 ≡ (0, Some book) ∷ [] → m'
      ≡ (own_changed (names_counted (changes_of book) (length (history_of book).log)) m.0, m.1)

  -- where that of the releases is, the log becomes the book's too
  abbrev pub Published : (B → BookHistory) → Step (Option B) → Sat B → ℕ → Sat B → Type 0
  Published history_of st m r m' = (book : B) → m.1 ≡ (0, Some book) ∷ [] → m'
      ≡ (own_changed (releases_stored (history_of book).log) m.0, m.1)

  -- at a give the log becomes the book's, where it was not yet, and the slot is the seat's no more
  abbrev pub Given : (B → BookHistory) → Step (Option B) → Sat B → ℕ → Sat B → Type 0
  Given history_of st m r m' = (book : B) → m.1 ≡ (0, Some book) ∷ [] → m'
      ≡ (own_changed (λ p. gave (logged (history_of book).log p)) m.0, rest m.1)

  abbrev pub Loaded : Step (Option B) → Sat B → ℕ → Sat B → Type 0
  Loaded st m r m' = (m' ≡ (own_changed (counted r) m.0, m.1)) × ((own_part m.0).seat.seen ≤ r)

  -- a load of the number of changes tells that there are so many, which go on from those that the seat knew
  abbrev pub CountLoaded : Step (Option B) → Sat B → ℕ → Sat B → Type 0
  CountLoaded st m r m' = (names : List NameOp) × (m' ≡ (own_changed (told names) m.0, m.1)) × (length names ≡ r)
      × Tells (own_part m.0) names

  -- a load of a word below the number that the seat knows tells the word of that change
  abbrev pub WordLoaded : Step (Option B) → Sat B → ℕ → Sat B → Type 0
  WordLoaded st m r m' = (place : ℕ) → st.word ≡ 17 + place → (m' ≡ (own_changed (read_word place r) m.0, m.1))
      × (place < length (words_of (own_part m.0).names) → r ≡ slice_index (words_of (own_part m.0).names) place)
