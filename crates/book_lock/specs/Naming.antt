-- The changes of the list of names as words of a lock's table (this project's own).
--
-- A change takes two words. The first is its `at`. The second is 8 * id + k, with k 0, 1, 2 or 3 for a made counter,
-- gauge, histogram or text, and 4 for a gone metric. Word 16 of the table is the number of published changes, and the
-- words of the changes stand behind it, from place 17 on.
use Rattle.std.specs.Prelude.{◌≡◌, ℕ, ◌+◌, ◌*◌, ◌<◌, ◌≤◌, true, List, [], ◌∷◌, ◌++◌, length, slice_index, All}
use Rattle.stat_defs.specs.declared.ids.Kind.{Kind}
use Rattle.stat_defs.specs.declared.ids.Kind.TheVariants.{Counter, Gauge, Histogram, Text}
use Rattle.stat_defs.specs.declared.history.NameOp.{NameOp}
use Rattle.stat_defs.specs.declared.history.NameOp.TheVariants.{Made, Gone}
use Rattle.stat_defs.specs.declared.history.Entry.{Entry}
use Rattle.stat_defs.specs.Changes.{at_of, id_of, NeverFalls, GoesOnLater}
use Rattle.book_lock.specs.declared.view.LockPart.{LockPart}

abbrev pub kind_code : Kind → ℕ
kind_code Counter = 0
kind_code Gauge = 1
kind_code Histogram = 2
kind_code Text = 3

abbrev pub code_of : NameOp → ℕ
code_of (Made at id kind) = 8 * id.0 + kind_code kind
code_of (Gone at id) = 8 * id.0 + 4

-- the words of these changes, one after the other
abbrev pub words_of : List NameOp → List ℕ
words_of [] = []
words_of (c ∷ cs) = at_of c ∷ code_of c ∷ words_of cs

-- from this place on the words are these
abbrev pub Stands : List ℕ → ℕ → List ℕ → Type 0
Stands words place xs = (i : ℕ) → i < length xs → slice_index words (place + i) ≡ slice_index xs i

-- what is true of the changes under a lock with this room
pub record AreNames (room : ℕ) (changes : List NameOp) : Type 0 where
  pub few : length changes ≤ room
  pub small : All (λ c. 2 * id_of c < room) changes
  pub rising : NeverFalls changes

-- these changes are published
pub record NamesStand (room : ℕ) (words : List ℕ) (changes : List NameOp) : Type 0 where
  pub count : slice_index words 16 ≡ length changes
  pub stored : Stands words 17 (words_of changes)
  pub lawful : AreNames room changes

-- what the seat that has the turn knows: it found all published changes, the words that it stored stand behind theirs,
-- and no published one has an `at` beyond its reach
pub record UnderWay (words : List ℕ) (changes : List NameOp) (p : LockPart) : Type 0 where
  pub current : p.names ≡ changes
  pub stored : Stands words 17 (words_of changes ++ p.stored)
  pub within : All (λ c. at_of c ≤ p.reach) changes

-- What a seat knows of the names at every moment: the published changes go on from those that it found, left or loaded
-- last, and each further one has a later `at`.
pub record KnowsNames (room : ℕ) (words : List ℕ) (changes : List NameOp) (p : LockPart) : Type 0 where
  pub sized : p.room ≡ room
  pub known : GoesOnLater p.names changes
  pub holder : p.holds ≡ true → UnderWay words changes p

-- the words of a new lock with this room, round a book with so many releases and no change
pub record AreFirst (room releases : ℕ) (words : List ℕ) : Type 0 where
  pub wide : length words ≡ 17 + 2 * room
  pub free : slice_index words 0 ≡ 0
  pub released : slice_index words 8 ≡ releases
  pub none : slice_index words 16 ≡ 0

-- what a seat finds of the names when it enters, with a book of this log
pub record FindsNames (p : LockPart) (log : List Entry) (changes : List NameOp) : Type 0 where
  pub known : GoesOnLater p.names changes
  pub lawful : AreNames p.room changes
  pub within : All (λ c. at_of c ≤ length log) changes

-- What a seat may leave of the names: those changes that it found and then new ones. There is room for all. The `at` of
-- a new one is above the length of the log that was found and at most that of the log that is left, it never falls along
-- them, and twice the number of a new one's metric is below the room.
pub record MayName (p : LockPart) (log : List Entry) (changes : List NameOp) : Type 0 where
  pub more : List NameOp
  pub goes_on : changes ≡ p.names ++ more
  pub few : length changes ≤ p.room
  pub late : All (λ c. length p.seat.known < at_of c) more
  pub within : All (λ c. at_of c ≤ length log) more
  pub rising : NeverFalls more
  pub small : All (λ c. 2 * id_of c < p.room) more

-- what may be published as the changes, once the words of the new ones are stored
pub record MayCount (p : LockPart) (log : List Entry) (changes : List NameOp) : Type 0 where
  pub more : List NameOp
  pub goes_on : changes ≡ p.names ++ more
  pub stored : p.stored ≡ words_of more
  pub few : length changes ≤ p.room
  pub late : All (λ c. p.reach < at_of c) more
  pub within : All (λ c. at_of c ≤ length log) more
  pub reach : p.reach ≤ length log
  pub rising : NeverFalls more
  pub small : All (λ c. 2 * id_of c < p.room) more

-- The changes of the last book, and what each seat knows of them: those below each number that a seat left or loaded are
-- the first ones of the book, and exactly those of it whose `at` is at most that of the last of them.
pub record NamesAreOne (room : ℕ) (parts : List LockPart) (changes : List NameOp) : Type 0 where
  pub lawful : AreNames room changes
  pub each : All (λ p. GoesOnLater p.names changes) parts
