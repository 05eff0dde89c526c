-- How a reader looks at the changes of a book's names (this project's own).
use Rattle.std.specs.Prelude.{◌≡◌, ℕ, ◌*◌, List, length, drop}
use Rattle.stat_defs.specs.declared.history.NameOp.{NameOp}
use Rattle.book_lock.specs.declared.view.LockPart.{LockPart}
use Rattle.book_lock.specs.Naming.{words_of}
use Rattle.book_lock.specs.History.{Tells, told, read_all}

-- The seat knew at least these changes: it loaded the number of all, and then each word of each change past these.
pub record BringsUp (known : List NameOp) (p q : LockPart) : Type 0 where
  pub tells : Tells p q.names
  pub part : q ≡ read_all (2 * length known) (words_of (drop (length known) q.names)) (told q.names p)

-- one load of the number of changes, and then of some words of them
pub record Looks (p q : LockPart) : Type 0 where
  pub tells : Tells p q.names
  pub place : ℕ
  pub words : List ℕ
  pub part : q ≡ read_all place words (told q.names p)
