-- What a seat knows of a book of its own (this project's own).
use Rattle.std.specs.Prelude.{ℕ, []}
use Rattle.stat_defs.specs.Books.{BookHistory, releases_in}
use Rattle.seat_history.specs.declared.known.LogKnown.{LogKnown}

-- It knows the whole log. All entries count as made by its calls, those of the configuration and of a sweep too: where
-- its calls alone lengthen the log, they have lengthened it by entries of its own number alone.
abbrev pub owned_known : ℕ → BookHistory → LogKnown
owned_known number book = record {
  number = number;
  config = book.config;
  workers = book.workers;
  first = [];
  known = book.log;
  made = book.log;
  seen = releases_in book.log;
}
