-- What callers see of a book of scopes and names. This project's own.
use Rattle.std.specs.Prelude.{ℕ, Bool, true, false, List, count_by}
use Rattle.stat_defs.specs.declared.configs.Config.{Config}
use Rattle.stat_defs.specs.declared.history.Entry.{Entry}
use Rattle.stat_defs.specs.declared.history.Reply.{Reply}
use Rattle.stat_defs.specs.declared.history.Reply.TheVariants as reply

-- the configuration and the number of workers that a book was made with, and the log of its calls
pub record BookHistory : Type 0 where
  pub config : Config
  pub workers : ℕ
  pub log : List Entry

abbrev pub is_released : Reply → Bool
is_released (reply.Released id) = true
is_released _ = false

-- how many scopes were released
abbrev pub releases_in : List Entry → ℕ
releases_in log = count_by (λ entry. is_released entry.reply) log
