-- The statuses of files that ended.
use Rattle.std.proofs.Common.{◌≡◌, ◌≢◌, ◌<◌, ◌==◌, Bool, true, false, cond, List, [], ◌∷◌, arith}
use Rattle.stat_defs.specs.declared.reports.FileEnd.{FileEnd}
use Rattle.stat_defs.specs.declared.reports.FileEnd.TheVariants.{Whole, BadLine, LineTooLong, TooBig, TooMany, ReadFault, NotOpened}
use Rattle.stats_commands.specs.Outcome.{status_of, status_of_all}
use Rattle.stats_commands.specs.declared.status.TheConstants.{DONE, NO_COMMAND, UNWRITTEN}

status_small : (end : FileEnd) → status_of end < UNWRITTEN
status_small Whole = omega arith
status_small (BadLine n) = omega arith
status_small (LineTooLong n) = omega arith
status_small TooBig = omega arith
status_small TooMany = omega arith
status_small ReadFault = omega arith
status_small NotOpened = omega arith

-- no file's end has the status of an output that was not written
pub status_all_small : (ends : List FileEnd) → status_of_all ends < UNWRITTEN
status_all_small [] = omega arith
status_all_small (end ∷ ends) = by (status_of end == DONE) (status_all_small ends)
  where
    by : (b : Bool) → status_of_all ends < UNWRITTEN → cond b (status_of_all ends) (status_of end) < UNWRITTEN
    by true rest = rest
    by false rest = status_small end

is_no_usage : (end : FileEnd) → status_of end ≢ NO_COMMAND
is_no_usage Whole e = absurd (omega (arith, e))
is_no_usage (BadLine l) e = absurd (omega (arith, e))
is_no_usage (LineTooLong l) e = absurd (omega (arith, e))
is_no_usage TooBig e = absurd (omega (arith, e))
is_no_usage TooMany e = absurd (omega (arith, e))
is_no_usage ReadFault e = absurd (omega (arith, e))
is_no_usage NotOpened e = absurd (omega (arith, e))

-- nor has one the status of words that are no command
pub status_all_is_no_usage : (ends : List FileEnd) → status_of_all ends ≢ NO_COMMAND
status_all_is_no_usage [] is = absurd (omega (arith, is))
status_all_is_no_usage (end ∷ ends) is = by (status_of end == DONE) is (status_all_is_no_usage ends)
  where
    by : (b : Bool) → cond b (status_of_all ends) (status_of end) ≡ NO_COMMAND → status_of_all ends ≢ NO_COMMAND → ⊥
    by true e rest = rest e
    by false e rest = is_no_usage end e
