-- What is said on `err`. This project's own.
use Rattle.std.specs.Prelude.{ℕ, ◌+◌, ◌==◌, if◌then◌else◌, List, [], ◌∷◌, ◌++◌, codes}
use Rattle.std.specs.Fmt.{decimal}
use Rattle.stat_defs.specs.declared.reports.FileEnd.{FileEnd}
use Rattle.stat_defs.specs.declared.reports.FileEnd.TheVariants.{Whole, BadLine, LineTooLong, TooBig, TooMany}
use Rattle.stat_defs.specs.declared.reports.FileEnd.TheVariants.{ReadFault, NotOpened}
use Rattle.stats_commands.specs.declared.status.TheConstants.{UNWRITTEN}

abbrev pub usage : List ℕ
usage =
    codes "usage: envoy_stats run|replay [--symbols] [--format statsd|prom|admin] BOOT FILE.. | check BOOT | bins V.. | load [--run] W E\n"

abbrev pub out_of_memory : List ℕ
out_of_memory = codes "out of memory\n"

-- the line on a file that ended so
abbrev pub fault_line : ℕ → FileEnd → List ℕ
fault_line number Whole = []
fault_line number (BadLine n) =
    codes "file " ++ (decimal number ++ (codes " line " ++ (decimal n ++ codes ": no event\n")))
fault_line number (LineTooLong n) =
    codes "file " ++ (decimal number ++ (codes " line " ++ (decimal n ++ codes ": line too long\n")))
fault_line number TooBig = codes "file " ++ (decimal number ++ codes ": too big\n")
fault_line number TooMany = codes "file " ++ (decimal number ++ codes ": too many events\n")
fault_line number ReadFault = codes "file " ++ (decimal number ++ codes ": read failed\n")
fault_line number NotOpened = codes "file " ++ (decimal number ++ codes ": not opened\n")

-- the lines on the files in order, the first of them having that number
abbrev pub fault_lines : ℕ → List FileEnd → List ℕ
fault_lines number [] = []
fault_lines number (end ∷ ends) = fault_line number end ++ fault_lines (number + 1) ends

-- the line on an output that was not written
abbrev pub write_line : ℕ → List ℕ
write_line status = if status == UNWRITTEN then codes "write failed\n" else []

-- these lines, and then that line
abbrev pub with_write_line : List ℕ → ℕ → List ℕ
with_write_line lines status = lines ++ write_line status

-- what is said of files that ended so, and then of the output
abbrev pub said_of : List FileEnd → ℕ → List ℕ
said_of ends status = with_write_line (fault_lines 1 ends) status
