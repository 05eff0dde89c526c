use Rattle.std.proofs.Common.{◌≡◌, map, drop}
use Rattle.stats_io.specs.MemShelf.{file_named}
use Rattle.stats_io.specs.MemShelf.{mem_file}
use Rattle.stats_io.proofs.file.first_named.Given as goal

abbrev pub invariant-loop-place : goal.invariant-loop-place
invariant-loop-place l = file_named (map mem_file (drop l.place l.files)) l.name ≡ file_named (map mem_file l.files) l.name
