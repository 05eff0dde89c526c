use Rattle.std.proofs.Common.{◌∙◌, codes}
use Rattle.clap.specs.Words.{found_of}
use Rattle.command_words.proofs.Found.{first_found, flag_is}
use Rattle.command_words.proofs.sorting.words_in.Goals as goal

pub returns : goal.returns
returns c = λ s said.
    let found = found_of c.args.matches.now in
    let symbols = flag_is found (codes "symbols") s.symbols c.get_flag.result c.get_flag.ensures.value c.get_flag.ensures.other said.0 in
    let run = flag_is found (codes "run") s.run c.get_flag-2.result c.get_flag-2.ensures.value c.get_flag-2.ensures.other said.1 in
    let format = c.get_str.ensures ∙ first_found found (codes "format") ∙ said.2 in
    let operands = c.in_ok-operands_in.ensures ∙ said.3 in
    λ i. record { symbols = symbols i; run = run i; format = format i; operands = operands i }
