use Rattle.std.proofs.Common.{rules, arith}
use Rattle.command_words.specs.Command.{is_name}
use Rattle.file_reading.specs.declared.limits.TheConstants.{MAX_FILES}
use Rattle.command_words.proofs.OperandLists.{are_some_of}
use Rattle.command_words.proofs.operands.are_files.Goals as goal

pub returns-clause-files : goal.returns-clause-files
returns-clause-files c = are_some_of (λ w. w.now) is_name MAX_FILES c.args.words.now c.are_filled.result (search rules) (omega arith) c.are_filled.ensures
