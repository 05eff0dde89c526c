use Rattle.std.proofs.Common.{rules, arith, is_some}
use Rattle.command_words.specs.Command.{value_in}
use Rattle.command_words.specs.declared.limits.TheConstants.{MAX_VALUES}
use Rattle.command_words.proofs.OperandLists.{are_some_of}
use Rattle.command_words.proofs.operands.are_values.Goals as goal

pub returns : goal.returns
returns c = are_some_of (λ w. w.now) (λ word. is_some (value_in word)) MAX_VALUES c.args.words.now c.are_value_words.result (search rules) (omega arith) c.are_value_words.ensures
