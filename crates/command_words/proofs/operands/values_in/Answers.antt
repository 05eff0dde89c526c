use Rattle.std.proofs.Common.{◌≡◌, ℕ, List, IfOk, subst}
use Rattle.command_words.proofs.OperandLists.{values_of}
use Rattle.command_words.proofs.operands.values_in.Goals as goal

pub returns : goal.returns
returns c =
    subst (λ (l : List ℕ). IfOk c.each_value.result (λ values. values.items ≡ l)) (values_of (λ w. w.now) c.args.words.now) c.each_value.ensures
