use Rattle.std.proofs.Common.{◌∙◌, sym}
use Rattle.command_words.proofs.Numerals.{says_none, parsed_says}
use Rattle.command_words.proofs.numbers.value_in.Goals as goal

pub returns-then-not-begins_plainly : goal.returns-then-not-begins_plainly
returns-then-not-begins_plainly c = sym (says_none c.args.word.now c.if-not-begins_plainly.ensures)

pub returns : goal.returns
returns c =
    c.ok.ensures.value ∙ parsed_says c.args.word.now c.if-not-begins_plainly.ensures.0 c.if-not-begins_plainly.ensures.1 c.parse.result c.parse.ensures.value.0
