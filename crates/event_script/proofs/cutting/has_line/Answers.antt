use Rattle.std.proofs.Common.{sym, ap, ◌∙◌, ℕ, drop}
use Rattle.std.proofs.lemmas.List.{length-drop}
use Rattle.event_script.specs.Script.{is_line}
use Rattle.event_script.proofs.Passed.{own_line, piece_lacks, line_or_piece}
use Rattle.event_script.proofs.cutting.has_line.Goals as goal

pub returns-then-at-whole : goal.returns-then-at-whole
returns-then-at-whole c = own_line c.args.stop c.args.bytes.now c.args.at c.args.whole c.if-at-whole.true c.requires.whole c.requires.own

pub returns : goal.returns
returns c = line_or_piece c.args.stop (drop c.args.at c.args.bytes.now) c.is_line.result
    (ap (λ (n : ℕ). is_line c.args.stop n) (length-drop c.args.at c.args.bytes.now) ∙ sym c.is_line.ensures)
    (piece_lacks c.args.bytes.now c.args.at c.args.whole c.if-at-whole.false c.requires.within c.requires.whole) c.requires.own
