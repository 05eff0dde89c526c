use Rattle.std.proofs.Common.{sym}
use Rattle.std.proofs.lemmas.List.{take_rest}
use Rattle.event_script.proofs.LineParts.{readout_reads, readout_lacks}
use Rattle.event_script.proofs.parts.text_last.Goals as goal

pub returns-then-not-is_end : goal.returns-then-not-is_end
returns-then-not-is_end c = readout_lacks c.args.text.now c.text_length-count.result c.text_length-count.ensures (rw take_rest at (sym c.if-not-is_end.ensures))

pub returns : goal.returns
returns c = rw take_rest (readout_reads c.args.text.now c.text_length-count.result c.text_length-count.ensures (rw take_rest at (sym c.if-not-is_end.ensures)))
