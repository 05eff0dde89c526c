use Rattle.prom_text.proofs.Reading.{value_read}
use Rattle.prom_text.proofs.TextBytes.{text_bytes}
use Rattle.prom_text.proofs.laws.text_law.Goals as goal

pub returns : goal.returns
returns c = record { bytes = text_bytes; values = value_read }
