use Rattle.std.proofs.Common.{refl}
use Rattle.stat_defs.specs.Names.{is_label_byte}
use Rattle.stat_defs.specs.declared.events.TheConstants.{MAX_LABEL_BYTES}
use Rattle.event_script.proofs.LineParts.{part_found}
use Rattle.event_script.proofs.parts.label_first.Goals as goal

pub returns : goal.returns
returns c = part_found is_label_byte refl c.args.text.now c.label_length.result c.label_length.ensures refl MAX_LABEL_BYTES c.split_at_space.result c.split_at_space.ensures
