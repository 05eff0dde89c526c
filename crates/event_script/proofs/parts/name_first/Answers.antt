use Rattle.std.proofs.Common.{refl}
use Rattle.stat_defs.specs.Names.{is_name_byte}
use Rattle.stat_defs.specs.declared.events.TheConstants.{MAX_NAME_BYTES}
use Rattle.event_script.proofs.LineParts.{part_found}
use Rattle.event_script.proofs.parts.name_first.Goals as goal

pub returns : goal.returns
returns c = part_found is_name_byte refl c.args.text.now c.name_length.result c.name_length.ensures refl MAX_NAME_BYTES c.split_at_space.result c.split_at_space.ensures
