use Rattle.tag_rules.proofs.Readable.{name_is_text}
use Rattle.book_state.proofs.state.new_metric.Goals as goal

pub split-requires : goal.split-requires
split-requires c = name_is_text c.args.name.now c.requires
