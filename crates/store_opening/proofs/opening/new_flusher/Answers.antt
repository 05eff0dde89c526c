use Rattle.store_opening.proofs.NewTokens.{tokens_kept}
use Rattle.store_opening.proofs.opening.new_flusher.Goals as goal

pub new-requires : goal.new-requires
new-requires c = tokens_kept c.args.tokens.items c.requires.tokens c.requires.few
