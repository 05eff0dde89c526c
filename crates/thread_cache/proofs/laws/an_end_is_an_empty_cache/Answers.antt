use Rattle.thread_cache.proofs.laws.an_end_is_an_empty_cache.Goals as goal

pub returns : goal.returns
returns c cached none key = none key
