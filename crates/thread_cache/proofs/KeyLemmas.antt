-- Keys of the table that are one key.
use Rattle.std.proofs.Common.{◌≡◌, true, sym, ◌∙◌}
use Rattle.stat_defs.proofs.KeyLemmas.{same_key-is}
use Rattle.thread_cache.specs.declared.key.CacheKey.{CacheKey}
use Rattle.thread_cache.specs.Keys.{key_of}
use Rattle.thread_cache.specs.KeyLaws.{eq, finds_as}

pub same_key_of : (a b : CacheKey) → eq a b ≡ true → key_of b ≡ key_of a
same_key_of a b same = same_key-is (key_of b) (key_of a) (sym (finds_as a b) ∙ same)
