-- Keys as the table keeps them, and as they are asked for. This project's own.
use Rattle.stat_defs.specs.declared.events.Key.{Key}
use Rattle.thread_cache.specs.declared.key.CacheKey.{CacheKey}
use Rattle.thread_cache.specs.declared.query.Query.{Query}

abbrev pub key_of : CacheKey → Key
key_of key = record { label = key.label; kind = key.kind; mode = key.mode; name = key.name }

abbrev pub asked : Query → Key
asked query = record { label = query.label.now; kind = query.kind; mode = query.mode; name = query.name.now }
