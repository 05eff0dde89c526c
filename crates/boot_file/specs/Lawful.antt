-- Facts of parts of a configuration, beside those that all crates share. This project's own.
use Rattle.std.specs.Prelude.{◌≤◌}
use Rattle.stat_defs.specs.declared.configs.TheConstants.{MAX_FLUSHES, MAX_FLUSH_EVERY}
use Rattle.stat_defs.specs.Configs.{IsTagSpec, HasPath, AreScopes}
use Rattle.boot_file.specs.declared.default_tags.PlacedTag.{PlacedTag}
use Rattle.boot_file.specs.declared.run.Run.{Run}

-- a lawful rule, whose path is there where it is a regular expression
pub record IsPlacedTag (tag : PlacedTag) : Type 0 where
  pub lawful : IsTagSpec tag.spec
  pub path : HasPath tag.spec.rule tag.path

pub record IsLawfulRun (run : Run) : Type 0 where
  pub scopes : AreScopes run.scopes
  pub flushes : run.flushes ≤ MAX_FLUSHES
  pub reads : run.reads ≤ MAX_FLUSHES
  pub some : 1 ≤ run.flush_every
  pub most : run.flush_every ≤ MAX_FLUSH_EVERY
