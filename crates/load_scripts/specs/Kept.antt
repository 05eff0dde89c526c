-- What the names of a script keep. This project's own.
use Rattle.std.specs.Prelude.{◌≡◌, ◌≤◌, map}
use Rattle.std.specs.List.{range_with_len}
use Rattle.load_scripts.specs.Load.{counter_name, histogram_name, gauge_name}
use Rattle.load_scripts.specs.declared.limits.TheConstants.{MAX_SCRIPTS}
use Rattle.load_scripts.specs.declared.names.ScriptNames.TheInside.{Inside}

-- they are those of all counters and histograms, and of the script's gauge
pub record AreNames (names : Inside) : Type 0 where
  pub script : names.script ≤ MAX_SCRIPTS
  pub counters : names.counters.items ≡ map counter_name (range_with_len 0 512)
  pub histograms : names.histograms.items ≡ map histogram_name (range_with_len 0 16)
  pub gauge : names.gauge ≡ gauge_name names.script
