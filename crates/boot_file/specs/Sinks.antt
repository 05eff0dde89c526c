-- The prefix of StatsD lines (Envoy's reference on `StatsdSink`; the bytes allowed in it are this project's own): read
-- of the first member of `stats_sinks` whose name is that of the StatsD sink, a text of 1 to 255 printable bytes
-- without spaces; absent or empty is `envoy`. Other members of the list, whatever they are, are passed over.
use Rattle.std.specs.Prelude.{ℕ, ◌+◌, ◌==◌, Bool, false, List, [], ◌∷◌, codes, Option, Some, None, Result, Ok, Err}
use Rattle.std.specs.Prelude.{if◌then◌else◌}
use lib.Pointwise.{pointwise}
use Rattle.serde_json.specs.Data.{Items, no_items, item, Data, string, array}
use Rattle.boot_values.specs.declared.fault.BootFault.{BootFault}
use Rattle.boot_values.specs.declared.fault.BootFault.TheVariants.{BadKey}
use Rattle.boot_values.specs.declared.place.Place.TheVariants.{Sink}
use Rattle.boot_values.specs.Agrees.{and_then}
use Rattle.boot_values.specs.Paths.{path_of}
use Rattle.boot_file.specs.Tags.{is_local_name}
use Rattle.boot_values.specs.Values.{member, section_at}

abbrev pub is_statsd : Option Data → Bool
is_statsd (Some (string name)) = pointwise ◌==◌ name (codes "envoy.stat_sinks.statsd")
is_statsd _ = false

-- an object; absent is empty
abbrev pub typed_config_at : ℕ → Option Data → Result (Option Data) BootFault
typed_config_at i = section_at (path_of (Sink i) (codes ".typed_config"))

abbrev pub prefix_text_at : ℕ → List ℕ → Result (List ℕ) BootFault
prefix_text_at i [] = Ok (codes "envoy")
prefix_text_at i (b ∷ bs) = if is_local_name (b ∷ bs)
    then Ok (b ∷ bs) else Err (BadKey (path_of (Sink i) (codes ".typed_config.prefix")))

abbrev pub prefix_at : ℕ → Option Data → Result (List ℕ) BootFault
prefix_at i None = Ok (codes "envoy")
prefix_at i (Some (string text)) = prefix_text_at i text
prefix_at i (Some _) = Err (BadKey (path_of (Sink i) (codes ".typed_config.prefix")))

unfoldable pub sink_at : ℕ → Data → Result (List ℕ) BootFault
sink_at i d = and_then (typed_config_at i (member (Some d) (codes "typed_config"))) (λ config.
    prefix_at i (member config (codes "prefix")))

-- of the members from place i on
abbrev pub prefix_from : ℕ → Items → Result (List ℕ) BootFault
prefix_from i no_items = Ok (codes "envoy")
prefix_from i (item d ds) = if is_statsd (member (Some d) (codes "name")) then sink_at i d else prefix_from (i + 1) ds

unfoldable pub prefix_of : Option Data → Result (List ℕ) BootFault
prefix_of None = Ok (codes "envoy")
prefix_of (Some (array ds)) = prefix_from 0 ds
prefix_of (Some _) = Err (BadKey (codes "stats_sinks"))
