-- What contracts see of an event whose names are numbers.
use Rattle.std.specs.Prelude.{codes}
use Rattle.stat_defs.specs.declared.events.Event.{Event}
use Rattle.stat_defs.specs.declared.events.Event.TheVariants as event
use Rattle.stat_defs.specs.declared.events.GaugeOp.TheVariants as op
use Rattle.stat_defs.specs.declared.ids.Mode.TheVariants.{Accumulate}
use Rattle.load_scripts.specs.Load.{counter_name, gauge_name, histogram_name}
use Rattle.script_source.specs.declared.drawing.Drawn.{Drawn}
use Rattle.script_source.specs.declared.drawing.Drawn.TheVariants.{Inc, Rec, Add}

abbrev pub event_as : Drawn → Event
event_as (Inc counter n) = event.Inc (codes "root") (counter_name counter) n
event_as (Rec histogram v) = event.Rec (codes "root") (histogram_name histogram) v
event_as (Add script n) = event.Gauge (codes "root") (gauge_name script) Accumulate op.Add n
