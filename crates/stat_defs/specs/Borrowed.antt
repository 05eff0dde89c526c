-- The event that borrowed parts stand for. This project's own.
use Rattle.stat_defs.specs.declared.borrowed.EventRef.{EventRef}
use Rattle.stat_defs.specs.declared.borrowed.EventRef.TheVariants as borrowed
use Rattle.stat_defs.specs.declared.events.Event.{Event}
use Rattle.stat_defs.specs.declared.events.Event.TheVariants as event

abbrev pub event_of : EventRef → Event
event_of (borrowed.Inc label name n) = event.Inc label.now name.now n
event_of (borrowed.Gauge label name mode op n) = event.Gauge label.now name.now mode op n
event_of (borrowed.Rec label name v) = event.Rec label.now name.now v
event_of (borrowed.SetText label name text) = event.SetText label.now name.now text.now
event_of (borrowed.OpenScope label prefix) = event.OpenScope label.now prefix.now
event_of (borrowed.Release label) = event.Release label.now
