-- What an event with its verdict makes of an active half (this project's own).
use Rattle.std.specs.Prelude.{IsTrue}
use Rattle.stat_defs.specs.declared.events.Event.{Event}
use Rattle.stat_defs.specs.declared.events.Event.TheVariants.{Rec}
use Rattle.stat_defs.specs.declared.history.Verdict.{Verdict}
use Rattle.stat_defs.specs.declared.history.Verdict.TheVariants.{Accepted}
use Rattle.merge_round.specs.Halves.{HalfState, is_warm_in, recorded}

-- an accepted recording goes into it, and nothing else does
abbrev pub active_after : Event × Verdict → HalfState → HalfState
active_after (Rec label name v, Accepted id) half = recorded id.0 v half
active_after other half = half

-- it takes no memory: only a recording in a histogram that is not warm does
abbrev pub IsSure : Event → Verdict → HalfState → Type 0
IsSure (Rec label name v) (Accepted id) half = IsTrue (is_warm_in half id.0)
IsSure _ _ half = Unit {0}
