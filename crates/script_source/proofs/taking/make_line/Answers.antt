use Rattle.std.proofs.Common.{◌-◌, ◌++◌, ◌∷◌, [], ℕ, ap, ◌∙◌}
use Rattle.event_script.specs.Grammar.{line_for}
use Rattle.load_scripts.specs.Load.{event_at, events_behind}
use Rattle.event_script.specs.Grammar.{lines_for}
use Rattle.stat_defs.specs.declared.events.Event.{Event}
use Rattle.script_source.proofs.Lefts.{next_line}
use Rattle.script_source.proofs.taking.make_line.Goals as goal

pub returns-clause-same : goal.returns-clause-same
returns-clause-same c =
    let m = c.args.making.now in
    let x = c.next_state-x.ensures in
    let event = c.drawn_at.ensures ∙ ap (λ (y : ℕ). event_at m.script y) x in
    let line = c.line_of-making.ensures ∙ ap (λ (e : Event). line_for e ++ 10 ∷ []) event in
    ap (λ (y : ℕ). c.line_of-making.result.bytes ++ lines_for (events_behind m.script y (m.events - 1))) x
    ∙ next_line m.script m.x m.events c.line_of-making.result.bytes m.line.bytes m.at c.requires.more c.requires.taken line
