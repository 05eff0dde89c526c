use Rattle.std.proofs.Common.{◌≡◌, ◌∙◌, ap, None}
use Rattle.event_script.proofs.Pulling.{no_memory, at_end, at_fault, at_bytes}
use Rattle.event_script.proofs.lines.Lines.pull.Goals as goal

pub returns-in_err-count-clause-goes : goal.returns-in_err-count-clause-goes
returns-in_err-count-clause-goes g c =
    let i = c.self.inside in
    let open_still : i.stopped ≡ None = ap (λ r. r.stopped) c.self.view_is ∙ c.requires.open in
    let none : i.ended ≡ None = ap (λ r. r.ended) c.self.view_is ∙ c.requires.going in
    let piece = rw (← c.self.view_is) at c.requires.piece in
    rw (← c.self.view_is) (no_memory g.S.Source.state i.source c.pull.new.source i.held c.drop_read.new.held i.window c.drop_read.new.window i.place c.drop_read.new.place i.first_faults i.stopped i.ended
    open_still none c.self.invariant piece c.drop_read.ensures.held c.drop_read.ensures.window c.drop_read.ensures.place c.pull.ensures.later c.pull.new.self c.in_err-count.ensures.none)

pub returns-in-End-clause-goes : goal.returns-in-End-clause-goes
returns-in-End-clause-goes g c =
    let i = c.self.inside in
    let open_still : i.stopped ≡ None = ap (λ r. r.stopped) c.self.view_is ∙ c.requires.open in
    let none : i.ended ≡ None = ap (λ r. r.ended) c.self.view_is ∙ c.requires.going in
    let piece = rw (← c.self.view_is) at c.requires.piece in
    rw (← c.self.view_is) (at_end g.S.Source.state i.source c.pull.new.source i.held c.drop_read.new.held i.window c.drop_read.new.window i.place c.drop_read.new.place i.first_faults i.stopped i.ended
    open_still none c.self.invariant piece c.drop_read.ensures.held c.drop_read.ensures.window c.drop_read.ensures.place c.pull.ensures.later c.pull.new.self c.next_pull-most.result c.in_ok-count.field-0 c.in_ok-count.ensures.adds c.in-End.is)

pub returns-in-Failed-clause-goes : goal.returns-in-Failed-clause-goes
returns-in-Failed-clause-goes g c =
    let i = c.self.inside in
    let open_still : i.stopped ≡ None = ap (λ r. r.stopped) c.self.view_is ∙ c.requires.open in
    let none : i.ended ≡ None = ap (λ r. r.ended) c.self.view_is ∙ c.requires.going in
    let piece = rw (← c.self.view_is) at c.requires.piece in
    rw (← c.self.view_is) (at_fault g.S.Source.state i.source c.pull.new.source i.held c.drop_read.new.held i.window c.drop_read.new.window i.place c.drop_read.new.place i.first_faults i.stopped i.ended
    open_still none c.self.invariant piece c.drop_read.ensures.held c.drop_read.ensures.window c.drop_read.ensures.place c.pull.ensures.later c.pull.new.self c.next_pull-most.result c.in_ok-count.field-0 c.in_ok-count.ensures.adds c.in-Failed.is)

pub returns-in-Bytes-clause-goes : goal.returns-in-Bytes-clause-goes
returns-in-Bytes-clause-goes g c =
    let i = c.self.inside in
    let open_still : i.stopped ≡ None = ap (λ r. r.stopped) c.self.view_is ∙ c.requires.open in
    let none : i.ended ≡ None = ap (λ r. r.ended) c.self.view_is ∙ c.requires.going in
    let piece = rw (← c.self.view_is) at c.requires.piece in
    let took = c.took-self-inside.ensures in
    rw (← c.self.view_is) (at_bytes g.S.Source.state i.source c.pull.new.source i.held c.drop_read.new.held i.window c.drop_read.new.window i.place c.drop_read.new.place i.first_faults i.stopped i.ended
    open_still none c.self.invariant piece c.drop_read.ensures.held c.drop_read.ensures.window c.drop_read.ensures.place c.pull.ensures.later c.pull.new.self c.next_pull-most.result c.in_ok-count.field-0 c.in_ok-count.ensures.adds
    c.in-Bytes.count c.in-Bytes.is c.took-self-inside.new.held c.took-self-inside.new.window c.took-self-inside.result took.dropped took.taken took.whole took.held c.next_pull-most.ensures.few c.next_pull-most.ensures.bound)
