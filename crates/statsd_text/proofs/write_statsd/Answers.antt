use Rattle.std.proofs.Common.{◌≡◌, ℕ, List, subst, ◌∙◌, Err}
use Rattle.std.specs.List.{flat_map}
use Rattle.std.proofs.lemmas.Result.{err_from_is_err_and}
use Rattle.stats_io.specs.Push.{WritesWhole}
use Rattle.text_parts.specs.Answer.{IsTextAnswer}
use Rattle.text_parts.proofs.Following.{answer_next, answer_first}
use Rattle.statsd_text.specs.Statsd.{counter_lines, gauge_lines}
use Rattle.statsd_text.specs.Parts.{shown_counter}
use Rattle.statsd_text.proofs.Counters.{lines_of_counters}
use Rattle.statsd_text.proofs.write_statsd.Goals as goal

pub returns-in_err-write_counters-clause-answer : goal.returns-in_err-write_counters-clause-answer
returns-in_err-write_counters-clause-answer g c =
    let p = err_from_is_err_and c.from_residual.result c.from_residual.ensures.1 in
    let lines : flat_map (shown_counter c.bytes.result.now) c.items.result.now
    ≡ counter_lines c.args.prefix.now c.args.view.now.counters =
    (λ k. flat_map (shown_counter (c.bytes.ensures k)) (c.items.ensures k))
    ∙ lines_of_counters c.args.prefix.now c.args.view.now.counters in
    rw (p.1, p.2) (answer_first _ _ (counter_lines c.args.prefix.now c.args.view.now.counters)
    (gauge_lines c.args.prefix.now c.args.view.now.gauges) c.in_err-write_counters.field-0.0
    (subst (λ (l : List ℕ). IsTextAnswer {T = Unit {0}} (g.O.Sink.state c.args.out.now)
    (g.O.Sink.state c.write_counters.new.out) l
    (Err c.in_err-write_counters.field-0.0)) lines c.in_err-write_counters.ensures.answer))

pub returns-clause-answer : goal.returns-clause-answer
returns-clause-answer g c =
    let lines : flat_map (shown_counter c.bytes.result.now) c.items.result.now
    ≡ counter_lines c.args.prefix.now c.args.view.now.counters =
    (λ k. flat_map (shown_counter (c.bytes.ensures k)) (c.items.ensures k))
    ∙ lines_of_counters c.args.prefix.now c.args.view.now.counters in
    answer_next (g.O.Sink.state c.args.out.now) (g.O.Sink.state c.write_counters.new.out) _
    (counter_lines c.args.prefix.now c.args.view.now.counters) (gauge_lines c.args.prefix.now c.args.view.now.gauges) _
    (subst (λ (l : List ℕ). WritesWhole (g.O.Sink.state c.args.out.now)
    (g.O.Sink.state c.write_counters.new.out) l) lines
    c.in_ok-write_counters.ensures.answer)
    (subst (λ (l : List ℕ). IsTextAnswer (g.O.Sink.state c.write_counters.new.out)
    (g.O.Sink.state c.write_gauges.new.out) l
    c.write_gauges.result)
    (λ k. gauge_lines (c.bytes-2.ensures k) (c.items-2.ensures k)) c.write_gauges.ensures.answer)
