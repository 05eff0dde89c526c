use Rattle.std.proofs.Common.{ℕ, List, ◌∙◌, ap, map, subst}
use Rattle.text_parts.specs.Answer.{IsTextAnswer}
use Rattle.prom_text.specs.declared.rows.Row.{Row}
use Rattle.prom_text.specs.Rows.{member_of}
use Rattle.prom_text.proofs.Steps.{rows_have, text_of_rows}
use Rattle.prom_text.proofs.write_prom.Goals as goal

pub write_rows-requires : goal.write_rows-requires
write_rows-requires g c =
    rows_have c.args.view.now c.deref.result.now c.requires
    (ap (λ (l : List Row). map member_of l) c.deref.ensures.value ∙ c.in_ok-rows.ensures)

pub returns-clause-answer : goal.returns-clause-answer
returns-clause-answer g c =
    subst
    (λ (l : List ℕ). IsTextAnswer (g.O.Sink.state c.args.out.now) (g.O.Sink.state c.write_rows.new.out) l c.write_rows.result)
    (text_of_rows c.args.view.now c.deref.result.now
    (ap (λ (l : List Row). map member_of l) c.deref.ensures.value ∙ c.in_ok-rows.ensures))
    c.write_rows.ensures.answer
