use Rattle.std.proofs.Common.{List, ◌∙◌, ap, map, subst}
use Rattle.std.specs.List.{flat_map}
use Rattle.text_parts.specs.Answer.{IsTextAnswer}
use Rattle.admin_read.specs.declared.rows.StatRow.{StatRow}
use Rattle.admin_read.specs.Admin.{Stat, stat_line}
use Rattle.admin_read.specs.Rows.{stat_of}
use Rattle.admin_read.proofs.Steps.{rows_can}
use Rattle.admin_read.proofs.write_admin.Goals as goal

pub write_rows-requires : goal.write_rows-requires
write_rows-requires g c =
    rows_can c.args.view.now c.deref.result.now c.requires
    (ap (λ (l : List StatRow). map stat_of l) c.deref.ensures.value ∙ c.in_ok-rows.ensures)

pub returns-clause-answer : goal.returns-clause-answer
returns-clause-answer g c =
    subst
    (λ (l : List Stat). IsTextAnswer (g.O.Sink.state c.args.out.now) (g.O.Sink.state c.write_rows.new.out) (flat_map stat_line l)
    c.write_rows.result)
    (ap (λ (l : List StatRow). map stat_of l) c.deref.ensures.value ∙ c.in_ok-rows.ensures)
    c.write_rows.ensures.answer
