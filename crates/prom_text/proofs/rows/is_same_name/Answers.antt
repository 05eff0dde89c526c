use Rattle.std.proofs.Common.{◌∙◌, sym, ap}
use Rattle.std.specs.Ordering.{is_eq}
use Rattle.std.specs.Cmp.Lexicographic.{texts_ties}
use Rattle.prom_text.specs.Members.{member_name}
use Rattle.prom_text.specs.Rows.{member_of}
use Rattle.prom_text.proofs.rows.is_same_name.Goals as goal

pub returns : goal.returns
returns c =
    c.is_eq.ensures ∙ ap is_eq c.compare_names.ensures
    ∙ sym (texts_ties (member_name (member_of c.args.a.now)) (member_name (member_of c.args.b.now)))
