use Rattle.std.proofs.Common.{◌/◌, ◌++◌, List, ℕ, sym, ap, ◌∙◌, append_assoc, arith}
use Rattle.stat_name.specs.Spelling.{spelling}
use Rattle.stat_name.proofs.Spellings.{spelling_one, spelling_more}
use Rattle.report_text.proofs.symbols.put_count.Goals as goal

pub loop-left-preserved : goal.loop-left-preserved
loop-left-preserved c =
    ap (λ (l : List ℕ). l ++ spelling (c.loop-left.left / 128)) c.in_ok-push.ensures.items
    ∙ append_assoc c.loop-left.form.items _ (spelling (c.loop-left.left / 128))
    ∙ ap (λ (l : List ℕ). c.loop-left.form.items ++ l) (sym (spelling_more c.loop-left.left c.loop-left-test.true))
    ∙ c.loop-left.invariant

pub returns : goal.returns
returns c =
    c.in_ok-push-2.ensures.items
    ∙ ap (λ (l : List ℕ). c.loop-left.form.items ++ l) (sym
    (spelling_one c.loop-left.left (omega (arith, c.loop-left-test.false))))
    ∙ c.loop-left.invariant
