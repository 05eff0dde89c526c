use Rattle.std.proofs.Common.{◌∙◌, arith, sym}
use Rattle.std.proofs.lemmas.List.{length-take-le}
use Rattle.thread_cache.proofs.TextLemmas.{ends_decide}
use Rattle.thread_cache.proofs.texts.sixteens_equal.Goals as goal

pub eights_equal-requires-clause-alike : goal.eights_equal-requires-clause-alike
eights_equal-requires-clause-alike c =
    length-take-le 16 c.args.a.now c.requires.within ∙ sym (length-take-le 16 c.args.b.now (omega (arith, c.requires)))

pub returns-then-eights_equal : goal.returns-then-eights_equal
returns-then-eights_equal c =
    ends_decide 16 c.args.a.now c.args.b.now c.requires.alike c.requires.within c.requires.covered
    c.eights_equal-then-eights_equal.result (sym c.eights_equal.ensures ∙ c.if-eights_equal.true)
    c.eights_equal-then-eights_equal.ensures
