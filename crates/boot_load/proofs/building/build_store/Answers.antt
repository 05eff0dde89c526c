use Rattle.std.proofs.lemmas.Result.{err_from_is_err_and}
use Rattle.boot_load.specs.Asked.{of_tags, of_matcher}
use Rattle.boot_load.proofs.AskedTexts.{later_failed}
use Rattle.boot_load.proofs.building.build_store.Goals as goal

pub returns-in_err-matcher : goal.returns-in_err-matcher
returns-in_err-matcher g c =
    let config = c.args.config.now in
    let p = err_from_is_err_and c.from_residual-in_err-matcher.result c.from_residual-in_err-matcher.ensures.1 in
    rw (p.1, p.2)
    (later_failed (of_tags config.tag_paths config.tags) (of_matcher config.matcher) (g.K.PatternMaker.memory c.args.maker.now) (g.K.PatternMaker.memory c.rules_of.new.maker)
    (g.K.PatternMaker.memory c.matcher_of.new.maker) c.in_err-matcher.field-0.0
    (rw (c.items.ensures, c.items-2.ensures) at (c.in_ok-rules.ensures.1)) c.in_err-matcher.ensures)
