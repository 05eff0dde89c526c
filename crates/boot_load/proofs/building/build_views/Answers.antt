use Rattle.std.proofs.Common.{rules}
use Rattle.std.proofs.lemmas.Result.{err_from_is_err_and}
use Rattle.boot_load.specs.Asked.{of_tags, of_buckets}
use Rattle.boot_load.proofs.AskedTexts.{later_failed}
use Rattle.boot_load.proofs.building.build_views.Goals as goal

pub returns-in_err-rules : goal.returns-in_err-rules
returns-in_err-rules g c =
    let config = c.args.config.now in
    let p = err_from_is_err_and c.from_residual-in_err-rules.result c.from_residual-in_err-rules.ensures.1 in
    rw (p.1, p.2)
    (later_failed (of_buckets config.buckets) (of_tags config.tag_paths config.tags)
    (g.K.PatternMaker.memory c.args.maker.now) (g.K.PatternMaker.memory c.buckets_of.new.maker) (g.K.PatternMaker.memory c.rules_of.new.maker)
    c.in_err-rules.field-0.0
    (rw (c.items.ensures) at (c.in_ok-buckets.ensures.1)) (search (rules, c.in_err-rules.ensures)))
