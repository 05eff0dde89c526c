use Rattle.std.proofs.lemmas.Result.{err_from_is_err_and}
use Rattle.boot_load.specs.Asked.{of_store, of_views}
use Rattle.boot_load.proofs.AskedTexts.{later_failed}
use Rattle.boot_load.proofs.building.build.Goals as goal

pub returns-in_err-buckets : goal.returns-in_err-buckets
returns-in_err-buckets g c =
    let config = c.args.config in
    let p = err_from_is_err_and c.from_residual-in_err-buckets.result c.from_residual-in_err-buckets.ensures.1 in
    rw (p.1, p.2)
    (later_failed (of_store config) (of_views config) (g.K.PatternMaker.memory c.args.maker.now)
    (g.K.PatternMaker.memory c.build_store.new.maker) (g.K.PatternMaker.memory c.build_views.new.maker) c.in_err-buckets.field-0.0
    c.in_ok-rules.ensures.1 c.in_err-buckets.ensures)
