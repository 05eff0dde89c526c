use Rattle.std.proofs.Common.{codes, length}
use Rattle.tag_rules.specs.Building.{setting_texts}
use Rattle.boot_load.specs.Asked.{setting_paths}
use Rattle.boot_load.proofs.Paths.{as_many_paths}
use Rattle.boot_load.proofs.AskedTexts.{has_path, told_build, whole_build}
use Rattle.boot_load.proofs.building.buckets_of.Goals as goal

pub told-requires : goal.told-requires
told-requires g c = rw (c.in_ok-paths.ensures)
    (has_path setting_texts (setting_paths c.args.specs.now) c.args.specs.now c.args.specs.now (g.K.PatternMaker.memory c.args.maker.now) (g.K.PatternMaker.memory c.build.new.maker)
    c.in-Err.fault (as_many_paths (codes "stats_config.histogram_bucket_settings") (length c.args.specs.now) (codes ".match.safe_regex.regex")) c.in-Err.ensures)

pub returns-in-Ok : goal.returns-in-Ok
returns-in-Ok g c =
    whole_build setting_texts (setting_paths c.args.specs.now) c.args.specs.now c.args.specs.now c.in-Ok.buckets (g.K.PatternMaker.memory c.args.maker.now) (g.K.PatternMaker.memory c.build.new.maker)
    (as_many_paths (codes "stats_config.histogram_bucket_settings") (length c.args.specs.now) (codes ".match.safe_regex.regex")) c.in-Ok.ensures

pub returns-in-Err : goal.returns-in-Err
returns-in-Err g c =
    told_build setting_texts (setting_paths c.args.specs.now) c.args.specs.now c.args.specs.now (g.K.PatternMaker.memory c.args.maker.now) (g.K.PatternMaker.memory c.build.new.maker)
    c.in-Err.fault c.told.result (as_many_paths (codes "stats_config.histogram_bucket_settings") (length c.args.specs.now) (codes ".match.safe_regex.regex")) c.in-Err.ensures (rw (c.in_ok-paths.ensures) at c.told.ensures)
