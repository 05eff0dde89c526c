use Rattle.tag_rules.specs.Admission.{patterns_of}
use Rattle.tag_rules.specs.Building.{pattern_texts}
use Rattle.boot_load.specs.Asked.{matcher_paths}
use Rattle.boot_load.proofs.Paths.{as_many_patterns}
use Rattle.boot_load.proofs.AskedTexts.{has_path, told_build, whole_build}
use Rattle.boot_load.proofs.building.matcher_of.Goals as goal

pub told-requires : goal.told-requires
told-requires g c = rw (c.in_ok-paths.ensures)
    (has_path pattern_texts (matcher_paths c.args.spec.now) (patterns_of c.args.spec.now) c.args.spec.now (g.K.PatternMaker.memory c.args.maker.now) (g.K.PatternMaker.memory c.build.new.maker)
    c.in-Err.fault (as_many_patterns c.args.spec.now) c.in-Err.ensures)

pub returns-in-Ok : goal.returns-in-Ok
returns-in-Ok g c =
    whole_build pattern_texts (matcher_paths c.args.spec.now) (patterns_of c.args.spec.now) c.args.spec.now c.in-Ok.matcher (g.K.PatternMaker.memory c.args.maker.now) (g.K.PatternMaker.memory c.build.new.maker)
    (as_many_patterns c.args.spec.now) c.in-Ok.ensures

pub returns-in-Err : goal.returns-in-Err
returns-in-Err g c =
    told_build pattern_texts (matcher_paths c.args.spec.now) (patterns_of c.args.spec.now) c.args.spec.now (g.K.PatternMaker.memory c.args.maker.now) (g.K.PatternMaker.memory c.build.new.maker)
    c.in-Err.fault c.told.result (as_many_patterns c.args.spec.now) c.in-Err.ensures (rw (c.in_ok-paths.ensures) at c.told.ensures)
