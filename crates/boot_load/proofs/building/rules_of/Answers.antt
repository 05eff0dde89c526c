use Rattle.tag_rules.specs.Building.{rule_texts}
use Rattle.boot_load.proofs.AskedTexts.{has_path, told_build, whole_build}
use Rattle.boot_load.proofs.building.rules_of.Goals as goal

pub told-requires : goal.told-requires
told-requires g c = rw (c.in_ok-paths.ensures)
    (has_path rule_texts c.args.paths.now c.args.specs.now c.args.specs.now (g.K.PatternMaker.memory c.args.maker.now) (g.K.PatternMaker.memory c.build.new.maker)
    c.in-Err.fault c.requires.paths c.in-Err.ensures)

pub returns-in-Ok : goal.returns-in-Ok
returns-in-Ok g c =
    whole_build rule_texts c.args.paths.now c.args.specs.now c.args.specs.now c.in-Ok.rules (g.K.PatternMaker.memory c.args.maker.now) (g.K.PatternMaker.memory c.build.new.maker)
    c.requires.paths c.in-Ok.ensures

pub returns-in-Err : goal.returns-in-Err
returns-in-Err g c =
    told_build rule_texts c.args.paths.now c.args.specs.now c.args.specs.now (g.K.PatternMaker.memory c.args.maker.now) (g.K.PatternMaker.memory c.build.new.maker)
    c.in-Err.fault c.told.result c.requires.paths c.in-Err.ensures (rw (c.in_ok-paths.ensures) at c.told.ensures)
