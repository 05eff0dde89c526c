use Rattle.std.proofs.Common.{refl}
use Rattle.load_scripts.proofs.laws.first_events.Goals as goal

pub returns-clause-first : goal.returns-clause-first
returns-clause-first c = refl

pub returns-clause-second : goal.returns-clause-second
returns-clause-second c = refl

pub returns-clause-third : goal.returns-clause-third
returns-clause-third c = refl
