use Rattle.std.proofs.Common.{refl}
use Rattle.std.proofs.lemmas.Result.{err_from_is_err_and}
use Rattle.boot_load.proofs.LoadAnswers.{not_read, loaded}
use Rattle.boot_load.proofs.loading.load.Goals as goal

pub returns-in_err-config-clause-loads : goal.returns-in_err-config-clause-loads
returns-in_err-config-clause-loads g c =
    let p = err_from_is_err_and c.from_residual.result c.from_residual.ensures.1 in
    rw (p.1, p.2) (not_read g.F.S.Source.state _ _ _ _ _ _ _ c.in_err-config.ensures.read refl)

pub returns-clause-loads : goal.returns-clause-loads
returns-clause-loads g c =
    loaded g.F.S.Source.state _ _ _ _ _ _ c.in_ok-config.config c.build.result c.in_ok-config.ensures.read.0 c.in_ok-config.ensures.read.1 c.build.ensures
