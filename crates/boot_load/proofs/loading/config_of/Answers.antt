use Rattle.std.proofs.Common.{rules}
use Rattle.std.proofs.lemmas.Result.{err_from_is_err_and}
use Rattle.boot_load.proofs.LoadAnswers.{unread}
use Rattle.boot_load.proofs.loading.config_of.Goals as goal

pub returns-in_err-bytes-clause-read : goal.returns-in_err-bytes-clause-read
returns-in_err-bytes-clause-read g c =
    let p = err_from_is_err_and c.from_residual-in_err-bytes.result c.from_residual-in_err-bytes.ensures.1 in
    rw (p.1, p.2) (c.in_err-bytes.ensures.read)

pub returns-in-Ok-clause-read : goal.returns-in-Ok-clause-read
returns-in-Ok-clause-read g c =
    let read = c.in_ok-bytes.ensures.read in
    (record { bytes = c.deref.result.now; is_boot = search (rules, read.0); says = c.in-Ok.ensures.gives }, read.1)

pub returns-clause-read : goal.returns-clause-read
returns-clause-read g c =
    let read = c.in_ok-bytes.ensures.read in
    unread g.F.S.Source.state _ _ _ _ c.deref.result.now c.in-Err.fault c.unread.result c.in-Err.ensures.gives c.unread.ensures
    (search (rules, read.0)) read.1
