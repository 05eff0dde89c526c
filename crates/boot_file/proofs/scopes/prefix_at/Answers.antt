use Rattle.std.proofs.Common.{◌∙◌}
use Rattle.boot_file.proofs.Labels.{dotless_prefix}
use Rattle.boot_file.proofs.scopes.prefix_at.Goals as goal

pub returns-clause-lawful : goal.returns-clause-lawful
returns-clause-lawful c = dotless_prefix c.as_bytes-text.result.now c.in_ok-of-2.field-0
    (c.in_ok-of-2.ensures ∙ c.without_dot.ensures) (c.is_scope_prefix.ensures.lawful c.if-not-is_scope_prefix.false)
