use Rattle.std.proofs.Common.{refl, sym, ◌∙◌, true≢false}
use Rattle.boot_values.proofs.Facts.{json_of-read, json_of-none}
use Rattle.boot_values.proofs.json.json_of.Goals as goal

pub returns-in-Ok : goal.returns-in-Ok
returns-in-Ok c = json_of-read _ _ c.in-Ok.ensures.ok.0 c.in-Ok.ensures.ok.1

pub returns-else-is_memory : goal.returns-else-is_memory
returns-else-is_memory c _ = (
  json_of-none _ (c.in-Err.ensures.err (λ m. true≢false (sym (c.is_memory.ensures.1 m) ∙ c.if-is_memory.false))),
  refl,
)
