use Rattle.std.proofs.Common.{◌+◌, slice_range, ap, ◌∙◌}
use Rattle.stat_defs.proofs.PartLemmas.{range-in-range}
use Rattle.stat_defs.proofs.text.Part.part.Goals as goal

pub returns-clause-bytes : goal.returns-clause-bytes
returns-clause-bytes c =
    ap (λ xs. slice_range xs (c.args.self.now.from + c.args.from) (c.args.self.now.from + c.args.to)) c.in_ok-clone.ensures.cases
    ∙ range-in-range _ _ _ _ _ c.requires.places.0 c.requires.places.1
