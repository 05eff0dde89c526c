use Rattle.std.proofs.Common.{◌≡◌, ◌++◌, map, take, codes}
use Rattle.std.specs.List.{flat_map}
use Rattle.prom_text.specs.Labels.{label}
use Rattle.prom_text.proofs.lines.put_labels_before.Given as goal

abbrev pub invariant-loop-tag : goal.invariant-loop-tag
invariant-loop-tag l = l.text.items ≡ l.fn.text.items ++ flat_map (λ text. text ++ codes ",") (map label (take l.tag-index l.tags))
