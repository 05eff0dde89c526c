use Rattle.std.proofs.Common.{◌≡◌, ◌++◌, map}
use Rattle.std.specs.Vec.Iter.{into_iter_items}
use Rattle.boot_file.proofs.boot.part.Given as goal

abbrev pub invariant-loop-tag : goal.invariant-loop-tag
invariant-loop-tag l =
    (l.specs.items ++ map (λ t. t.spec) (into_iter_items l.tag-iterator) ≡ map (λ t. t.spec) l.fn.tags.items)
    × (l.paths.items ++ map (λ t. t.path) (into_iter_items l.tag-iterator) ≡ map (λ t. t.path) l.fn.tags.items)
