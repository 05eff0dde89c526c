use Rattle.std.proofs.Common.{rules, ap, sym}
use Rattle.std.proofs.lemmas.List.{take_rest, places}
use Rattle.stats_io.proofs.Pieces.{front_and_rest}
use Rattle.stats_io.proofs.mem_source.MemSourceSource.pull.Goals as goal

pub returns-clause-bytes : goal.returns-clause-bytes
returns-clause-bytes c =
    rw (← ap (λ f. f.left) c.self.view_is) (sym (front_and_rest c.self.inside.bytes.items c.args.into.now c.copy_from_slice.new.self c.self.inside.at c.min-count.result (search (rules, places)) (simp (take_rest, c.deref-2.ensures.value) at c.copy_from_slice.ensures.after)))
