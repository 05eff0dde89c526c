use Rattle.std.proofs.Common.{rules, arith, ◌++◌}
use Rattle.std.specs.Fmt.{decimal}
use Rattle.std.proofs.lemmas.List.FromFn.{map-range_with_len_more}
use Rattle.load_scripts.proofs.names.all_lettered.Goals as goal

pub loop-i-preserved : goal.loop-i-preserved
loop-i-preserved c = rw (map-range_with_len_more (λ i. c.args.letter.now ++ decimal i) 0 c.loop-i.i c.loop-i.i (omega arith)) (search rules)
