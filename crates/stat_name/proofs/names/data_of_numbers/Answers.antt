use Rattle.std.proofs.Common.{◌++◌, get_or, take, length, arith, ap, ◌∙◌, sym}
use Rattle.std.proofs.lemmas.List.{take_more, length-append}
use Rattle.stat_name.specs.Spelling.{spelling}
use Rattle.stat_name.specs.StoredName.{data_of}
use Rattle.stat_name.proofs.Spellings.{length-spelling-le}
use Rattle.stat_name.proofs.Storing.{data_push}
use Rattle.stat_name.proofs.names.data_of_numbers.Goals as goal

pub loop-n-preserved : goal.loop-n-preserved
loop-n-preserved c =
    let n = get_or c.args.numbers.now c.loop-n.n-index 0 in
    let fits = c.type_inv.numbers c.loop-n.n-index in
    let out = c.in_ok-put_number.ensures.ok in
    record {
      made = out ∙ (ap (λ s. s ++ spelling n) c.loop-n.invariant.made ∙ (data_push (take c.loop-n.n-index c.args.numbers.now) n ∙ ap data_of (sym (take_more c.args.numbers.now c.loop-n.n-index 0 c.loop-n-test.true))));
      short = omega (arith, ap length out, length-append c.loop-n.data.items (spelling n), length-spelling-le n (omega arith), c.loop-n.invariant.short);
    }
