use Rattle.std.proofs.Common.{◌≡◌, ◌-◌, ◌∙◌, ap, arith, drop, length, take}
use Rattle.std.specs.Int.{from_le_bytes, w64}
use Rattle.std.proofs.lemmas.List.{length-drop, length-take-le, take_all}
use Rattle.std.proofs.lemmas.Nat.{le_bytes_8}
use Rattle.thread_cache.proofs.TextLemmas.{part_fits}
use Rattle.thread_cache.proofs.texts.eight_at.Goals as goal

pub returns-clause-bytes : goal.returns-clause-bytes
returns-clause-bytes c =
    let rest = drop c.args.at c.args.text.now in
    let long = length-take-le 8 rest (omega (arith, length-drop c.args.at c.args.text.now, c.requires)) in
    let whole = take_all (length c.args.text.now - c.args.at) rest (omega (arith, length-drop c.args.at c.args.text.now)) in
    let same : c.in-Some.bytes.now ≡ take 8 rest = c.in-Some.ensures.cases.same ∙ ap (take 8) whole in
    le_bytes_8 (take 8 rest) c.from_le_bytes.result long
    (part_fits c.args.text.now c.args.at 8 c.requires c.type_inv.text)
    (c.from_le_bytes.ensures ∙ ap (from_le_bytes w64) same)
