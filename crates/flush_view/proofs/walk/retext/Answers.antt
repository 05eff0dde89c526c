use Rattle.std.proofs.Common.{option_map, sym, arith}
use Rattle.book_state.proofs.Lists.{set_read}
use Rattle.flush_view.proofs.Lefts.{change_past}
use Rattle.flush_view.proofs.walk.retext.Goals as goal

pub returns-then-id-len : goal.returns-then-id-len
returns-then-id-len c =
    let past = c.if-id-len.true in let long = c.len.ensures in
    sym (change_past (option_map (λ old. c.args.text.now)) c.args.id c.args.lefts.now.items (omega (arith, past, long)))

pub returns : goal.returns
returns c =
    let within = c.if-id-len.false in let long = c.len.ensures in
    set_read (option_map (λ old. c.args.text.now)) c.args.lefts.now.items c.args.id c.index.result.now
    c.in_ok-left.left (omega (arith, within, long)) c.index.ensures c.in_ok-left.ensures
