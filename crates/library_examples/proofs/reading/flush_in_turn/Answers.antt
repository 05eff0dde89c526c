use Rattle.std.proofs.Common.{◌≡◌, ◌+◌, [], length, sym, ap, ◌∙◌, subst, rules, arith}
use Rattle.std.specs.Vec.Iter.{into_iter_items}
use Rattle.std.proofs.lemmas.List.{nil_from_length}
use Rattle.library_examples.specs.Counting.{AreFlushedInTurn}
use Rattle.library_examples.proofs.InTurn.{flushed_none, room_for_one, flushed_more, flushed_all}
use Rattle.library_examples.proofs.reading.flush_in_turn.Goals as goal

pub loop-source-init : goal.loop-source-init
loop-source-init g c = record {
  flushed = flushed_none g.S.Source.state c.args.sources.items c.args.store.now c.args.flushes.now.items _
      c.into_iter-source-iterator.ensures.into_iter_gives.0 c.requires.flushes c.requires.room;
  left = search rules;
}

pub flush_lines-requires-clause-room : goal.flush_lines-requires-clause-room
flush_lines-requires-clause-room g c =
    room_for_one g.S.Source.state c.args.sources.items c.args.store.now c.args.flushes.now.items c.loop-source.yielded
    _ (into_iter_items c.next.new.self) c.in-Some.source c.loop-source.store c.loop-source.flushes.items
    c.loop-source.invariant.flushed c.in-Some.ensures.steps.0

pub loop-source-preserved : goal.loop-source-preserved
loop-source-preserved g c =
    let lines = c.in_ok-flush_lines.ensures in
    let steps = c.in-Some.ensures.steps.0 in
    record {
      flushed = flushed_more g.S.Source.state c.args.sources.items c.args.store.now c.args.flushes.now.items
          c.loop-source.yielded _ (into_iter_items c.next.new.self) c.in-Some.source c.loop-source.store
          c.loop-source.flushes.items c.loop-source.invariant.flushed steps c.flush_lines.new.store _ _
          c.flush_lines.new.flushes.items lines.counted lines.flushes lines.kept lines.few lines.one_more;
      left = (
          let was = c.loop-source.invariant.left in
          let gone = c.in-Some.ensures.steps.1 in
          let short = ap length steps in
          omega arith);
    }

pub returns : goal.returns
returns g c =
    let at = c.loop-source in
    let so = at.invariant.flushed in
    let empty : into_iter_items at.source-iterator ≡ [] =
    nil_from_length _ (sym at.invariant.left ∙ c.in-None.ensures.steps.0) in
    let all = flushed_all g.S.Source.state c.args.sources.items c.args.store.now c.args.flushes.now.items at.yielded _
    at.store at.flushes.items so empty in
    record {
      flushes = so.told;
      counted = subst (λ l. AreFlushedInTurn g.S.Source.state l c.args.store.now at.store) all so.in_turn;
      kept = so.kept;
      more = so.more ∙ ap (λ l. length c.args.flushes.now.items + length l) all;
    }
