use Rattle.std.proofs.Common.{◌≡◌, ℕ, ◌+◌, ◌++◌, List, take, get_or, ap, sym, ◌∙◌, arith}
use Rattle.stat_defs.specs.declared.ids.MetricId.{MetricId}
use Rattle.symbol_table.specs.Table.{Table, times, uncounted_all}
use Rattle.stat_book.specs.Sweeps.{numbers_at, numbers_of_all}
use Rattle.stat_book.proofs.Uses.{times_append}
use Rattle.stat_book.proofs.Freeing.{uncounted_append, metric_numbers, taken_next, taken_few}
use Rattle.stat_book.proofs.sweeps.free_names.Goals as goal

pub loop-id-preserved : goal.loop-id-preserved
loop-id-preserved c =
    let rows = c.args.state.now.state.metrics in let ids = c.args.gone.now in let i = c.loop-id.id-index in
    let d : MetricId = record { 0 = 0 } in
    let id = get_or ids i d in
    let numbers : c.items.result.now ≡ numbers_at rows id = c.items.ensures ∙ metric_numbers rows id c.metric.result.now c.metric.ensures in
    let next : numbers_of_all rows (take (i + 1) ids) ≡ numbers_of_all rows (take i ids) ++ c.items.result.now =
    taken_next rows ids i d c.loop-id-test.true ∙ ap (λ (l : List ℕ). numbers_of_all rows (take i ids) ++ l) (sym numbers) in
    let before = numbers_of_all rows (take i ids) in
    record {
      freed = c.drop_numbers.ensures.dropped ∙ (ap (λ (m : Table). uncounted_all m c.items.result.now) c.loop-id.invariant.freed
          ∙ (sym (uncounted_append c.args.symbols.now before c.items.result.now) ∙ ap (uncounted_all c.args.symbols.now) (sym next)));
      uses = λ n.
          let sum = ap (times n) next ∙ times_append n before c.items.result.now in
          omega (arith, c.drop_numbers.ensures.uses n, c.loop-id.invariant.uses n, sum);
      less = omega (arith, c.drop_numbers.ensures.total, c.loop-id.invariant.less);
    }

pub drop_numbers-requires : goal.drop_numbers-requires
drop_numbers-requires c = λ n.
    let rows = c.args.state.now.state.metrics in let ids = c.args.gone.now in let i = c.loop-id.id-index in
    let d : MetricId = record { 0 = 0 } in
    let id = get_or ids i d in
    let numbers : c.items.result.now ≡ numbers_at rows id = c.items.ensures ∙ metric_numbers rows id c.metric.result.now c.metric.ensures in
    let next : numbers_of_all rows (take (i + 1) ids) ≡ numbers_of_all rows (take i ids) ++ c.items.result.now =
    taken_next rows ids i d c.loop-id-test.true ∙ ap (λ (l : List ℕ). numbers_of_all rows (take i ids) ++ l) (sym numbers) in
    let sum = ap (times n) next ∙ times_append n (numbers_of_all rows (take i ids)) c.items.result.now in
    omega (arith, c.requires.used n, taken_few rows ids (i + 1) n, c.loop-id.invariant.uses n, sum)
