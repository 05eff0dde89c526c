use Rattle.std.proofs.Common.{◌≡◌, ℕ, ◌<◌, ◌+◌, length, take, get_or, true, false, Option, List, [], ◌∷◌, ◌++◌, Vec, Global, ap, sym, ◌∙◌}
use Rattle.std.specs.Option.{option_map_or}
use Rattle.stat_defs.specs.declared.ids.MetricId.{MetricId}
use Rattle.std.proofs.lemmas.List.{take_more}
use Rattle.std.proofs.lemmas.List.Elements.{All-get_or}
use Rattle.book_state.specs.declared.metrics.MetricRow.{MetricRow}
use Rattle.book_state.specs.Metrics.{is_overdue, overdue_at, overdue_among}
use Rattle.book_state.proofs.Lists.{get_read}
use Rattle.book_state.proofs.Changing.{overdue_push}
use Rattle.book_state.proofs.metrics.overdue_in.Goals as goal
use Rattle.book_state.proofs.metrics.overdue_in.Goals.{Joined-is_overdue, then-is_overdue+in_ok-push, else-is_overdue}

is_it : (c : Joined-is_overdue) → overdue_at c.args.least c.args.rows.now (get_or c.args.ids.now c.loop-id.id-index 0) ≡ c.is_overdue.result
is_it c =
    let rows = c.args.rows.now in
    let id = get_or c.args.ids.now c.loop-id.id-index 0 in
    let within : id < length rows = All-get_or (λ (id : ℕ). id < length rows) c.args.ids.now c.loop-id.id-index 0 c.loop-id-test.true c.requires in
    ap (λ (o : Option MetricRow). option_map_or (λ row. is_overdue c.args.least row.metric.life) o false) (get_read rows id c.index-rows-id.result within c.index-rows-id.is)
    ∙ (ap (λ (row : MetricRow). is_overdue c.args.least row.metric.life) c.index-rows-id.is ∙ sym c.is_overdue.ensures)

ended : (c : Joined-is_overdue) (all : List MetricId) → all ≡ overdue_among c.args.least c.args.rows.now (take c.loop-id.id-index c.args.ids.now ++ get_or c.args.ids.now c.loop-id.id-index 0 ∷ [])
    → all ≡ overdue_among c.args.least c.args.rows.now (take (c.loop-id.id-index + 1) c.args.ids.now)
ended c all e = e ∙ ap (overdue_among c.args.least c.args.rows.now) (sym (take_more c.args.ids.now c.loop-id.id-index 0 c.loop-id-test.true))

pub loop-id-preserved : goal.loop-id-preserved
loop-id-preserved c =
    let ids = c.args.ids.now in
    let id = get_or ids c.loop-id.id-index 0 in
    ended c c.if-is_overdue.all.items (elim c.if-is_overdue.branch [
      | then-is_overdue+in_ok-push w ↦
          overdue_push c.args.least c.args.rows.now (take c.loop-id.id-index ids) id c.loop-id.all.items c.if-is_overdue.all.items true (is_it c ∙ w.if-is_overdue.true) c.loop-id.invariant
          (ap (λ (all : Vec MetricId Global). all.items) w.all-is ∙ w.in_ok-push.ensures.items)
      | else-is_overdue w ↦
          overdue_push c.args.least c.args.rows.now (take c.loop-id.id-index ids) id c.loop-id.all.items c.if-is_overdue.all.items false (is_it c ∙ w.if-is_overdue.false) c.loop-id.invariant
          (ap (λ (all : Vec MetricId Global). all.items) w.all-is)
    ])
