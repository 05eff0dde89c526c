-- A flush behind its sweep.
use Rattle.std.proofs.Common.{◌≡◌, ℕ, ◌+◌, cond, Bool, true, false, Some, List, [], ◌∷◌, ◌++◌, map, length, take, refl, ap, sym, ◌∙◌, subst}
use Rattle.std.specs.Prelude.{option_map}
use Rattle.std.proofs.lemmas.List.{take_at}
use Rattle.stat_defs.specs.declared.history.Call.{Call}
use Rattle.stat_defs.specs.declared.history.Call.TheVariants as call
use Rattle.stat_defs.specs.declared.history.Reply.{Reply}
use Rattle.stat_defs.specs.declared.history.Reply.TheVariants as reply
use Rattle.stat_defs.specs.declared.history.Entry.{Entry}
use Rattle.stat_defs.specs.declared.ids.Kind.{Kind}
use Rattle.stat_defs.specs.declared.ids.Kind.TheVariants.{Gauge}
use Rattle.stat_defs.specs.declared.ids.MetricId.{MetricId}
use Rattle.stat_defs.specs.declared.metrics.Life.TheVariants.{Gone}
use Rattle.stat_defs.specs.declared.reports.FlushRecord.{FlushRecord}
use Rattle.stat_defs.specs.Keys.{same_kind}
use Rattle.merge_round.specs.Rounds.{ArePartsOf}
use Rattle.book_state.specs.State.{NameRules, Row, Seat, State, ids_from}
use Rattle.book_state.specs.Step.{effect, swept, overdue}
use Rattle.book_state.specs.Log.{replay}
use Rattle.book_state.proofs.Growing.{replayed}
use Rattle.book_state.proofs.Lists.{get_push_last}
use Rattle.ledger.specs.Segments.{bins_by_worker}
use Rattle.ledger.specs.Flushes.{ids_made, ids_not_gone, counters_shown, id_of_delta, id_of_reading, Fits}

pub fits_at : (rules : NameRules) (log : List Entry) (sweep : Entry) (last : Bool) (segs : List (List (ℕ × ℕ))) (flush : FlushRecord)
    → sweep.call ≡ call.Sweep → flush.at ≡ length log
    → map id_of_delta flush.deltas ≡ counters_shown last (replay rules (length segs) log) (replay rules (length segs) (log ++ sweep ∷ []))
    → map id_of_reading flush.gauges ≡ ids_not_gone Gauge (replay rules (length segs) log)
    → ArePartsOf (bins_by_worker segs) flush.parts
    → Fits rules (log ++ sweep ∷ []) last segs flush
fits_at rules log sweep last segs flush is at deltas gauges parts =
    let before : take flush.at (log ++ sweep ∷ []) ≡ log = take_at log (sweep ∷ []) flush.at (sym at) in record {
      sweep = ap (λ o. option_map (λ (e : Entry). e.call) o) (get_push_last log sweep flush.at at) ∙ ap (λ (c : Call). Some c) is;
      deltas = subst (λ (l : List Entry). map id_of_delta flush.deltas ≡ counters_shown last (replay rules (length segs) l) (replay rules (length segs) (log ++ sweep ∷ []))) (sym before) deltas;
      gauges = subst (λ (l : List Entry). map id_of_reading flush.gauges ≡ ids_not_gone Gauge (replay rules (length segs) l)) (sym before) gauges;
      parts = parts;
    }

module _ (kind : Kind) where
  abbrev made_from : ℕ → List Row → List MetricId
  made_from n rows = ids_from (λ metric. same_kind metric.kind kind) n (map (λ row. row.metric) rows)

  kind_stays : (seats : List Seat) (row : Row) → (swept seats row).metric.kind ≡ row.metric.kind
  kind_stays seats row = by_case (overdue seats row.metric.life) where
    by_case : (t : Bool) → (cond t (record row { metric = record row.metric { life = Gone } }) row).metric.kind ≡ row.metric.kind
    by_case true = refl
    by_case false = refl

  kinds_stay : (seats : List Seat) (n : ℕ) (rows : List Row) → made_from n (map (swept seats) rows) ≡ made_from n rows
  kinds_stay seats n [] = refl
  kinds_stay seats n (row ∷ rows) =
      ap (λ (k : Kind). cond (same_kind k kind) (record { 0 = n } ∷ made_from (n + 1) (map (swept seats) rows)) (made_from (n + 1) (map (swept seats) rows))) (kind_stays seats row)
      ∙ ap (λ (l : List MetricId). cond (same_kind row.metric.kind kind) (record { 0 = n } ∷ l) l) (kinds_stay seats (n + 1) rows)

  after_sweep : (rules : NameRules) (seat : ℕ) (r : Reply) (s : State) → ids_made kind (effect rules seat call.Sweep r s) ≡ ids_made kind s
  after_sweep rules seat (reply.Swept n) s = kinds_stay s.seats 0 s.metrics
  after_sweep rules seat _ s = refl

  pub made_stay : (rules : NameRules) (workers : ℕ) (log : List Entry) (sweep : Entry) → sweep.call ≡ call.Sweep
      → ids_made kind (replay rules workers (log ++ sweep ∷ [])) ≡ ids_made kind (replay rules workers log)
  made_stay rules workers log sweep is =
      let s : State = replay rules workers log in
      ap (λ (t : State). ids_made kind t) (replayed rules workers log sweep)
      ∙ ap (λ (c : Call). ids_made kind (effect rules sweep.seat c sweep.reply s)) is
      ∙ after_sweep rules sweep.seat sweep.reply s
