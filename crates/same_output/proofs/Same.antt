-- Two reports of independent files show the same rows.
use Rattle.std.proofs.Common.{◌≡◌, ℕ, Bool, true, Option, Some, List, [], ◌∷◌, map, slice_get, ap, sym, ◌∙◌}
use Rattle.std.specs.List.{AllByRecursion, flat_map}
use Rattle.stat_defs.specs.declared.bins.Bound.{Bound}
use Rattle.stat_defs.specs.declared.events.Event.{Event}
use Rattle.stat_defs.specs.declared.ids.Kind.{Kind}
use Rattle.stat_defs.specs.declared.ids.Kind.TheVariants.{Counter, Gauge}
use Rattle.stat_defs.specs.declared.reports.FlushRecord.{FlushRecord}
use Rattle.stat_defs.specs.declared.reports.Report.{Report}
use Rattle.stat_defs.specs.declared.views.FlushView.{FlushView}
use Rattle.book_state.specs.State.{Row, State}
use Rattle.ledger.specs.Ledger.{RunPlan, IsReportOf}
use Rattle.ledger.specs.Work.{Work, events_in}
use Rattle.flush_view.specs.ByName.{by_name}
use Rattle.flush_view.specs.Views.{ViewRules, has_not_gone, has_counter_row, view_of, views}
use Rattle.all_accepted.specs.Admitted.{NamedKind}
use Rattle.same_output.specs.Independent.{AreIndependent, rules_of}
use Rattle.all_accepted.proofs.InLists.{In}
use Rattle.all_accepted.proofs.Accepted.{EventFits}
use Rattle.all_accepted.proofs.Tight.{all_events}
use Rattle.same_output.proofs.Sorting.{itself}
use Rattle.all_accepted.proofs.Runs.{IsSettledReport}
use Rattle.same_output.proofs.Rows.{names_shown, names_same}
use Rattle.all_accepted.proofs.Members.{IsUsed, used_made, made_used}
use Rattle.same_output.proofs.Shown.{p, book, before, not_gone, counters, counter_passes, counter_named, gauges, gauge_named}
use Rattle.same_output.proofs.Moves.{Lonely}

-- a report with one flush has one view
pub one_view : (rules : ViewRules) (report : Report) (flush : FlushRecord) → report.flushes ≡ flush ∷ [] → views rules report.log report.flushes ≡ view_of rules report.log flush (flush ∷ []) ∷ []
one_view rules report flush one = ap (λ (l : List FlushRecord). views rules report.log l) one

module _ (plan : RunPlan) (events : List (List Event)) (free : AreIndependent plan events) (from : (n : NamedKind) → In free.room.names n → IsUsed plan events free.room (all_events events) n)
    (contents others : List (Option (List ℕ))) (works workers : List Work) (run replay : Report)
    (is : IsReportOf contents events plan works run) (other : IsReportOf others events plan workers replay)
    (fits : AllByRecursion (λ (work : Work). AllByRecursion (EventFits plan events free.room) (events_in work)) works)
    (other_fits : AllByRecursion (λ (work : Work). AllByRecursion (EventFits plan events free.room) (events_in work)) workers)
    (flat : flat_map events_in works ≡ all_events events) (other_flat : flat_map events_in workers ≡ all_events events) where
  abbrev pub one_p : IsSettledReport plan events free.room works run
  one_p = p plan events free from contents works run is fits flat

  abbrev pub other_p : IsSettledReport plan events free.room workers replay
  other_p = p plan events free from others workers replay other other_fits other_flat

  abbrev one_book : State
  one_book = book plan events free from contents works run is fits flat

  abbrev other_book : State
  other_book = book plan events free from others workers replay other other_fits other_flat

  abbrev pub one_before : State
  one_before = before plan events free from contents works run is fits flat

  abbrev pub other_before : State
  other_before = before plan events free from others workers replay other other_fits other_flat

  -- the names of a kind
  pub same_names : (kind : Kind) (passes others_pass : ℕ → Bool) → ((id : ℕ) (row : Row) → slice_get one_book.metrics id ≡ Some row → passes id ≡ true)
      → ((id : ℕ) (row : Row) → slice_get other_book.metrics id ≡ Some row → others_pass id ≡ true)
      → by_name itself (names_shown kind passes one_book) ≡ by_name itself (names_shown kind others_pass other_book)
  same_names kind passes others_pass pass pass_other =
      names_same kind passes others_pass one_book other_book one_p.state.once other_p.state.once pass pass_other
      (λ n has. used_made plan events free.room from workers replay other_p other_flat n (made_used plan events free.room from works run one_p flat n has))
      (λ n has. used_made plan events free.room from works run one_p flat n (made_used plan events free.room from workers replay other_p other_flat n has))

  abbrev pub one_view_of : (List ℕ → List Bound) → FlushView
  one_view_of bounds = view_of (rules_of plan bounds) run.log one_p.flush (one_p.flush ∷ [])

  abbrev pub other_view_of : (List ℕ → List Bound) → FlushView
  other_view_of bounds = view_of (rules_of plan bounds) replay.log other_p.flush (other_p.flush ∷ [])

  pub same_counters : (bounds : List ℕ → List Bound) → (one_view_of bounds).counters ≡ (other_view_of bounds).counters
  same_counters bounds =
      counters plan events free from contents works run is fits flat bounds
      ∙ ap (λ (l : List (List ℕ)). map (counter_named plan (all_events events)) l)
      (same_names Counter (has_counter_row one_before one_p.flush) (has_counter_row other_before other_p.flush)
      (counter_passes plan events free from contents works run is fits flat) (counter_passes plan events free from others workers replay other other_fits other_flat))
      ∙ sym (counters plan events free from others workers replay other other_fits other_flat bounds)

  module _ (alone : Lonely plan (map events_in works)) (other_alone : Lonely plan (map events_in workers)) where
    pub same_gauges : (bounds : List ℕ → List Bound) → (one_view_of bounds).gauges ≡ (other_view_of bounds).gauges
    same_gauges bounds =
        gauges plan events free from contents works run is fits flat alone bounds
        ∙ ap (λ (l : List (List ℕ)). map (gauge_named plan (all_events events)) l)
        (same_names Gauge (has_not_gone one_before) (has_not_gone other_before)
        (not_gone plan events free from contents works run is fits flat) (not_gone plan events free from others workers replay other other_fits other_flat))
        ∙ sym (gauges plan events free from others workers replay other other_fits other_flat other_alone bounds)
