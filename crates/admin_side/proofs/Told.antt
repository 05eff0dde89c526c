-- Readings of changes that a log makes account for the log.
use Rattle.std.proofs.Common.{◌≡◌, ℕ, ◌+◌, ◌&&◌, not, Bool, true, false, cond, List, [], ◌∷◌, map, filter, take, drop, refl, ap, sym, ◌∙◌}
use Rattle.std.specs.List.{AllByRecursion}
use Rattle.std.proofs.lemmas.List.{take-append-drop, length-take-le}
use Rattle.stat_defs.specs.declared.configs.ScopeSpec.{ScopeSpec}
use Rattle.stat_defs.specs.declared.history.Entry.{Entry}
use Rattle.stat_defs.specs.declared.history.NameOp.{NameOp}
use Rattle.stat_defs.specs.declared.ids.Kind.{Kind}
use Rattle.stat_defs.specs.declared.ids.Kind.TheVariants.{Counter, Gauge}
use Rattle.stat_defs.specs.declared.ids.MetricId.{MetricId}
use Rattle.stat_defs.specs.declared.metrics.Metric.{Metric}
use Rattle.stat_defs.specs.Keys.{same_kind}
use Rattle.stat_defs.specs.Changes.{Name, GoesOnLater}
use Rattle.book_state.specs.State.{NameRules, State, is_gone, ids_from, metrics_of}
use Rattle.book_state.specs.Log.{Legal, replay}
use Rattle.name_changes.specs.Changes.{changes_in, live_names, names_not_gone, newest}
use Rattle.name_changes.proofs.Folding.{known-changes-give-names}
use Rattle.name_list.specs.Ids.{ids_of}
use Rattle.ledger.proofs.Names.{kinds}
use Rattle.run_ledger.specs.Accounts.{ReadAccounts, listed}
use Rattle.book_lock.proofs.Standing.{later-then}
use Rattle.admin_side.specs.Reader.{NamedRead, IsReadingOf}
use Rattle.admin_side.specs.Telling.{told_at}

-- the metrics of a kind that are not gone, among the names and by the state
ids-live : (kind : Kind) (id : ℕ) (ms : List Metric) → ids_of kind (live_names id ms) ≡ ids_from (λ metric. same_kind metric.kind kind && not (is_gone metric.life)) id ms
ids-live kind id [] = refl
ids-live kind id (m ∷ ms) = by (is_gone m.life) (same_kind m.kind kind) refl (ids-live kind (id + 1) ms) where
  name : Name
  name = record { id = id; kind = m.kind }

  by : (a b : Bool) → same_kind m.kind kind ≡ b → ids_of kind (live_names (id + 1) ms) ≡ ids_from (λ metric. same_kind metric.kind kind && not (is_gone metric.life)) (id + 1) ms
      → ids_of kind (cond a (live_names (id + 1) ms) (name ∷ live_names (id + 1) ms))
      ≡ cond (b && not a) (record { 0 = id } ∷ ids_from (λ metric. same_kind metric.kind kind && not (is_gone metric.life)) (id + 1) ms) (ids_from (λ metric. same_kind metric.kind kind && not (is_gone metric.life)) (id + 1) ms)
  by true true is rest = rest
  by true false is rest = rest
  by false true is rest = ap (λ t. map (λ (n : Name). record { 0 = n.id }) (cond t (name ∷ filter (λ n. same_kind n.kind kind) (live_names (id + 1) ms)) (filter (λ n. same_kind n.kind kind) (live_names (id + 1) ms)))) is
      ∙ ap (λ (l : List MetricId). record { 0 = id } ∷ l) rest
  by false false is rest = ap (λ t. map (λ (n : Name). record { 0 = n.id }) (cond t (name ∷ filter (λ n. same_kind n.kind kind) (live_names (id + 1) ms)) (filter (λ n. same_kind n.kind kind) (live_names (id + 1) ms)))) is ∙ rest

ids-listed : (kind : Kind) (s : State) → ids_of kind (names_not_gone s) ≡ listed kind s
ids-listed kind s = ids-live kind 0 (metrics_of s) ∙ sym (kinds kind s)

module _ (rules : NameRules) (scopes : List ScopeSpec) (workers : ℕ) (log : List Entry) (legal : Legal rules scopes workers log) where
  read-accounts : (read : NamedRead) → IsReadingOf (changes_in rules workers log) read → ReadAccounts rules workers log (told_at log read)
  read-accounts read is =
      let gives = known-changes-give-names rules scopes workers log read.names legal is.known in
      let first : List Entry = take (newest read.names) log in record {
        behind = drop (newest read.names) log;
        whole = sym (take-append-drop (newest read.names) log);
        at = is.shows.at ∙ sym (length-take-le (newest read.names) log gives.0);
        counters = is.shows.counters ∙ (ap (ids_of Counter) gives.1 ∙ ids-listed Counter (replay rules workers first));
        gauges = is.shows.gauges ∙ (ap (ids_of Gauge) gives.1 ∙ ids-listed Gauge (replay rules workers first));
      }

  pub reads-account : (known : List NameOp) (reads : List NamedRead) → GoesOnLater known (changes_in rules workers log)
      → AllByRecursion (IsReadingOf known) reads → AllByRecursion (ReadAccounts rules workers log) (map (told_at log) reads)
  reads-account known [] on each = tt
  reads-account known (r ∷ reads) on each = (
    read-accounts r (record { known = later-then r.names known (changes_in rules workers log) each.0.known on; shows = each.0.shows }),
    reads-account known reads on each.1,
  )
