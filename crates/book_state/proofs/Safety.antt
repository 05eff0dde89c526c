-- A legal log is safe.
use Rattle.std.proofs.Common.{◌≡◌, cond, zip, ℕ, zero, suc, ◌<◌, nat_le, Bool, true, false, Option, Some, List, [], ◌∷◌, length, take, slice_get, replicate, All, refl, ap, sym, subst, arith}
use Rattle.std.proofs.lemmas.Bool.Decides.{nat_tests}
use Rattle.std.specs.Option.{IsSomeAnd}
use Rattle.stat_defs.specs.declared.ids.MetricId.{MetricId}
use Rattle.stat_defs.specs.declared.metrics.Life.{Life}
use Rattle.stat_defs.specs.declared.metrics.Life.TheVariants.{Live, Retired, Gone}
use Rattle.stat_defs.specs.declared.history.Call.{Call}
use Rattle.stat_defs.specs.declared.history.Call.TheVariants as call
use Rattle.stat_defs.specs.declared.history.Reply.{Reply}
use Rattle.stat_defs.specs.declared.history.Reply.TheVariants as reply
use Rattle.stat_defs.specs.declared.history.Verdict.{Verdict}
use Rattle.stat_defs.specs.declared.history.Verdict.TheVariants as verdict
use Rattle.stat_defs.specs.declared.history.Entry.{Entry}
use Rattle.stat_defs.specs.Names.{tokens}
use Rattle.symbol_table.specs.Drawing.{InUse}
use Rattle.book_state.specs.declared.limits.TheConstants.{MAX_METRICS}
use Rattle.book_state.specs.State.{NameRules, Row, Held, Seat, State, Uses, symbols_of, is_gone, live_scope, known, seat_of}
use Rattle.book_state.specs.Finding.{scope_of, name_of, is_full, is_over_limit}
use Rattle.book_state.specs.Step.{effect, Allowed, Working}
use Rattle.book_state.specs.Log.{empty, replay_from, replay, Run}
use Rattle.book_state.specs.Safe.{IsThere, NamesSafe, IsSafe, DrawsUnused}
use Rattle.book_state.specs.RunState.{IsAbove, IsHeld, IsSeat, IsRunState}
use Rattle.book_state.specs.SafeLaws.{NamesMetric, HoldsMetrics, AfterLegal, LegalIsSafe}
use Rattle.book_state.proofs.Lists.{not_some, some_at, some_same, get_within}
use Rattle.book_state.proofs.Members.{Among, among_flat, all_each}
use Rattle.book_state.proofs.Numbering.{draws_unused}
use Rattle.book_state.proofs.Moves.{opened_kept, released_kept, swept_kept, text_kept}
use Rattle.book_state.proofs.Finds.{scope_is_live, known_at, tells_made, tells_found, rejected_kept, made_kept, found_kept, acknowledged_kept, ended_kept}

works : (s : State) (by : ℕ) (May : Seat → Type 0) → Working s by May → (row : Seat) → seat_of s by ≡ Some row → row.ended ≡ false
works s by May may row at = (some_at (λ (r : Seat). (r.ended ≡ false) × May r) (seat_of s by) row at may).0

not_full : (m n : ℕ) → nat_le m n ≡ false → n < m
not_full m n e = grind (arith, nat_tests)

-- each step leaves a state that a run comes to as such a one
pub step_kept : (rules : NameRules) (by : ℕ) (c : Call) (r : Reply) (s : State) → IsRunState s → Allowed rules by c r s → IsRunState (effect rules by c r s)
step_kept rules by (call.OpenScope label prefix) (reply.Opened id) s is may = opened_kept s (record { label = label; prefix = prefix; live = true }) is
step_kept rules by (call.Release label) (reply.Released id) s is may = released_kept s id.0 is
step_kept rules by (call.Find key) (reply.Made id numbers) s is may =
    let told = tells_made s key (live_scope s key.label) (rules.admits (name_of s key)) (known s key.kind (name_of s key)) (is_full s) (is_over_limit s key.kind) id numbers may.1 in
    made_kept rules s key numbers (scope_is_live s key.label told.scope told.live) by id is (works s by _ may.0) (not_full MAX_METRICS (length s.metrics) told.room) told.next told.drawn
step_kept rules by (call.Find key) (reply.Found id) s is may =
    let told = tells_found s key (live_scope s key.label) (rules.admits (name_of s key)) (known s key.kind (name_of s key)) (is_full s) (is_over_limit s key.kind) id may.1 in
    found_kept s by key id (scope_of s key) is (works s by _ may.0) (scope_is_live s key.label told.0 told.1) (known_at s key.kind (name_of s key) id.0 told.2)
step_kept rules by (call.Find key) reply.Rejected s is may = rejected_kept s by key (scope_of s key) is (works s by _ may.0)
step_kept rules by (call.SetText id text) reply.TextSet s is may = text_kept s id.0 text is
step_kept rules by call.Ack (reply.Acked tag) s is may = acknowledged_kept s by tag is may.1
step_kept rules by call.Sweep (reply.Swept n) s is may = swept_kept s is
step_kept rules by call.End reply.Ended s is may = ended_kept s by is
step_kept rules by _ _ s is may = is

-- the state before the first entry
pub replicated : (n j : ℕ) (x y : Seat) → slice_get (replicate n x) j ≡ Some y → x ≡ y
replicated zero j x y e = absurd (not_some y e)
replicated (suc n) zero x y e = some_same x y e
replicated (suc n) (suc j) x y e = replicated n j x y e

first_seat : (workers : ℕ) → IsSeat [] [] 0 (record { tag = 0; held = []; ended = false })
first_seat workers = record { tag = omega arith; ended = λ e. refl; held = λ i h id at told. absurd (not_some h at) }

pub empty_run : (workers : ℕ) → IsRunState (empty workers)
empty_run workers = record {
  rows = λ i row at. absurd (not_some row at);
  seats = λ j seat at. subst (λ (row : Seat). IsSeat [] [] 0 row) (replicated workers j (record { tag = 0; held = []; ended = false }) seat at) (first_seat workers);
  apart = λ t u m n a b. absurd (not_some (t, m) a.1);
  few = omega arith;
}

module _ (rules : NameRules) where
  -- after any number of entries of a run
  pub run_kept : (s : State) (log : List Entry) (k : ℕ) → IsRunState s → Run rules s log → IsRunState (replay_from rules s (take k log))
  run_kept s log zero is run = is
  run_kept s [] (suc k) is run = is
  run_kept s (e ∷ log) (suc k) is run = run_kept (effect rules e.seat e.call e.reply s) log k (step_kept rules e.seat e.call e.reply s is run.0) run.1

  pub run_kept_all : (s : State) (log : List Entry) → IsRunState s → Run rules s log → IsRunState (replay_from rules s log)
  run_kept_all s [] is run = is
  run_kept_all s (e ∷ log) is run = run_kept_all (effect rules e.seat e.call e.reply s) log (step_kept rules e.seat e.call e.reply s is run.0) run.1

  pub run_allows : (s : State) (log : List Entry) (k : ℕ) (entry : Entry) → Run rules s log → slice_get log k ≡ Some entry
      → Allowed rules entry.seat entry.call entry.reply (replay_from rules s (take k log))
  run_allows s [] k entry run at = absurd (not_some entry at)
  run_allows s (e ∷ log) zero entry run at = subst (λ (x : Entry). Allowed rules x.seat x.call x.reply s) (some_same e entry at) run.0
  run_allows s (e ∷ log) (suc k) entry run at = run_allows (effect rules e.seat e.call e.reply s) log k entry run.1 at

  allowed_draws : (by : ℕ) (c : Call) (r : Reply) (s : State) → Allowed rules by c r s → DrawsUnused s c r
  allowed_draws by (call.Find key) (reply.Made id numbers) s may =
      let told = tells_made s key (live_scope s key.label) (rules.admits (name_of s key)) (known s key.kind (name_of s key)) (is_full s) (is_over_limit s key.kind) id numbers may.1 in
      draws_unused _ (tokens (name_of s key)) numbers told.drawn
  allowed_draws by _ _ s may = tt

zip_some : (ts : List (List ℕ)) (ns : List ℕ) → length ns ≡ length ts → (i n : ℕ) → slice_get ns i ≡ Some n → (t : List ℕ) × (slice_get (zip ts ns) i ≡ Some (t, n))
zip_some ts [] same i n e = absurd (not_some n e)
zip_some [] (m ∷ ns) same i n e = absurd (omega (arith, same))
zip_some (t ∷ ts) (m ∷ ns) same zero n e = (t, ap (λ (k : ℕ). Some (t, k)) (some_same m n e))
zip_some (t ∷ ts) (m ∷ ns) same (suc i) n e = zip_some ts ns (omega (arith, same)) i n e

not_gone_above : (tag : ℕ) (l : Life) → IsAbove tag l → is_gone l ≡ false
not_gone_above tag Live above = refl
not_gone_above tag (Retired r) above = refl
not_gone_above tag Gone above = absurd above

module _ (s : State) (is : IsRunState s) where
  names : (tag : ℕ) (h : Held) (v : Verdict) → ((id : MetricId) → v ≡ verdict.Accepted id → IsHeld s.scopes s.metrics tag h id.0) → NamesMetric s h.key v
  names tag h (verdict.Accepted id) held =
      let b = held id refl in
      let within = get_within s.metrics id.0 b.row b.at in
      (within, omega (arith, within, is.few), subst (λ (o : Option Row). IsSomeAnd o (λ row. row.metric.kind ≡ h.key.kind)) (sym b.at) b.kind)
  names tag h _ held = tt

  in_use : (row : Row) (id : ℕ) → slice_get s.metrics id ≡ Some row → is_gone row.metric.life ≡ false → All (InUse (Uses s)) row.metric.numbers
  in_use row id at live = all_each (InUse (Uses s)) row.metric.numbers (λ i n here.
      let z = zip_some (tokens row.metric.name) row.metric.numbers (is.rows id row at).numbers i n here in
      let e = ap (λ (t : Bool). cond t [] (zip (tokens row.metric.name) row.metric.numbers)) live in
      (z.0, among_flat symbols_of s.metrics id row (z.0, n) at (subst (λ (l : List (List ℕ × ℕ)). Among l (z.0, n)) (sym e) (i, z.1))))

  there : (tag : ℕ) (h : Held) (v : Verdict) → ((id : MetricId) → v ≡ verdict.Accepted id → IsHeld s.scopes s.metrics tag h id.0) → NamesSafe s v
  there tag h (verdict.Accepted id) held =
      let b = held id refl in
      let live = not_gone_above tag b.row.metric.life b.life in
      subst (λ (o : Option Row). IsSomeAnd o (IsThere s)) (sym b.at) (record { life = live; as_many = (is.rows id.0 b.row b.at).numbers; in_use = in_use b.row id.0 b.at live })
  there tag h _ held = tt

  each_held : (P : Held → Type 0) → ((tag : ℕ) (h : Held) → ((id : MetricId) → h.verdict ≡ verdict.Accepted id → IsHeld s.scopes s.metrics tag h id.0) → P h)
      → All (λ (seat : Seat). All P seat.held) s.seats
  each_held P gives = all_each (λ (seat : Seat). All P seat.held) s.seats (λ j seat at.
      all_each P seat.held (λ i h here. gives seat.tag h (λ id told. (is.seats j seat at).held i h id here told)))

  pub run_safe : IsSafe s
  run_safe = record { held = each_held (λ h. NamesSafe s h.verdict) (λ tag h held. there tag h h.verdict held); apart = is.apart }

  pub run_metrics : HoldsMetrics s
  run_metrics = each_held (λ h. NamesMetric s h.key h.verdict) (λ tag h held. names tag h h.verdict held)

-- what is true of the states that a run comes to
after_legal : (Is : State → Type 0) → ((s : State) → IsRunState s → Is s) → AfterLegal Is
after_legal Is each rules scopes workers log legal = (
  each (replay rules workers log) (run_kept_all rules (empty workers) log (empty_run workers) legal.steps),
  λ k. each (replay rules workers (take k log)) (run_kept rules (empty workers) log k (empty_run workers) legal.steps),
)

pub legal_is_safe : LegalIsSafe
legal_is_safe = record {
  symbols = λ rules scopes workers log legal. record {
    states = (after_legal IsSafe run_safe rules scopes workers log legal).1;
    draws = λ k entry at. allowed_draws rules entry.seat entry.call entry.reply (replay rules workers (take k log)) (run_allows rules (empty workers) log k entry legal.steps at);
  };
  safe = after_legal IsSafe run_safe;
  metrics = after_legal HoldsMetrics run_metrics;
}
