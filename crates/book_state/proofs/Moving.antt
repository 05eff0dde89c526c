-- What a step that makes no metric leaves of a state that a run comes to.
use Rattle.std.proofs.Common.{◌≡◌, ℕ, zero, suc, ◌<◌, ◌≤◌, Bool, true, false, Some, List, [], map, length, slice_get, refl, ap, sym, ◌∙◌, subst, arith, inl, inr, ◌⊎◌}
use Rattle.std.proofs.lemmas.List.{length-map}
use Rattle.std.specs.Option.{option_map}
use Rattle.stat_defs.specs.declared.ids.MetricId.{MetricId}
use Rattle.stat_defs.specs.declared.history.Verdict.TheVariants.{Accepted}
use Rattle.book_state.specs.State.{Scope, Row, Held, Seat, State, Uses, seat_of, bears, symbols_of}
use Rattle.book_state.specs.Step.{change_at, on_seat, is_live}
use Rattle.book_state.specs.RunState.{IsAbove, IsRow, IsHeld, IsSeat, IsRunState}
use Rattle.book_state.proofs.Lists.{not_some, get_change_same, get_change_other, length-change_at, get_map, map_some, eq_or}
use Rattle.book_state.proofs.Members.{Among, among_flat, flat_among, change_some}
use Rattle.book_state.proofs.Numbering.{apart_less}

-- no seat that may call loses what it holds, where the metric becomes this one and the scopes become these
pub record Goes (s : State) (scopes : List Scope) (row row' : Row) : Type 0 where
  pub kind : row'.metric.kind ≡ row.metric.kind
  pub life : (j : ℕ) (seat : Seat) → slice_get s.seats j ≡ Some seat → seat.ended ≡ false → seat.tag ≤ s.releases → IsAbove seat.tag row.metric.life → IsAbove seat.tag row'.metric.life
  pub bearers : (k : ℕ) → is_live scopes k ≡ true → bears k row ≡ true → bears k row' ≡ true

-- no scope that was there revives
pub record Grows (s s' : State) : Type 0 where
  pub seats : s'.seats ≡ s.seats
  pub releases : s.releases ≤ s'.releases
  pub more : length s.scopes ≤ length s'.scopes
  pub dead : (k : ℕ) → k < length s.scopes → is_live s'.scopes k ≡ true → is_live s.scopes k ≡ true

abbrev pub Forth : State → State → Type 0
Forth s s' = (i : ℕ) (row : Row) → slice_get s.metrics i ≡ Some row → (row' : Row) × (slice_get s'.metrics i ≡ Some row') × Goes s s'.scopes row row'

ended_case : (s s' : State) → Grows s s' → Forth s s' → (j : ℕ) (seat : Seat) → slice_get s.seats j ≡ Some seat → IsSeat s.scopes s.metrics s.releases seat
    → (t : Bool) → seat.ended ≡ t → (i : ℕ) (h : Held) (id : MetricId) → slice_get seat.held i ≡ Some h → h.verdict ≡ Accepted id → IsHeld s'.scopes s'.metrics seat.tag h id.0
ended_case s s' grows forth j seat at was true e i h id is v = absurd (not_some h (ap (λ (hs : List Held). slice_get hs i) (sym (was.ended e)) ∙ is))
ended_case s s' grows forth j seat at was false e i h id is v =
    let b = was.held i h id is v in
    let g = forth id.0 b.row b.at in record {
      row = g.0;
      at = g.1;
      kind = g.2.kind ∙ b.kind;
      life = g.2.life j seat at e was.tag b.life;
      within = omega (arith, b.within, grows.more);
      borne = λ live. g.2.bearers h.scope live (b.borne (grows.dead h.scope b.within live));
    }

pub seat_goes : (s s' : State) → Grows s s' → Forth s s' → (j : ℕ) (seat : Seat) → slice_get s.seats j ≡ Some seat
    → IsSeat s.scopes s.metrics s.releases seat → IsSeat s'.scopes s'.metrics s'.releases seat
seat_goes s s' grows forth j seat at was = record {
  tag = omega (arith, was.tag, grows.releases);
  ended = was.ended;
  held = ended_case s s' grows forth j seat at was seat.ended refl;
}

-- a metric in a step that makes none
pub record Keeps (s s' : State) (row row' : Row) : Type 0 where
  pub goes : Goes s s'.scopes row row'
  pub is : IsRow s'.scopes s'.releases row'
  pub symbols : (symbols_of row' ≡ symbols_of row) ⊎ (symbols_of row' ≡ [])

pub record KeepsAll (s s' : State) : Type 0 where
  pub grows : Grows s s'
  pub forth : (i : ℕ) (row : Row) → slice_get s.metrics i ≡ Some row → (row' : Row) × (slice_get s'.metrics i ≡ Some row') × Keeps s s' row row'
  pub back : (i : ℕ) (row' : Row) → slice_get s'.metrics i ≡ Some row' → (row : Row) × (slice_get s.metrics i ≡ Some row) × Keeps s s' row row'
  pub few : length s'.metrics ≡ length s.metrics

among_less : (xs ys : List (List ℕ × ℕ)) (x : List ℕ × ℕ) → (xs ≡ ys) ⊎ (xs ≡ []) → Among xs x → Among ys x
among_less xs ys x (inl same) a = subst (λ (l : List (List ℕ × ℕ)). Among l x) same a
among_less xs ys x (inr none) a = absurd (not_some x (subst (λ (l : List (List ℕ × ℕ)). slice_get l a.0 ≡ Some x) none a.1))

uses_less : (s s' : State) → KeepsAll s s' → (t : List ℕ) (n : ℕ) → Uses s' t n → Uses s t n
uses_less s s' keeps t n used =
    let found = flat_among symbols_of s'.metrics (t, n) used in
    let was = keeps.back found.0 found.1 found.2 in
    among_flat symbols_of s.metrics found.0 was.0 (t, n) was.1 (among_less (symbols_of found.1) (symbols_of was.0) (t, n) was.2.symbols found.3)

pub kept_all : (s s' : State) → KeepsAll s s' → IsRunState s → IsRunState s'
kept_all s s' keeps is = record {
  rows = λ i row at. (keeps.back i row at).2.is;
  seats = λ j seat at.
      let was = ap (λ (l : List Seat). slice_get l j) (sym keeps.grows.seats) ∙ at in
      seat_goes s s' keeps.grows (λ i row e. let k = keeps.forth i row e in (k.0, k.1, k.2.goes)) j seat was (is.seats j seat was);
  apart = apart_less (Uses s') (Uses s) (uses_less s s' keeps) is.apart;
  few = omega (arith, keeps.few, is.few);
}

-- where all metrics are changed, and where one is
pub all_mapped : (s s' : State) (g : Row → Row) → Grows s s' → s'.metrics ≡ map g s.metrics
    → ((i : ℕ) (row : Row) → slice_get s.metrics i ≡ Some row → Keeps s s' row (g row)) → KeepsAll s s'
all_mapped s s' g grows are each = record {
  grows = grows;
  forth = λ i row at. (g row, there i ∙ ap (option_map g) at, each i row at);
  back = λ i row' at.
      let was = map_some g (slice_get s.metrics i) row' (sym (there i) ∙ at) in
      (was.0, was.1, subst (λ (r : Row). Keeps s s' was.0 r) (sym was.2) (each i was.0 was.1));
  few = ap length are ∙ length-map s.metrics g;
} where
  there : (i : ℕ) → slice_get s'.metrics i ≡ option_map g (slice_get s.metrics i)
  there i = ap (λ (l : List Row). slice_get l i) are ∙ get_map g s.metrics i

pub one_changed : (s s' : State) (f : Row → Row) (id : ℕ) → Grows s s' → s'.metrics ≡ change_at f id s.metrics
    → ((row : Row) → slice_get s.metrics id ≡ Some row → Keeps s s' row (f row))
    → ((i : ℕ) (row : Row) → slice_get s.metrics i ≡ Some row → Keeps s s' row row) → KeepsAll s s'
one_changed s s' f id grows are this others = record {
  grows = grows;
  forth = λ i row at. elim (eq_or i id) [
    | inl same ↦
        let here = ap (λ (k : ℕ). slice_get s.metrics k) (sym same) ∙ at in
        (f row, there i ∙ (ap (λ (k : ℕ). slice_get (change_at f id s.metrics) k) same ∙ (get_change_same f id s.metrics ∙ ap (option_map f) here)), this row here)
    | inr other ↦ (row, there i ∙ (get_change_other f id s.metrics i other ∙ at), others i row at)
  ];
  back = λ i row' at. elim (change_some f id s.metrics i row' (sym (there i) ∙ at)) [
    | inl got ↦ (got.1, ap (λ (k : ℕ). slice_get s.metrics k) got.0 ∙ got.2, subst (λ (r : Row). Keeps s s' got.1 r) (sym got.3) (this got.1 got.2))
    | inr got ↦ (row', got.1, others i row' got.1)
  ];
  few = ap length are ∙ length-change_at f id s.metrics;
} where
  there : (i : ℕ) → slice_get s'.metrics i ≡ slice_get (change_at f id s.metrics) i
  there i = ap (λ (l : List Row). slice_get l i) are

-- where the metrics stay
pub all_same : (s s' : State) → Grows s s' → s'.metrics ≡ s.metrics → ((i : ℕ) (row : Row) → slice_get s.metrics i ≡ Some row → Keeps s s' row row) → KeepsAll s s'
all_same s s' grows are each = record {
  grows = grows;
  forth = λ i row at. (row, ap (λ (l : List Row). slice_get l i) are ∙ at, each i row at);
  back = λ i row' at. let was = ap (λ (l : List Row). slice_get l i) (sym are) ∙ at in (row', was, each i row' was);
  few = ap length are;
}

-- where a seat alone is changed
pub seat_changed : (f : Seat → Seat) (by : ℕ) (s : State) → IsRunState s
    → ((row : Seat) → seat_of s by ≡ Some row → IsSeat s.scopes s.metrics s.releases row → IsSeat s.scopes s.metrics s.releases (f row)) → IsRunState (on_seat f by s)
seat_changed f zero s is keeps = is
seat_changed f (suc at) s is keeps = record {
  rows = is.rows;
  seats = λ j seat e. elim (change_some f at s.seats j seat e) [
    | inl got ↦ subst (λ (row : Seat). IsSeat s.scopes s.metrics s.releases row) (sym got.3) (keeps got.1 got.2 (is.seats at got.1 got.2))
    | inr got ↦ is.seats j seat got.1
  ];
  apart = is.apart;
  few = is.few;
}
