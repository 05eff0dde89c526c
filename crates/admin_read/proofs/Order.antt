-- Counters and gauges together.
use Rattle.std.proofs.Common.{◌≡◌, ℕ, suc, ◌+◌, Bool, true, false, cond, List, [], ◌∷◌, ◌++◌, map, take, drop, refl, sym, ap, ◌∙◌, subst, arith}
use Rattle.std.specs.Cmp.{IsStrictWeakOrder, IsTotalOrder, then_total, on_total}
use Rattle.std.specs.Cmp.Lexicographic.{slice_cmp, nat_list_cmp_total}
use Rattle.std.specs.Ordering.{nat_cmp, is_lt, is_le, ordering_reverse, ordering_then}
use Rattle.std.specs.declared.cmp.Ordering.{Ordering}
use Rattle.std.specs.declared.cmp.Ordering.TheVariants.{Less, Equal, Greater}
use Rattle.std.specs.List.{AllByRecursion, filter_map, prefix_len}
use Rattle.std.specs.List.Sorted.{IsSortedBy}
use Rattle.std.proofs.lemmas.Cmp.{nat_cmp_total}
use Rattle.std.proofs.lemmas.List.Sorted.{ranks_by}
use Rattle.std.proofs.lemmas.List.{take-append-drop}
use Rattle.std.proofs.lemmas.List.Elements.{filter_map-append}
use Rattle.stat_defs.specs.declared.views.CounterRow.{CounterRow}
use Rattle.stat_defs.specs.declared.views.GaugeRow.{GaugeRow}
use Rattle.text_parts.proofs.Rising.{Rises, rises_sorted, sorted_rising, all_behind}
use Rattle.admin_read.specs.Admin.{Stat, CounterStat, GaugeStat, stands_before, together}
use Rattle.admin_read.specs.Order.{full_name, stat_place, comes_before, AreCountersByName, AreGaugesByName, counter_in, gauge_in}

in_total_order : IsTotalOrder (λ (a b : Stat). ordering_then (slice_cmp nat_cmp (full_name a) (full_name b)) (nat_cmp (stat_place a) (stat_place b)))
in_total_order = then_total (on_total full_name nat_list_cmp_total) (on_total stat_place nat_cmp_total)

in_weak_order : IsStrictWeakOrder comes_before
in_weak_order = ranks_by in_total_order (λ (s : Stat). s)

-- the first counter stands before the first gauge, or the gauge goes before all counters that are left
take_counter : (c : CounterRow) (cs : List CounterRow) (g : GaugeRow) (gs : List GaugeRow) → stands_before g c ≡ true
    → together (c ∷ cs) (g ∷ gs) ≡ CounterStat c ∷ together cs (g ∷ gs)
take_counter c cs g gs h =
    let n : ℕ = prefix_len (stands_before g) cs in
    let F : ℕ → List Stat = λ k. map CounterStat (take k (c ∷ cs)) ++ (GaugeStat g ∷ together (drop k (c ∷ cs)) gs) in
    let next : 1 + n ≡ suc n = omega arith in
    ap (λ b. F (cond b (1 + n) 0)) h ∙ ap F next

take_gauge : (c : CounterRow) (cs : List CounterRow) (g : GaugeRow) (gs : List GaugeRow) → stands_before g c ≡ false
    → together (c ∷ cs) (g ∷ gs) ≡ GaugeStat g ∷ together (c ∷ cs) gs
take_gauge c cs g gs h =
    let n : ℕ = prefix_len (stands_before g) cs in
    let F : ℕ → List Stat = λ k. map CounterStat (take k (c ∷ cs)) ++ (GaugeStat g ∷ together (drop k (c ∷ cs)) gs) in
    ap (λ b. F (cond b (1 + n) 0)) h

not_below : (o : Ordering) → is_le o ≡ true → is_lt (ordering_then (ordering_reverse o) Greater) ≡ false
not_below Less h = refl
not_below Equal h = refl
not_below Greater h = absurd (cc)

-- a gauge does not come before a counter that stands before it
counter_first : (c : CounterRow) (g : GaugeRow) → stands_before g c ≡ true → comes_before (GaugeStat g) (CounterStat c) ≡ false
counter_first c g h =
    ap (λ o. is_lt (ordering_then o Greater)) (nat_list_cmp_total.antisymm g.name c.name)
    ∙ not_below (slice_cmp nat_cmp c.name g.name) h

not_above : (o : Ordering) → is_le o ≡ false → is_lt (ordering_then o Less) ≡ false
not_above Less h = absurd (cc)
not_above Equal h = absurd (cc)
not_above Greater h = refl

-- and a counter that does not stand before a gauge does not come before it
gauge_first : (c : CounterRow) (g : GaugeRow) → stands_before g c ≡ false → comes_before (CounterStat c) (GaugeStat g) ≡ false
gauge_first c g h = not_above (slice_cmp nat_cmp c.name g.name) h

all_inside : (P : Stat → Type 0) (g : GaugeRow) (gs : List GaugeRow)
    → ((cs : List CounterRow) → AllByRecursion P (map CounterStat cs) → AllByRecursion P (together cs gs))
    → (cs : List CounterRow) → AllByRecursion P (map CounterStat cs) → P (GaugeStat g) → AllByRecursion P (together cs (g ∷ gs))
all_inside P g gs others [] a b = (b, others [] tt)
all_inside P g gs others (c ∷ cs) a b =
    let cases : (t : Bool) → stands_before g c ≡ t → AllByRecursion P (together (c ∷ cs) (g ∷ gs)) =
    λ t. elim t as (λ t. stands_before g c ≡ t → AllByRecursion P (together (c ∷ cs) (g ∷ gs))) [
      | true ↦ λ e. subst (λ (l : List Stat). AllByRecursion P l) (sym (take_counter c cs g gs e)) (a.0, all_inside P g gs others cs a.1 b)
      | false ↦ λ e. subst (λ (l : List Stat). AllByRecursion P l) (sym (take_gauge c cs g gs e)) (b, others (c ∷ cs) a)
    ] in
    cases (stands_before g c) refl

-- what holds of counters and gauges holds of both together
all_together : (P : Stat → Type 0) (gs : List GaugeRow) → AllByRecursion P (map GaugeStat gs) → (cs : List CounterRow)
    → AllByRecursion P (map CounterStat cs) → AllByRecursion P (together cs gs)
all_together P [] b cs a = a
all_together P (g ∷ gs) b cs a = all_inside P g gs (all_together P gs b.1) cs a b.0

rises_inside : (g : GaugeRow) (gs : List GaugeRow) → Rises comes_before (map GaugeStat (g ∷ gs))
    → ((cs : List CounterRow) → Rises comes_before (map CounterStat cs) → Rises comes_before (together cs gs))
    → (cs : List CounterRow) → Rises comes_before (map CounterStat cs) → Rises comes_before (together cs (g ∷ gs))
rises_inside g gs b others [] a = (all_together (λ s. comes_before s (GaugeStat g) ≡ false) gs b.0 [] tt, others [] tt)
rises_inside g gs b others (c ∷ cs) a =
    let cases : (t : Bool) → stands_before g c ≡ t → Rises comes_before (together (c ∷ cs) (g ∷ gs)) =
    λ t. elim t as (λ t. stands_before g c ≡ t → Rises comes_before (together (c ∷ cs) (g ∷ gs))) [
      | true ↦ λ e.
          let first : comes_before (GaugeStat g) (CounterStat c) ≡ false = counter_first c g e in
          subst (λ (l : List Stat). Rises comes_before l) (sym (take_counter c cs g gs e)) (
            all_together (λ s. comes_before s (CounterStat c) ≡ false) (g ∷ gs)
                (first, all_behind comes_before in_weak_order (CounterStat c) (GaugeStat g) (map GaugeStat gs) first b.0) cs a.0,
            rises_inside g gs b others cs a.1,
          )
      | false ↦ λ e.
          let first : comes_before (CounterStat c) (GaugeStat g) ≡ false = gauge_first c g e in
          subst (λ (l : List Stat). Rises comes_before l) (sym (take_gauge c cs g gs e)) (
            all_together (λ s. comes_before s (GaugeStat g) ≡ false) gs b.0 (c ∷ cs)
                (first, all_behind comes_before in_weak_order (GaugeStat g) (CounterStat c) (map CounterStat cs) first a.0),
            others (c ∷ cs) a,
          )
    ] in
    cases (stands_before g c) refl

rises_together : (gs : List GaugeRow) → Rises comes_before (map GaugeStat gs) → (cs : List CounterRow)
    → Rises comes_before (map CounterStat cs) → Rises comes_before (together cs gs)
rises_together [] b cs a = a
rises_together (g ∷ gs) b cs a = rises_inside g gs b (rises_together gs b.1) cs a

as_named : (o : Ordering) → is_lt o ≡ false → is_lt (ordering_then o Equal) ≡ false
as_named Less h = h
as_named Equal h = refl
as_named Greater h = refl

counters_above : (c : CounterRow) (cs : List CounterRow) → AllByRecursion (λ d. is_lt (slice_cmp nat_cmp d.name c.name) ≡ false) cs
    → AllByRecursion (λ s. comes_before s (CounterStat c) ≡ false) (map CounterStat cs)
counters_above c [] a = tt
counters_above c (d ∷ ds) a = (as_named (slice_cmp nat_cmp d.name c.name) a.0, counters_above c ds a.1)

counters_rise : (cs : List CounterRow) → Rises (λ a b. is_lt (slice_cmp nat_cmp a.name b.name)) cs
    → Rises comes_before (map CounterStat cs)
counters_rise [] r = tt
counters_rise (c ∷ cs) r = (counters_above c cs r.0, counters_rise cs r.1)

gauges_above : (g : GaugeRow) (gs : List GaugeRow) → AllByRecursion (λ d. is_lt (slice_cmp nat_cmp d.name g.name) ≡ false) gs
    → AllByRecursion (λ s. comes_before s (GaugeStat g) ≡ false) (map GaugeStat gs)
gauges_above g [] a = tt
gauges_above g (d ∷ ds) a = (as_named (slice_cmp nat_cmp d.name g.name) a.0, gauges_above g ds a.1)

gauges_rise : (gs : List GaugeRow) → Rises (λ a b. is_lt (slice_cmp nat_cmp a.name b.name)) gs
    → Rises comes_before (map GaugeStat gs)
gauges_rise [] r = tt
gauges_rise (g ∷ gs) r = (gauges_above g gs r.0, gauges_rise gs r.1)

pub together_in_order : (counters : List CounterRow) (gauges : List GaugeRow) → AreCountersByName counters → AreGaugesByName gauges
    → IsSortedBy comes_before (together counters gauges)
together_in_order counters gauges a b =
    sorted_rising comes_before (together counters gauges)
    (rises_together gauges
    (gauges_rise gauges (rises_sorted (λ a b. is_lt (slice_cmp nat_cmp a.name b.name)) (ranks_by nat_list_cmp_total (λ (g : GaugeRow). g.name)) gauges b))
    counters
    (counters_rise counters
    (rises_sorted (λ a b. is_lt (slice_cmp nat_cmp a.name b.name)) (ranks_by nat_list_cmp_total (λ (c : CounterRow). c.name)) counters a)))

counters_are : (cs : List CounterRow) → filter_map counter_in (map CounterStat cs) ≡ cs
counters_are [] = refl
counters_are (c ∷ cs) = ap (λ l. c ∷ l) (counters_are cs)

counters_are_no_gauges : (cs : List CounterRow) → filter_map gauge_in (map CounterStat cs) ≡ []
counters_are_no_gauges [] = refl
counters_are_no_gauges (c ∷ cs) = counters_are_no_gauges cs

pub counters_stay : (counters : List CounterRow) (gauges : List GaugeRow) → filter_map counter_in (together counters gauges) ≡ counters
counters_stay cs [] = counters_are cs
counters_stay cs (g ∷ gs) =
    let n : ℕ = prefix_len (stands_before g) cs in
    filter_map-append counter_in (map CounterStat (take n cs)) (GaugeStat g ∷ together (drop n cs) gs)
    ∙ ap (λ l. l ++ filter_map counter_in (together (drop n cs) gs)) (counters_are (take n cs))
    ∙ ap (λ l. take n cs ++ l) (counters_stay (drop n cs) gs) ∙ take-append-drop n cs

pub gauges_stay : (counters : List CounterRow) (gauges : List GaugeRow) → filter_map gauge_in (together counters gauges) ≡ gauges
gauges_stay cs [] = counters_are_no_gauges cs
gauges_stay cs (g ∷ gs) =
    let n : ℕ = prefix_len (stands_before g) cs in
    filter_map-append gauge_in (map CounterStat (take n cs)) (GaugeStat g ∷ together (drop n cs) gs)
    ∙ ap (λ l. l ++ (g ∷ filter_map gauge_in (together (drop n cs) gs))) (counters_are_no_gauges (take n cs))
    ∙ ap (λ l. g ∷ l) (gauges_stay (drop n cs) gs)
