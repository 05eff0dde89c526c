-- The scripts are independent: each has a gauge of its own.
use Rattle.std.proofs.Common.{◌≡◌, ◌≤◌, ◌+◌, ℕ, true, List, [], ◌∷◌, codes, refl, sym, ap, ◌∙◌, subst, arith}
use Rattle.std.specs.Prelude.{AllPairs}
use Rattle.std.specs.Fmt.{decimal}
use Rattle.std.proofs.lemmas.Fmt.{decimal_injective}
use Rattle.std.proofs.lemmas.List.{append_cancel_left}
use Rattle.std.proofs.lemmas.List.FromFn.{length-map-range_with_len, get_or-map-range_with_len}
use Rattle.stat_defs.specs.declared.configs.Config.{Config}
use Rattle.stat_defs.specs.declared.events.Event.{Event}
use Rattle.stat_defs.specs.Names.{full}
use Rattle.ledger.specs.Ledger.{RunPlan, plan_of}
use Rattle.ledger.proofs.Lists.{tail_same}
use Rattle.all_accepted.specs.Admitted.{NamedKind, Names}
use Rattle.same_output.specs.Independent.{has_order, AreIndependent}
use Rattle.load_scripts.specs.declared.limits.TheConstants.{MAX_SCRIPTS}
use Rattle.load_scripts.specs.Load.{script_events, scripts, gauge_name}
use Rattle.load_run.proofs.NamesFit.{prefix, gauge_at, room, script_ordered}

full_same : (prefix one other : List ℕ) → full prefix one ≡ full prefix other → one ≡ other
full_same [] one other is = is
full_same (b ∷ bs) one other is =
    tail_same 46 46 one other (append_cancel_left (b ∷ bs) (46 ∷ one) (46 ∷ other) is)

module _ (plan : RunPlan) where
  gauge_same : (one other : ℕ) → one ≤ MAX_SCRIPTS → other ≤ MAX_SCRIPTS → gauge_at plan one ≡ gauge_at plan other
      → one ≡ other
  gauge_same one other few few_other is =
      let names : full (prefix plan) (gauge_name one) ≡ full (prefix plan) (gauge_name other) =
      ap (λ (n : NamedKind). n.1) is in
      decimal_injective one other (omega (arith, few)) (omega (arith, few_other))
      (append_cancel_left (codes "g") (decimal one) (decimal other) (full_same (prefix plan) (gauge_name one) (gauge_name other) names))

  pub gauges_apart : (count n : ℕ) → count ≤ MAX_SCRIPTS
      → AllPairs (λ one other. (named : NamedKind) → has_order named.0 ≡ true → Names plan named one → Names plan named other → ⊥)
      (scripts count n)
  gauges_apart count n few i j d below within named order one other =
      let script = λ (s : ℕ). script_events s n in
      let many = length-map-range_with_len script 1 count in
      let at_i = get_or-map-range_with_len script 1 count i (1 + i) d (omega (arith, below, within, many)) refl in
      let at_j = get_or-map-range_with_len script 1 count j (1 + j) d (omega (arith, within, many)) refl in
      let mine = script_ordered plan count (1 + i) n named (omega arith) (omega (arith, below, within, many)) order
      (subst (λ (file : List Event). Names plan named file) at_i one) in
      let theirs = script_ordered plan count (1 + j) n named (omega arith) (omega (arith, within, many)) order
      (subst (λ (file : List Event). Names plan named file) at_j other) in
      let same = gauge_same (1 + i) (1 + j) (omega (arith, below, within, many, few)) (omega (arith, within, many, few))
      (sym mine ∙ theirs) in
      absurd (omega (arith, below, same))

pub independent : (config : Config) (count n : ℕ) → config.flushes ≡ 0 → config.reads ≡ 0 → count ≤ MAX_SCRIPTS
    → AreIndependent (plan_of config) (scripts count n)
independent config count n no_flush no_read few = record {
  room = room (plan_of config) count n few;
  apart = gauges_apart (plan_of config) count n few;
  no_flush = no_flush;
  no_read = no_read;
}
