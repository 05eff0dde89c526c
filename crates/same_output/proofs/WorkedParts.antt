-- Files that are independent.
use Rattle.std.proofs.Common.{◌≡◌, ◌<◌, ℕ, zero, suc, true, List, [], ◌∷◌, refl, ap, sym, ◌∙◌, arith}
use Rattle.std.specs.Prelude.{codes, slice_index_or}
use Rattle.stat_defs.specs.declared.events.Event.{Event}
use Rattle.stat_defs.specs.declared.ids.Kind.TheVariants.{Counter, Gauge}
use Rattle.book_state.proofs.Lists.{true_false, some_same}
use Rattle.ledger.specs.Worked.{plain_plan, increments, gauge_moves}
use Rattle.all_accepted.specs.Admitted.{NamedKind, Names, named_by, HasRoomForAll}
use Rattle.same_output.specs.Independent.{has_order}
use Rattle.same_output.specs.Worked.{ThreeIndependent}

abbrev counter_name : NamedKind
counter_name = (Counter, codes "a")

abbrev gauge_name : NamedKind
gauge_name = (Gauge, codes "g")

of_increments : (named : NamedKind) → Names plain_plan named increments → counter_name ≡ named
of_increments named (e, (zero, low, at), is) = some_same counter_name named (ap (λ (x : Event). named_by plain_plan x) at ∙ is)
of_increments named (e, (suc zero, low, at), is) = some_same counter_name named (ap (λ (x : Event). named_by plain_plan x) at ∙ is)
of_increments named (e, (suc (suc i), low, at), is) = absurd (omega (arith, low))

of_moves : (named : NamedKind) → Names plain_plan named gauge_moves → gauge_name ≡ named
of_moves named (e, (zero, low, at), is) = some_same gauge_name named (ap (λ (x : Event). named_by plain_plan x) at ∙ is)
of_moves named (e, (suc zero, low, at), is) = some_same gauge_name named (ap (λ (x : Event). named_by plain_plan x) at ∙ is)
of_moves named (e, (suc (suc zero), low, at), is) = some_same gauge_name named (ap (λ (x : Event). named_by plain_plan x) at ∙ is)
of_moves named (e, (suc (suc (suc i)), low, at), is) = absurd (omega (arith, low))

no_counter : (named : NamedKind) → counter_name ≡ named → has_order named.0 ≡ true → ⊥
no_counter named is order = true_false (sym order ∙ ap (λ (n : NamedKind). has_order n.0) (sym is))

pub three_independent : ThreeIndependent
three_independent = record {
  room = room;
  apart = pairs;
  no_flush = refl;
  no_read = refl;
} where
  room : HasRoomForAll plain_plan (increments ∷ increments ∷ gauge_moves ∷ [])
  room = record {
    no_scopes = ((refl, (refl, tt)), ((refl, (refl, tt)), ((refl, (refl, (refl, tt))), tt)));
    names = counter_name ∷ gauge_name ∷ [];
    all_named = (
      (λ named has. (0, omega arith, of_increments named has)),
      ((λ named has. (0, omega arith, of_increments named has)), ((λ named has. (1, omega arith, of_moves named has)), tt)),
    );
    few = omega arith;
    few_histograms = omega arith;
  }

  pairs : (i j : ℕ) (d : List Event) → i < j → j < 3 → (named : NamedKind) → has_order named.0 ≡ true → Names plain_plan named (slice_index_or (increments ∷ increments ∷ gauge_moves ∷ []) i d)
      → Names plain_plan named (slice_index_or (increments ∷ increments ∷ gauge_moves ∷ []) j d) → ⊥
  pairs zero j d below within named order one other = no_counter named (of_increments named one) order
  pairs (suc zero) j d below within named order one other = no_counter named (of_increments named one) order
  pairs (suc (suc i)) j d below within named order one other = absurd (omega (arith, below, within))
