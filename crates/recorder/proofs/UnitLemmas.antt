-- The units of one event.
use Rattle.std.proofs.Common.{◌≡◌, ◌⊎◌, ℕ, ◌+◌, ◌≤◌, ◌^◌, ◌==◌, Bool, true, false, cond, Option, Some, None, slice_get, refl, subst, arith, inl, inr}
use Rattle.std.specs.Option.{IsSomeAnd}
use Rattle.std.proofs.lemmas.Bool.{eqb-true}
use Rattle.stat_defs.specs.Events.{IsLawfulEvent}
use Rattle.stat_defs.specs.declared.events.Event.{Event}
use Rattle.stat_defs.specs.declared.events.Event.TheVariants as event
use Rattle.stat_defs.specs.declared.ids.Kind.TheVariants as kind
use Rattle.stat_defs.specs.declared.history.Verdict.{Verdict}
use Rattle.stat_defs.specs.declared.history.Verdict.TheVariants as verdict
use Rattle.book_state.specs.State.{State, Row, is_gone}
use Rattle.book_seat.specs.Naming.{NamesOwn}
use Rattle.ledger.specs.Work.{units_in}
use Rattle.recorder.specs.RecorderKept.{IsCounterIn}

cond_few : (b : Bool) (n most : ℕ) → n ≤ most → cond b n 0 ≤ most
cond_few true n most few = few
cond_few false n most few = omega arith

pub units_small : (id : ℕ) (e : Event) (v : Verdict) → IsLawfulEvent e → units_in id (e, v) ≤ 2 ^ 32
units_small id (event.Inc label name n) (verdict.Accepted given) lawful = let few = lawful.2 in cond_few (given.0 == id) n (2 ^ 32) (omega (arith, few))
units_small id (event.Inc label name n) (verdict.Opened m) lawful = omega arith
units_small id (event.Inc label name n) (verdict.Released m) lawful = omega arith
units_small id (event.Inc label name n) verdict.LabelTaken lawful = omega arith
units_small id (event.Inc label name n) verdict.NoScope lawful = omega arith
units_small id (event.Inc label name n) verdict.Rejected lawful = omega arith
units_small id (event.Inc label name n) verdict.OverLimit lawful = omega arith
units_small id (event.Inc label name n) verdict.NoRoom lawful = omega arith
units_small id (event.Gauge label name mode op n) v lawful = omega arith
units_small id (event.Rec label name n) v lawful = omega arith
units_small id (event.SetText label name text) v lawful = omega arith
units_small id (event.OpenScope label prefix) v lawful = omega arith
units_small id (event.Release label) v lawful = omega arith

-- none of a number that is no counter's
pub units_named : (s : State) (id : ℕ) (e : Event) (v : Verdict) → NamesOwn s e v → (units_in id (e, v) ≡ 0) ⊎ IsCounterIn s id
units_named s id (event.Inc label name n) (verdict.Accepted given) names = by_number (given.0 == id) refl where
  counter : (o : Option Row) → IsSomeAnd o (λ row. (row.metric.kind ≡ kind.Counter) × (is_gone row.metric.life ≡ false)) → IsSomeAnd o (λ row. row.metric.kind ≡ kind.Counter)
  counter None is = is
  counter (Some row) is = is.0

  by_number : (t : Bool) → (given.0 == id) ≡ t → (cond t n 0 ≡ 0) ⊎ IsCounterIn s id
  by_number true same = inr (subst (λ (k : ℕ). IsCounterIn s k) (eqb-true given.0 id same) (counter (slice_get s.metrics given.0) names))
  by_number false other = inl refl
units_named s id (event.Inc label name n) (verdict.Opened m) names = inl refl
units_named s id (event.Inc label name n) (verdict.Released m) names = inl refl
units_named s id (event.Inc label name n) verdict.LabelTaken names = inl refl
units_named s id (event.Inc label name n) verdict.NoScope names = inl refl
units_named s id (event.Inc label name n) verdict.Rejected names = inl refl
units_named s id (event.Inc label name n) verdict.OverLimit names = inl refl
units_named s id (event.Inc label name n) verdict.NoRoom names = inl refl
units_named s id (event.Gauge label name mode op n) v names = inl refl
units_named s id (event.Rec label name n) v names = inl refl
units_named s id (event.SetText label name text) v names = inl refl
units_named s id (event.OpenScope label prefix) v names = inl refl
units_named s id (event.Release label) v names = inl refl

-- what was added to a number with these units more
pub added_to : {C C' : Type 0} (before units after : ℕ) → after ≡ before + units → (units ≡ 0) ⊎ C' → (before ≡ 0) ⊎ C → (C → C') → (after ≡ 0) ⊎ C'
added_to before units after sum (inr counter) was stays = inr counter
added_to before units after sum (inl none) (inl never) stays = inl (omega (arith, sum, none, never))
added_to before units after sum (inl none) (inr counter) stays = inr (stays counter)

-- and with none more
pub still_added : {C C' : Type 0} (before after : ℕ) → after ≡ before → (before ≡ 0) ⊎ C → (C → C') → (after ≡ 0) ⊎ C'
still_added before after same was stays = added_to before 0 after (omega (arith, same)) (inl refl) was stays
