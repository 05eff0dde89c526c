-- The metrics of room files are those that their events name.
use Rattle.std.proofs.Common.{◌≡◌, Option, Some, IsSome, List, [], ◌∷◌, length, refl, ap, sym, ◌∙◌, subst, inl, inr}
use Rattle.std.specs.List.{AllByRecursion, flat_map}
use Rattle.stat_defs.specs.declared.events.Event.{Event}
use Rattle.stat_defs.specs.declared.reports.Report.{Report}
use Rattle.book_state.specs.Log.{replay}
use Rattle.ledger.specs.Ledger.{RunPlan}
use Rattle.ledger.specs.Work.{Work, events_in}
use Rattle.all_accepted.specs.Admitted.{NamedKind, named_by, HasRoomForAll}
use Rattle.all_accepted.proofs.InLists.{In, all_in}
use Rattle.all_accepted.proofs.States.{pairs_in}
use Rattle.all_accepted.proofs.Accepted.{IsTaken}
use Rattle.all_accepted.proofs.Named.{IsNamed, in_at}
use Rattle.all_accepted.proofs.Tight.{in_either}
use Rattle.all_accepted.proofs.Runs.{IsSettledReport}

module _ (plan : RunPlan) (events : List (List Event)) (room : HasRoomForAll plan events) where
  abbrev AllNamed : List NamedKind → Work → Type 0
  AllNamed all work = AllByRecursion (λ told. IsNamed plan events room all told.0 told.1) work

  abbrev AllTaken : Work → Type 0
  AllTaken work = AllByRecursion (λ told. IsTaken plan events room told.0 told.1) work

  in_work : (all : List NamedKind) (n : NamedKind) (e : Event) (work : Work) → AllNamed all work → AllTaken work → In (events_in work) e → named_by plan e ≡ Some n → In all n
  in_work all n e [] named taken is names = absurd is
  in_work all n e (told ∷ work) named taken (inl same) names =
      let name : named_by plan told.0 ≡ Some n = ap (λ (x : Event). named_by plan x) same ∙ names in
      let accepted = taken.0 (subst (λ (o : Option NamedKind). IsSome o) (sym name) refl) in
      let at = named.0.0 accepted.0 accepted.1 in
      in_at all accepted.0.0 n (at.0 ∙ name)
  in_work all n e (told ∷ work) named taken (inr there) names = in_work all n e work named.1 taken.1 there names

  in_works : (all : List NamedKind) (n : NamedKind) (e : Event) (works : List Work) → AllByRecursion (AllNamed all) works → AllByRecursion AllTaken works
      → In (flat_map events_in works) e → named_by plan e ≡ Some n → In all n
  in_works all n e [] named taken is names = absurd is
  in_works all n e (work ∷ works) named taken is names = elim (in_either (events_in work) (flat_map events_in works) e is) [
    | inl here ↦ in_work all n e work named.0 taken.0 here names
    | inr there ↦ in_works all n e works named.1 taken.1 there names
  ]

  -- an event of these has this name
  abbrev pub IsUsed : List Event → NamedKind → Type 0
  IsUsed es n = (e : Event) × In es e × (named_by plan e ≡ Some n)

  module _ (from : (n : NamedKind) → In room.names n → IsUsed (flat_map (λ (es : List Event). es) events) n) (works : List Work) (report : Report)
      (p : IsSettledReport plan events room works report) (flat : flat_map events_in works ≡ flat_map (λ (es : List Event). es) events) where
    abbrev pairs : List NamedKind
    pairs = pairs_in (replay plan.rules (length works) report.log)

    pub used_made : (n : NamedKind) → IsUsed (flat_map (λ (es : List Event). es) events) n → In pairs n
    used_made n used = in_works pairs n used.0 works p.named p.taken (subst (λ (es : List Event). In es used.0) (sym flat) used.1) used.2

    pub made_used : (n : NamedKind) → In pairs n → IsUsed (flat_map (λ (es : List Event). es) events) n
    made_used n is = from n (all_in (In room.names) pairs n p.state.named is)
