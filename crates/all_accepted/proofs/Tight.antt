-- Of room files the names can be those of their events alone.
use Rattle.std.proofs.Common.{◌≡◌, ◌&&◌, ◌||◌, ◌≤◌, suc, cond, Bool, true, false, Option, None, Some, List, [], ◌∷◌, ◌++◌, length, refl, ap, sym, ◌∙◌, subst, arith, inl, inr, ◌⊎◌}
use Rattle.std.specs.Prelude.{filter, Contains, count_by}
use Rattle.std.specs.Option.{option_map_or}
use Rattle.std.specs.List.{AllByRecursion, list_any, flat_map}
use Rattle.stat_defs.specs.declared.events.Event.{Event}
use Rattle.stat_defs.specs.declared.ids.Kind.TheVariants.{Histogram}
use Rattle.stat_defs.specs.Keys.{same_text, same_kind}
use Rattle.book_state.proofs.Lists.{true_false, both, count_cons}
use Rattle.ledger.specs.Ledger.{RunPlan}
use Rattle.all_accepted.specs.Admitted.{NamedKind, named_by, Names, names_it, HasRoomForAll}
use Rattle.all_accepted.proofs.InLists.{In, in_list, in_filter}
use Rattle.all_accepted.proofs.States.{same_kind_is}
use Rattle.all_accepted.proofs.Accepted.{text_is}
use Rattle.all_accepted.proofs.Named.{itself}

pub in_contains : {X : Type 0} (xs : List X) (x : X) → In xs x → Contains xs x
in_contains [] x is = absurd is
in_contains (y ∷ xs) x (inl is) = (0, omega arith, is)
in_contains (y ∷ xs) x (inr is) = let rest = in_contains xs x is in let low = rest.1 in (suc rest.0, omega (arith, low), rest.2)

pub any_in : {X : Type 0} (p : X → Bool) (xs : List X) (x : X) → In xs x → p x ≡ true → list_any p xs ≡ true
any_in p [] x is passes = absurd is
any_in {X} p (y ∷ xs) x (inl is) passes = ap (λ (t : Bool). t || list_any p xs) (ap p is ∙ passes)
any_in p (y ∷ xs) x (inr is) passes = by_case (p y) (any_in p xs x is passes) where
  by_case : (t : Bool) → list_any p xs ≡ true → (t || list_any p xs) ≡ true
  by_case true rest = refl
  by_case false rest = rest

pub from_any : {X : Type 0} (p : X → Bool) (xs : List X) → list_any p xs ≡ true → (x : X) × In xs x × (p x ≡ true)
from_any p [] any = absurd (true_false (sym any))
from_any {X} p (y ∷ xs) any = by_case (p y) refl any (from_any p xs) where
  by_case : (t : Bool) → p y ≡ t → (t || list_any p xs) ≡ true → (list_any p xs ≡ true → (x : X) × In xs x × (p x ≡ true)) → (x : X) × In (y ∷ xs) x × (p x ≡ true)
  by_case true is some rest = (y, inl refl, is)
  by_case false is some rest = let there = rest some in (there.0, inr there.1, there.2)

pub in_left : {X : Type 0} (xs ys : List X) (x : X) → In xs x → In (xs ++ ys) x
in_left [] ys x is = absurd is
in_left (z ∷ xs) ys x (inl is) = inl is
in_left (z ∷ xs) ys x (inr is) = inr (in_left xs ys x is)

pub in_right : {X : Type 0} (xs ys : List X) (x : X) → In ys x → In (xs ++ ys) x
in_right [] ys x is = is
in_right (z ∷ xs) ys x is = inr (in_right xs ys x is)

pub in_either : {X : Type 0} (xs ys : List X) (x : X) → In (xs ++ ys) x → In xs x ⊎ In ys x
in_either [] ys x is = inr is
in_either (z ∷ xs) ys x (inl is) = inl (inl is)
in_either (z ∷ xs) ys x (inr is) = elim (in_either xs ys x is) [ inl left ↦ inl (inr left) | inr right ↦ inr right ]

pub in_flat : {X : Type 0} (files : List (List X)) (file : List X) (x : X) → In files file → In file x → In (flat_map (λ (es : List X). es) files) x
in_flat [] file x is has = absurd is
in_flat {X} (es ∷ files) file x (inl is) has = in_left es (flat_map (λ (l : List X). l) files) x (subst (λ (l : List X). In l x) (sym is) has)
in_flat {X} (es ∷ files) file x (inr is) has = in_right es (flat_map (λ (l : List X). l) files) x (in_flat files file x is has)

-- a name of an event, and the other way round
pub names_is : (plan : RunPlan) (n : NamedKind) (e : Event) → names_it plan n e ≡ true → named_by plan e ≡ Some n
names_is plan n e it = by_name (named_by plan e) refl it where
  by_name : (o : Option NamedKind) → named_by plan e ≡ o → option_map_or (λ (m : NamedKind). same_kind n.0 m.0 && same_text n.1 m.1) o false ≡ true → named_by plan e ≡ Some n
  by_name None is same = absurd (true_false (sym same))
  by_name (Some m) is same =
      let parts = both (same_kind n.0 m.0) (same_text n.1 m.1) same in
      let kind = same_kind_is n.0 m.0 parts.0 in
      let name = text_is n.1 m.1 parts.1 in
      is ∙ (λ i. Some (sym kind i, sym name i))

pub names_some : (plan : RunPlan) (n : NamedKind) (e : Event) → named_by plan e ≡ Some n → names_it plan n e ≡ true
names_some plan n e is = ap (λ (o : Option NamedKind). option_map_or (λ (m : NamedKind). same_kind n.0 m.0 && same_text n.1 m.1) o false) is ∙ itself n

fewer : {X : Type 0} (p : X → Bool) (xs : List X) → length (filter p xs) ≤ length xs
fewer p [] = omega arith
fewer {X} p (x ∷ xs) = by_case (p x) (fewer p xs) where
  by_case : (t : Bool) → length (filter p xs) ≤ length xs → length (cond t (x ∷ filter p xs) (filter p xs)) ≤ suc (length xs)
  by_case true rest = omega (arith, rest)
  by_case false rest = omega (arith, rest)

fewer_counted : {X : Type 0} (q p : X → Bool) (xs : List X) → count_by q (filter p xs) ≤ count_by q xs
fewer_counted q p [] = omega arith
fewer_counted {X} q p (x ∷ xs) = by_case (p x) (fewer_counted q p xs) where
  by_case : (t : Bool) → count_by q (filter p xs) ≤ count_by q xs → count_by q (cond t (x ∷ filter p xs) (filter p xs)) ≤ count_by q (x ∷ xs)
  by_case true rest = let one = count_cons q x (filter p xs) in let other = count_cons q x xs in omega (arith, rest, one, other)
  by_case false rest = let other = count_cons q x xs in omega (arith, rest, other)

-- all events of the files
abbrev pub all_events : List (List Event) → List Event
all_events events = flat_map (λ (es : List Event). es) events

module _ (plan : RunPlan) (events : List (List Event)) (room : HasRoomForAll plan events) where
  abbrev is_used : NamedKind → Bool
  is_used n = list_any (names_it plan n) (all_events events)

  tight_file : (file : List Event) → In events file → ((named : NamedKind) → Names plan named file → Contains room.names named)
      → (named : NamedKind) → Names plan named file → Contains (filter is_used room.names) named
  tight_file file is all named has =
      in_contains (filter is_used room.names) named
      (in_filter is_used room.names named (in_list room.names named (all named has))
      (any_in (names_it plan named) (all_events events) has.0 (in_flat events file has.0 is (in_list file has.0 has.1)) (names_some plan named has.0 has.2)))

  tight_files : (files : List (List Event)) → ((file : List Event) → In files file → In events file)
      → AllByRecursion (λ file. (named : NamedKind) → Names plan named file → Contains room.names named) files
      → AllByRecursion (λ file. (named : NamedKind) → Names plan named file → Contains (filter is_used room.names) named) files
  tight_files [] within all = tt
  tight_files (file ∷ files) within all = (tight_file file (within file (inl refl)) all.0, tight_files files (λ other is. within other (inr is)) all.1)

  pub tight : HasRoomForAll plan events
  tight = record {
    no_scopes = room.no_scopes;
    names = filter is_used room.names;
    all_named = tight_files events (λ file is. is) room.all_named;
    few = let less = fewer is_used room.names in let few = room.few in omega (arith, less, few);
    few_histograms = let less = fewer_counted (λ (named : NamedKind). same_kind named.0 Histogram) is_used room.names in let few = room.few_histograms in omega (arith, less, few);
  }

  passes_filter : {X : Type 0} (p : X → Bool) (xs : List X) (x : X) → In (filter p xs) x → p x ≡ true
  passes_filter p [] x is = absurd is
  passes_filter {X} p (y ∷ xs) x is = by_case (p y) refl is (passes_filter p xs x) where
    by_case : (t : Bool) → p y ≡ t → In (cond t (y ∷ filter p xs) (filter p xs)) x → (In (filter p xs) x → p x ≡ true) → p x ≡ true
    by_case true passes (inl here) rest = ap p (sym here) ∙ passes
    by_case true passes (inr there) rest = rest there
    by_case false passes there rest = rest there

  -- each of them is the name of an event
  pub tight_named : (n : NamedKind) → In tight.names n → (e : Event) × In (all_events events) e × (named_by plan e ≡ Some n)
  unfolding tight
  tight_named n is =
      let some = from_any (names_it plan n) (all_events events) (passes_filter is_used room.names n is) in
      (some.0, some.1, names_is plan n some.0 some.2)
