-- What is known of a pattern holds of its machine, and a search may then leave places out.
use Rattle.std.proofs.Common.{◌≡◌, ℕ, ◌+◌, ◌<◌, ◌≤◌, List, [], All, None, Some, length, sym, ap, ◌∙◌, arith, inl, inr, Vec, Global, Fits, w8, get_or}
use Rattle.std.specs.Prelude.{slice_index}
use Rattle.std.proofs.lemmas.List.Elements.{All-map, All-from_get_or}
use Rattle.regex_hir.specs.Re.{Re, Rest, Trace, accept}
use Rattle.regex_hir.specs.Find.{first_between}
use Rattle.regex_hir.proofs.AttemptLemmas.{attempt_sound}
use Rattle.regex_hir.proofs.FindLemmas.{first_between_none, first_between_of_IsFirst, IsFirst-of_first_between, none_of_first_between}
use Rattle.regex_hir.proofs.OptionLemmas.{option_cases, none_of_no_value}
use Rattle.regex_compile.specs.Implements.{Implements}
use Rattle.regex_extract.specs.Needles.{needles_of, StartsWithNeedle}
use Rattle.regex_literal.specs.Find.{OccursAt, needle_at}
use Rattle.regex_nfa.specs.declared.nfa.Nfa.{Nfa}
use Rattle.regex_vm.specs.Found.{first_match}
use Rattle.tag_rules.specs.Starts.{Knows, KnowsRuns, Leads, Narrows}
use Rattle.tag_rules.specs.declared.starts.Starts.{Starts}

pub are_bytes : (hay : List ℕ) → ((i : ℕ) → Fits w8 (get_or hay i 0)) → All (λ b. b < 256) hay
are_bytes hay h = All-from_get_or (λ b. b < 256) hay 0 (λ i _. omega (arith, h i))

-- a machine begins no match where its pattern begins none
pub knows_runs : (starts : Starts) (nfa : Nfa) (re : Re) → Implements nfa re → Knows starts re → KnowsRuns starts nfa
knows_runs starts nfa re same knows hay bytes i t inside e =
    let c = attempt_sound hay re accept i t (sym (same hay i) ∙ e) in
    knows hay bytes i c.at inside c.leads

-- what stands at the front of a needle stands where the needle does
pub front_occurs : (hay needle lead : List ℕ) (i : ℕ) → OccursAt hay needle i → OccursAt needle lead 0 → OccursAt hay lead i
front_occurs hay needle lead i h front = record {
  fits = omega (arith, h.fits, front.fits);
  reads = λ j below.
      let same : j ≡ 0 + j = omega arith in
      h.reads j (omega (arith, front.fits)) ∙ ap (slice_index needle) same ∙ front.reads j below;
}

pub empty_occurs : (hay : List ℕ) (i : ℕ) → i ≤ length hay → OccursAt hay [] i
empty_occurs hay i inside = record { fits = omega (arith, inside); reads = λ j below. absurd (omega (arith, below)) }

pub needles_lead : (needles : Vec (Vec ℕ Global) Global) (lead : List ℕ) (re : Re) → StartsWithNeedle re (needles_of needles) →
    All (λ needle. OccursAt needle.items lead 0) needles.items → Leads lead re
needles_lead needles lead re starts fronts hay bytes i j inside m =
    let found = starts hay bytes i j m in
    front_occurs hay (needle_at (needles_of needles) found.0) lead i found.1.occurs
    (All-map (λ needle. OccursAt needle lead 0) (λ (needle : Vec ℕ Global). needle.items) needles.items fronts found.0 [] found.1.numbered)

-- the leftmost match of some places is that of fewer, where none begins at the others
pub fewer : (at : Rest) (from last low high : ℕ) → from ≤ low → high ≤ last →
    ((i : ℕ) (t : Trace) → from ≤ i → i ≤ last → at i ≡ Some t → (low ≤ i) × (i ≤ high)) →
    first_between at from last ≡ first_between at low high
fewer at from last low high le ge h = elim (option_cases (first_between at from last)) [
  | inl none ↦ none ∙ sym (first_between_none at low high
      (λ i p q. none_of_first_between at from last none i (omega arith) (omega arith)))
  | inr found ↦
      let first = IsFirst-of_first_between at from last found.0 found.1 in
      let within = h found.0.start found.0.trace first.from first.to first.here in
      found.1 ∙ sym (first_between_of_IsFirst at low high found.0 (record {
        from = within.0;
        to = within.1;
        here = first.here;
        before = λ i p q. first.before i (omega arith) q;
      }))
]

module _ (starts : Starts) (nfa : Nfa) (knows : KnowsRuns starts nfa) (hay : List ℕ) (bytes : All (λ b. b < 256) hay) (from : ℕ) where
  pub first_match-none : Narrows starts hay from None → first_match nfa hay (length hay) from (length hay) ≡ None
  first_match-none h = first_between_none _ from (length hay)
      (λ i p q. none_of_no_value _ (λ t e. h i p q (knows hay bytes i t q e)))

  pub first_match-narrow : (low high : ℕ) → Narrows starts hay from (Some (low, high)) →
      first_match nfa hay (length hay) from (length hay) ≡ first_match nfa hay (length hay) low high
  first_match-narrow low high h = fewer _ from (length hay) low high h.0 h.2
      (λ i t p q e. h.3 i p q (knows hay bytes i t q e))
