-- What a find comes to, and what is told of it.
use Rattle.std.proofs.Common.{◌≡◌, ℕ, ◌<◌, nat_le, Bool, true, false, Option, Some, None, List, length, refl, ap, sym, arith}
use Rattle.std.proofs.lemmas.Bool.Decides.{nat_tests}
use Rattle.stat_defs.specs.Books.{BookHistory}
use Rattle.stat_defs.specs.declared.events.Key.{Key}
use Rattle.tag_rules.specs.Admission.{admits}
use Rattle.book_state.specs.declared.limits.TheConstants.{MAX_METRICS}
use Rattle.book_state.specs.State.{live_scope, known}
use Rattle.book_state.specs.Finding.{Outcome, New, first_case, is_full, is_over_limit, name_of}
use Rattle.stat_book.specs.Calls.{name_rules, rules_of, state_of}
use Rattle.stat_book.specs.Finds.{outcome_in}

pub admits_are : (book : BookHistory) (name : List ℕ) → (rules_of book).admits name ≡ admits book.config.matcher name
unfolding name_rules
admits_are book name = refl

-- the five columns of the table
pub decided : (book : BookHistory) (key : Key) (scope : ℕ) (admitted : Bool) (found : Option ℕ) (full over : Bool) → live_scope (state_of book) key.label ≡ Some scope
    → admitted ≡ (rules_of book).admits (name_of (state_of book) key) → found ≡ known (state_of book) key.kind (name_of (state_of book) key)
    → full ≡ is_full (state_of book) → over ≡ is_over_limit (state_of book) key.kind
    → first_case (Some scope) admitted found full over ≡ outcome_in book key
decided book key scope admitted found full over live a k f o = λ i. first_case (sym live i) (a i) (k i) (f i) (o i)

abbrev makes_none : Outcome → Bool
makes_none New = false
makes_none _ = true

room_if_new : (o : Option ℕ) (a : Bool) (k : Option ℕ) (full over : Bool) → makes_none (first_case o a k full over) ≡ false → full ≡ false
room_if_new None a k full over e = absurd cc
room_if_new (Some scope) false k full over e = absurd cc
room_if_new (Some scope) true (Some i) full over e = absurd cc
room_if_new (Some scope) true None true over e = absurd cc
room_if_new (Some scope) true None false over e = refl

not_full : (m n : ℕ) → nat_le m n ≡ false → n < m
not_full m n e = grind (arith, nat_tests)

-- one more metric may be made
pub new_room : (book : BookHistory) (key : Key) → outcome_in book key ≡ New → length (state_of book).metrics < MAX_METRICS
new_room book key new =
    let s = state_of book in let rules = rules_of book in
    not_full MAX_METRICS (length s.metrics)
    (room_if_new (live_scope s key.label) (rules.admits (name_of s key)) (known s key.kind (name_of s key)) (is_full s) (is_over_limit s key.kind) (ap makes_none new))
