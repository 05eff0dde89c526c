-- The words of gauges, and what is told of the last one where one worker at most moves it.
use Rattle.std.proofs.Common.{◌≡◌, ℕ, ◌+◌, ◌-◌, ◌≤◌, ◌%◌, ◌^◌, ◌&&◌, cond, not, Bool, true, false, Option, None, Some, List, [], ◌∷◌, ◌++◌, length, refl, ap, sym, ◌∙◌, subst, arith, append-nil}
use native.Mathlib.Nat.{mod-add-mod}
use Rattle.std.specs.Prelude.{fold, filter_map, sum_by, is_some, option_to_list, Contains}
use Rattle.std.specs.List.{list_all}
use Rattle.std.proofs.lemmas.List.Sums.{sum_by-cons, fold-append}
use Rattle.std.proofs.lemmas.List.Elements.{filter_map-append}
use Rattle.stat_defs.specs.declared.events.GaugeOp.TheVariants.{Add, Sub, Set}
use Rattle.stat_defs.specs.declared.events.Event.{Event}
use Rattle.stat_defs.specs.declared.history.Verdict.{Verdict}
use Rattle.book_state.proofs.Lists.{some_same, not_some, true_false, both}
use Rattle.ledger.specs.Work.{Work}
use Rattle.ledger.specs.Gauges.{GaugeMove, move_in, moves_of, movers, all_moves, word_after, word_of_moves, gauge_word, is_empty, is_set, added_by, last_set, IsLastWord, GaugeFits}
use Rattle.ledger.specs.Laws.{word_after_any}

pub one_option : {X Y : Type 0} (h : X → Option Y) (xs : List X) (x : X) → filter_map h (xs ++ x ∷ []) ≡ filter_map h xs ++ option_to_list (h x)
one_option {X} {Y} h xs x = filter_map-append h xs (x ∷ []) ∙ ap (λ (l : List Y). filter_map h xs ++ l) (by_case (h x)) where
  by_case : (o : Option Y) → filter_map (λ (u : X). o) (x ∷ []) ≡ option_to_list o
  by_case None = refl
  by_case (Some y) = refl

pub word_event : (id : ℕ) (work : Work) (told : Event × Verdict) → gauge_word id (work ++ told ∷ []) ≡ word_after_any (gauge_word id work) (move_in id told)
word_event id work told =
    ap (λ (l : List GaugeMove). fold word_after 0 l) (one_option (move_in id) work told)
    ∙ fold-append word_after 0 (moves_of id work) (option_to_list (move_in id told))
    ∙ by_case (move_in id told) where
      by_case : (o : Option GaugeMove) → fold word_after (gauge_word id work) (option_to_list o) ≡ word_after_any (gauge_word id work) o
      by_case None = refl
      by_case (Some m) = refl

step_sum : (a : ℕ) (m : GaugeMove) → not (is_set m) ≡ true → word_after (a % 2 ^ 64) m ≡ (a + added_by m) % 2 ^ 64
step_sum a (Add, n) none = mod-add-mod a (2 ^ 64) n
step_sum a (Sub, n) none = mod-add-mod a (2 ^ 64) (2 ^ 64 - n)
step_sum a (Set, n) none = absurd (true_false (sym none))

sums : (a : ℕ) (ms : List GaugeMove) → list_all (λ m. not (is_set m)) ms ≡ true → fold word_after (a % 2 ^ 64) ms ≡ (a + sum_by added_by ms) % 2 ^ 64
sums a [] none = ap (λ (k : ℕ). k % 2 ^ 64) (omega arith)
sums a (m ∷ ms) none =
    let parts = both (not (is_set m)) (list_all (λ m. not (is_set m)) ms) none in
    let e : a + added_by m + sum_by added_by ms ≡ a + sum_by added_by (m ∷ ms) = let c = sum_by-cons added_by m ms in omega (arith, c) in
    ap (λ (w : ℕ). fold word_after w ms) (step_sum a m parts.0) ∙ sums (a + added_by m) ms parts.1 ∙ ap (λ (k : ℕ). k % 2 ^ 64) e

last_word : (w : ℕ) (m : GaugeMove) (ms : List GaugeMove) (n : ℕ) → last_set (m ∷ ms) ≡ Some n → fold word_after w (m ∷ ms) ≡ n
last_word w (Set, k) [] n e = some_same k n e
last_word w (Add, k) [] n e = absurd (not_some n e)
last_word w (Sub, k) [] n e = absurd (not_some n e)
last_word w m (next ∷ ms) n e = last_word (word_after w m) next ms n e

last_of : (ms : List GaugeMove) (n : ℕ) → last_set ms ≡ Some n → word_of_moves ms ≡ n
last_of [] n e = absurd (not_some n e)
last_of (m ∷ ms) n e = last_word 0 m ms n e

contains_last : (o : Option ℕ) (ms : List GaugeMove) (word : ℕ) → ((n : ℕ) → o ≡ Some n → word ≡ n) → (is_some o && true) ≡ true
    → Contains (filter_map (λ (l : List GaugeMove). o) (ms ∷ [])) word
contains_last None ms word is some = absurd (true_false (sym some))
contains_last (Some n) ms word is some = (0, omega arith, sym (is n refl))

zero_add : (k : ℕ) → 0 + k ≡ k
zero_add k = omega arith

alone_by : (by : List (List GaugeMove)) → length by ≤ 1 → IsLastWord by (word_of_moves (all_moves by))
alone_by [] one = record { no_set = λ none. refl; one_mover = λ one. refl; last_sets = λ some all. absurd (omega (arith, some)) }
alone_by (ms ∷ (ns ∷ by)) one = absurd (omega (arith, one))
alone_by (ms ∷ []) one =
    let same : ms ++ [] ≡ ms = append-nil ms in record {
      no_set = λ none.
          ap word_of_moves same
          ∙ sums 0 ms (subst (λ (l : List GaugeMove). list_all (λ m. not (is_set m)) l ≡ true) same none)
          ∙ ap (λ (k : ℕ). k % 2 ^ 64) (zero_add (sum_by added_by ms))
          ∙ ap (λ (l : List GaugeMove). sum_by added_by l % 2 ^ 64) (sym same);
      one_mover = λ one. refl;
      last_sets = λ some all. contains_last (last_set ms) ms (word_of_moves (ms ++ [])) (λ n e. ap word_of_moves same ∙ last_of ms n e) all;
    }

pub alone : (id : ℕ) (workers : List Work) → length (movers id workers) ≤ 1 → GaugeFits id (word_of_moves (all_moves (movers id workers))) workers
alone id workers one = alone_by (movers id workers) one

pub one_mover : (id : ℕ) (work : Work) → length (movers id (work ∷ [])) ≤ 1
one_mover id work = by_case (moves_of id work) (not (is_empty (moves_of id work))) where
  by_case : (ms : List GaugeMove) (t : Bool) → length (cond t (ms ∷ []) []) ≤ 1
  by_case ms true = omega arith
  by_case ms false = omega arith

pub moves_alone : (id : ℕ) (work : Work) → all_moves (movers id (work ∷ [])) ≡ moves_of id work
moves_alone id work = by_case (moves_of id work) where
  by_case : (ms : List GaugeMove) → all_moves (cond (not (is_empty ms)) (ms ∷ []) []) ≡ ms
  by_case [] = refl
  by_case (m ∷ ms) = append-nil (m ∷ ms)

pub one_worker : (id : ℕ) (work : Work) → GaugeFits id (gauge_word id work) (work ∷ [])
one_worker id work = subst (λ (ms : List GaugeMove). GaugeFits id (word_of_moves ms) (work ∷ [])) (moves_alone id work) (alone id (work ∷ []) (one_mover id work))
