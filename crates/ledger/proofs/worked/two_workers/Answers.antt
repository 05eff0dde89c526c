use Rattle.std.proofs.Common.{◌≡◌, ℕ, zero, suc, ◌+◌, ◌<◌, ◌≤◌, List, [], ◌∷◌, take, drop, refl, sym, inl, inr, ◌⊎◌, arith}
use Rattle.std.specs.Fmt.{digits}
use Rattle.std.specs.Prelude.{codes, Contains, slice_index, slice_index_or}
use Rattle.std.specs.List.Sorted.{IsStrictlyIncreasing, IsNonDecreasing}
use Rattle.stat_defs.specs.declared.events.Event.TheVariants as event
use Rattle.stat_defs.specs.declared.events.GaugeOp.TheVariants.{Set}
use Rattle.stat_defs.specs.declared.reports.FileEnd.TheVariants as file
use Rattle.event_script.specs.FileEvents.{AreEventsOf}
use Rattle.book_state.specs.Log.{empty, Legal}
use Rattle.book_state.specs.Follows.{Own, own, Follows}
use Rattle.book_state.specs.Worked.{plain, root_alone}
use Rattle.book_state.proofs.Computed.{drawn_all}
use Rattle.book_state.proofs.Lists.{true_false}
use Rattle.book_state.proofs.WorkedParts.{legal_log, link}
use Rattle.ledger.specs.Worked.{file_of, accepted, first_of_two, second_of_two, sets, log_of_two, of_two, IsLedgerOfTwo}
use Rattle.ledger.proofs.WorkedParts.{read_whole, rec_7, inc_a, moves_g, one_part, no_parts, one_nothing, nothing_of_two}
use Rattle.ledger.proofs.worked.two_workers.Goals as goal

made_by : ℕ → ℕ → List Own
made_by seat from = take 1 (drop from (own plain seat (empty 2) log_of_two))

first : Follows plain 2 1 first_of_two (accepted 0 ∷ accepted 1 ∷ accepted 2 ∷ []) log_of_two
unfolding made_by
first = record {
  entries = _;
  of_events = record {
    applied = link (sets 5) (accepted 2) (made_by 1 2) ∷ link (event.Inc (codes "root") (codes "a") 3) (accepted 1) (made_by 1 1) ∷ link (event.Rec (codes "root") (codes "h") 7) (accepted 0) (made_by 1 0) ∷ [];
    chain = (((tt, inl (omega arith, (refl, refl, refl))), inl (omega arith, (refl, refl, refl))), inl (omega arith, (refl, refl, refl)));
    events_are = refl;
    verdicts_are = refl;
    entries_are = refl;
  };
  last = _;
  ends = refl;
  own_are = refl;
}

second : Follows plain 2 2 second_of_two (accepted 1 ∷ accepted 2 ∷ []) log_of_two
unfolding made_by
second = record {
  entries = _;
  of_events = record {
    applied = link (sets 9) (accepted 2) (made_by 2 1) ∷ link (event.Inc (codes "root") (codes "a") 4) (accepted 1) (made_by 2 0) ∷ [];
    chain = ((tt, inl (omega arith, (refl, refl, refl))), inl (omega arith, (refl, refl, refl)));
    events_are = refl;
    verdicts_are = refl;
    entries_are = refl;
  };
  last = _;
  ends = refl;
  own_are = refl;
}

legal : Legal plain root_alone 2 log_of_two
legal = legal_log 2 _ refl (
  (inl refl, refl, refl),
  (
    ((refl, refl), (refl, drawn_all [] (codes "h" ∷ []) (1 ∷ []) refl)),
    (
      (refl, refl),
      (
        ((refl, refl), (refl, drawn_all ((codes "h", 1) ∷ []) (codes "a" ∷ []) (2 ∷ []) refl)),
        (
          ((refl, refl), refl),
          (
            ((refl, refl), (refl, drawn_all ((codes "h", 1) ∷ (codes "a", 2) ∷ []) (codes "g" ∷ []) (3 ∷ []) refl)),
            (((refl, refl), refl), ((refl, tt), ((refl, tt), ((refl, refl), tt)))),
          ),
        ),
      ),
    ),
  ),
)

two_rise : IsStrictlyIncreasing (2 ∷ 9 ∷ [])
two_rise = λ k within. by_place k (omega (arith, within)) where
  by_place : (k : ℕ) → k < 1 → slice_index (2 ∷ 9 ∷ []) k < slice_index (2 ∷ 9 ∷ []) (k + 1)
  by_place zero low = omega arith
  by_place (suc k) low = absurd (omega (arith, low))

one_falls : (n : ℕ) → IsNonDecreasing (n ∷ [])
one_falls n = λ i j d below within. by_place i j d below within where
  by_place : (i j d : ℕ) → i ≤ j → j < 1 → slice_index_or (n ∷ []) i d ≤ slice_index_or (n ∷ []) j d
  by_place zero zero d below within = omega arith
  by_place i (suc j) d below within = absurd (omega (arith, within))
  by_place (suc i) zero d below within = absurd (omega (arith, below))

one_of_both : (m n k : ℕ) → Contains (m ∷ n ∷ []) k → (k ≡ m) ⊎ (k ≡ n)
one_of_both m n k in_list = by_place in_list.0 in_list.1 in_list.2 where
  by_place : (i : ℕ) → i < 2 → slice_index_or (m ∷ n ∷ []) i k ≡ k → (k ≡ m) ⊎ (k ≡ n)
  by_place zero below e = inl (sym e)
  by_place (suc zero) below e = inr (sym e)
  by_place (suc (suc i)) below e = absurd (omega (arith, below))

first_read : AreEventsOf (file_of first_of_two) file.Whole 0 first_of_two
unfolding digits
first_read = read_whole first_of_two (rec_7, (inc_a 3 (omega arith) refl, (moves_g Set 5 (omega arith) refl, tt))) refl refl

second_read : AreEventsOf (file_of second_of_two) file.Whole 0 second_of_two
unfolding digits
second_read = read_whole second_of_two (inc_a 4 (omega arith) refl, (moves_g Set 9 (omega arith) refl, tt)) refl refl

ledger : (word shown : ℕ) → Contains (5 ∷ 9 ∷ []) word → shown ≤ 7 → IsLedgerOfTwo (of_two word shown)
ledger word shown set_last most = record {
  read = record { an_end_each = refl; verdicts_each = refl; a_verdict_each = refl; read = (first_read, (second_read, tt)); counted = (refl, (refl, tt)) };
  history = record { legal = legal; follows = (first, (second, tt)) };
  swept = record { number = refl; sweeps = refl; rising = two_rise; ended = refl };
  account = record {
    flushes = (
      record { sweep = refl; deltas = refl; gauges = refl; parts = one_part ([] ∷ []) one_nothing },
      (record { sweep = refl; deltas = refl; gauges = refl; parts = no_parts ([] ∷ ([] ∷ [])) nothing_of_two }, tt),
    );
    units = (refl, tt);
    values = (refl, (refl, tt));
    words = (record { no_set = λ none. absurd (true_false (sym none)); one_mover = λ one. absurd (omega (arith, one)); last_sets = λ some all. set_last }, tt);
  };
  shown = record {
    number = refl;
    never_falls = one_falls 5;
    each = (record { within = omega arith; counters = refl; gauges = refl; at_most = (most, tt) }, tt);
    rising = λ i j d below within. absurd (omega (arith, below, within));
  };
}

pub returns : goal.returns
returns c = record {
  first_set_last = ledger 5 3 (0, omega arith, refl) (omega arith);
  second_set_last = ledger 9 0 (1, omega arith, refl) (omega arith);
  no_other_word = λ word shown l. one_of_both 5 9 word (l.account.words.0.last_sets (omega arith) refl);
  not_above = λ word shown l. l.shown.each.0.at_most.0;
}
