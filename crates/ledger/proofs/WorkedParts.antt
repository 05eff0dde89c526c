-- What the proofs of the worked reports share.
use Rattle.std.proofs.Common.{◌≡◌, ◌<◌, ◌≤◌, ◌^◌, ℕ, zero, suc, ◌≢◌, nat_le, Bool, true, cond, map, List, [], ◌∷◌, ◌++◌, length, drop, not, get_or, refl, ap, sym, inl, arith}
use Rattle.std.specs.Prelude.{codes, count_by, AllPairs}
use Rattle.std.specs.List.{AllByRecursion, list_all}
use Rattle.std.specs.Fmt.{digits}
use Rattle.std.specs.List.Sorted.{IsStrictlyIncreasing, IsNonDecreasing}
use Rattle.std.proofs.lemmas.Bool.{leb-true}
use Rattle.std.proofs.lemmas.List.Elements.{All-from_recursion}
use Rattle.stat_defs.specs.declared.bins.BinCount.{BinCount}
use Rattle.stat_defs.specs.declared.events.Event.{Event}
use Rattle.stat_defs.specs.declared.events.Event.TheVariants as event
use Rattle.stat_defs.specs.declared.events.GaugeOp.{GaugeOp}
use Rattle.stat_defs.specs.declared.ids.Mode.TheVariants.{Accumulate}
use Rattle.stat_defs.specs.declared.reports.FileEnd.TheVariants as file
use Rattle.stat_defs.specs.declared.history.Entry.{Entry}
use Rattle.stat_defs.specs.declared.history.Verdict.{Verdict}
use Rattle.stat_defs.specs.declared.reports.FlushRecord.{FlushRecord}
use Rattle.stat_defs.specs.declared.reports.Part.{Part}
use Rattle.stat_defs.specs.declared.reports.Report.{Report}
use Rattle.stat_defs.specs.Names.{IsLabel, IsLocalName}
use Rattle.stat_defs.specs.Events.{IsReadout}
use Rattle.loglinear_bins.specs.Bins.{bin_of_value}
use Rattle.loglinear_bins.specs.Counts.{bins_of}
use Rattle.merge_round.specs.Halves.{bins_by}
use Rattle.merge_round.specs.Rounds.{ArePartsOf}
use Rattle.event_script.specs.declared.limits.TheConstants.{MAX_FILE_BYTES, MAX_EVENTS, MAX_LINE_BYTES}
use Rattle.event_script.specs.Grammar.{IsLineOf, IsLawful, given_prefix, given_for, line_for, lines_for}
use Rattle.event_script.specs.FileEvents.{AreEventsOf}
use Rattle.event_script.proofs.Written.{file_read}
use Rattle.book_state.specs.Log.{Legal, is_sweep}
use Rattle.book_state.specs.SeatLaws.{is_end}
use Rattle.book_state.specs.Follows.{Follows}
use Rattle.book_state.specs.Worked.{plain, root_alone}
use Rattle.book_state.proofs.Computed.{drawn_all}
use Rattle.book_state.proofs.WorkedParts.{legal_log, link, part, follows_log}
use Rattle.ledger.specs.Work.{Work}
use Rattle.ledger.specs.Segments.{bins_by_worker}
use Rattle.ledger.specs.Readings.{NoneFalls}
use Rattle.ledger.specs.Ledger.{AreRead, AreSwept, AreShown, RunLedger}
use Rattle.ledger.specs.Worked.{plain_plan, report_of, IsWorkedReplay, IsReported, file_of, log_with, increments, both_accepted, accepted, makes_key, counter_a, gauge_log, part_of_7}
use Rattle.ledger.proofs.Lists.{nil_cons, number_apart}
use Rattle.ledger.proofs.OneFlush.{one_report}

-- files of lines
at_most : (m n : ℕ) → nat_le m n ≡ true → m ≤ n
at_most m n e = leb-true m n e

pub root : IsLabel (codes "root")
root = record { not_empty = omega arith; short = omega arith; bytes = refl }

pub lawful : (e : Event) → nat_le (length (line_for e)) MAX_LINE_BYTES ≡ true → IsLineOf (line_for e) e → IsLawful e
lawful e short is = (line_for e, (at_most (length (line_for e)) MAX_LINE_BYTES short, is))

pub read_whole : (events : List Event) → AllByRecursion IsLawful events → nat_le (length events) MAX_EVENTS ≡ true → nat_le (length (lines_for events)) MAX_FILE_BYTES ≡ true
    → AreEventsOf (file_of events) file.Whole 0 events
read_whole events are few short =
    (lines_for events, refl, file_read events (All-from_recursion IsLawful events are) (at_most (length events) MAX_EVENTS few) (at_most (length (lines_for events)) MAX_FILE_BYTES short))

pub lawful_inc : (label name : List ℕ) (n : ℕ) → IsLabel label → IsLocalName name → n < 2 ^ 32 → nat_le (length (line_for (event.Inc label name n))) MAX_LINE_BYTES ≡ true
    → IsLawful (event.Inc label name n)
lawful_inc label name n is_label is_name small short =
    lawful (event.Inc label name n) short (record { n_fits = small; metric = record { label_fits = is_label; name_fits = is_name; parts = refl } })

pub lawful_open : (label prefix given : List ℕ) → IsLabel label → IsLocalName given → prefix ≡ given_prefix given → given_for prefix ≡ given
    → nat_le (length (line_for (event.OpenScope label prefix))) MAX_LINE_BYTES ≡ true → IsLawful (event.OpenScope label prefix)
lawful_open label prefix given is_label is_name means written short = lawful (event.OpenScope label prefix) short (record {
  label_fits = is_label;
  given = given;
  given_fits = is_name;
  means = means;
  parts = ap (λ (l : List ℕ). codes "open" ++ 32 ∷ (label ++ 32 ∷ l)) written;
})

pub lawful_release : (label : List ℕ) → IsLabel label → nat_le (length (line_for (event.Release label))) MAX_LINE_BYTES ≡ true → IsLawful (event.Release label)
lawful_release label is_label short = lawful (event.Release label) short (record { label_fits = is_label; parts = refl })

pub lawful_rec : (label name : List ℕ) (v : ℕ) → IsLabel label → IsLocalName name → v < 2 ^ 64 → nat_le (length (line_for (event.Rec label name v))) MAX_LINE_BYTES ≡ true
    → IsLawful (event.Rec label name v)
lawful_rec label name v is_label is_name small short =
    lawful (event.Rec label name v) short (record { v_fits = small; metric = record { label_fits = is_label; name_fits = is_name; parts = refl } })

pub lawful_text : (label name text : List ℕ) → IsLabel label → IsLocalName name → IsReadout text → nat_le (length (line_for (event.SetText label name text))) MAX_LINE_BYTES ≡ true
    → IsLawful (event.SetText label name text)
lawful_text label name text is_label is_name is_text short =
    lawful (event.SetText label name text) short (record { text_fits = is_text; metric = record { label_fits = is_label; name_fits = is_name; parts = refl } })

a_name : IsLocalName (codes "a")
a_name = record { not_empty = omega arith; short = omega arith; bytes = refl }

pub inc_a : (n : ℕ) → n < 2 ^ 32 → nat_le (length (line_for (event.Inc (codes "root") (codes "a") n))) MAX_LINE_BYTES ≡ true → IsLawful (event.Inc (codes "root") (codes "a") n)
inc_a n small short = lawful_inc (codes "root") (codes "a") n root a_name small short

pub increments_read : AreEventsOf (file_of increments) file.Whole 0 increments
unfolding digits
increments_read = read_whole increments (inc_a 3 (omega arith) refl, (inc_a 4 (omega arith) refl, tt)) refl refl

-- lists of one place at most
pub one_rises : (n : ℕ) → IsStrictlyIncreasing (n ∷ [])
one_rises n = λ k within. absurd (omega (arith, within))

pub none_falls : IsNonDecreasing []
none_falls = λ i j d below within. absurd (omega (arith, within))

pub no_pairs : AllPairs NoneFalls []
no_pairs = λ i j d below within. absurd (omega (arith, within))

-- where no worker has a value, a flush has no part
pub no_parts : (segs : List (List (ℕ × ℕ))) → ((w id : ℕ) → bins_by_worker segs w id ≡ []) → ArePartsOf (bins_by_worker segs) []
no_parts segs none = record {
  held = λ k d below. absurd (omega (arith, below));
  whole = λ w id some. absurd (some (none w id));
  order = λ i j d low below. absurd (omega (arith, below));
}

all_nothing : (segs : List (List (ℕ × ℕ))) → ((w : ℕ) → get_or segs w [] ≡ []) → (w id : ℕ) → bins_by_worker segs w id ≡ []
all_nothing segs none zero id = refl
all_nothing segs none (suc w) id = ap (λ (values : List (ℕ × ℕ)). bins_by values id) (none w)

pub one_nothing : (w : ℕ) → ◌≡◌ {A = List (ℕ × ℕ)} (get_or ([] ∷ []) w []) []
one_nothing zero = refl
one_nothing (suc w) = refl

two_nothing : (w : ℕ) → ◌≡◌ {A = List (ℕ × ℕ)} (get_or ([] ∷ ([] ∷ [])) w []) []
two_nothing zero = refl
two_nothing (suc w) = one_nothing w

pub nothing : (w id : ℕ) → ◌≡◌ {A = List BinCount} (bins_by_worker ([] ∷ []) w id) []
nothing = all_nothing ([] ∷ []) one_nothing

pub nothing_of_two : (w id : ℕ) → ◌≡◌ {A = List BinCount} (bins_by_worker ([] ∷ ([] ∷ [])) w id) []
nothing_of_two = all_nothing ([] ∷ ([] ∷ [])) two_nothing

-- the two increments follow a log in which the worker makes the counter with this number
pub increments_follow : (number : ℕ) → Follows plain 1 1 increments both_accepted (log_with (makes_key 1 counter_a 0 number ∷ []) 0)
increments_follow number = follows_log increments both_accepted (log_with (makes_key 1 counter_a 0 number ∷ []) 0) (
    link (event.Inc (codes "root") (codes "a") 4) (accepted 0) []
    ∷ link (event.Inc (codes "root") (codes "a") 3) (accepted 0) (part (log_with (makes_key 1 counter_a 0 number ∷ []) 0) 0 1)
    ∷ []) _
    ((tt, inl (omega arith, (refl, refl, refl))), inl (omega arith, (refl, refl)))
    refl refl refl refl

pub increments_legal : Legal plain root_alone 1 (log_with (makes_key 1 counter_a 0 1 ∷ []) 0)
increments_legal = legal_log 1 _ refl ((inl refl, refl, refl), (((refl, refl), (refl, drawn_all [] (codes "a" ∷ []) (1 ∷ []) refl)), ((refl, tt), ((refl, refl), tt))))

g_name : IsLocalName (codes "g")
g_name = record { not_empty = omega arith; short = omega arith; bytes = refl }

pub moves_g : (op : GaugeOp) (n : ℕ) → n < 2 ^ 63 → nat_le (length (line_for (event.Gauge (codes "root") (codes "g") Accumulate op n))) MAX_LINE_BYTES ≡ true
    → IsLawful (event.Gauge (codes "root") (codes "g") Accumulate op n)
moves_g op n small short = lawful (event.Gauge (codes "root") (codes "g") Accumulate op n) short (record { n_fits = small; metric = record { label_fits = root; name_fits = g_name; parts = refl } })

pub gauge_legal : Legal plain root_alone 1 gauge_log
gauge_legal = legal_log 1 _ refl ((inl refl, refl, refl), (((refl, refl), (refl, drawn_all [] (codes "g" ∷ []) (1 ∷ []) refl)), ((refl, tt), ((refl, refl), tt))))

-- the bin of 7 has it alone
pub bins_of_7 : ◌≡◌ {A = List BinCount} (bins_of (7 ∷ [])) part_of_7.bins
unfolding bin_of_value
bins_of_7 = refl

only_7 : (others : List (List (ℕ × ℕ))) → ((w : ℕ) → get_or others w [] ≡ []) → (w id : ℕ) → bins_by_worker (((0, 7) ∷ []) ∷ others) w id ≢ [] → (1 ≡ w) × (0 ≡ id)
only_7 others none zero id some = absurd (some refl)
only_7 others none (suc zero) zero some = (refl, refl)
only_7 others none (suc zero) (suc id) some =
    absurd (some (ap (λ (t : Bool). bins_of (map (λ (p : ℕ × ℕ). p.1) (cond t ((0, 7) ∷ []) []))) (number_apart 0 (suc id) (λ e. omega (arith, e)))))
only_7 others none (suc (suc w)) id some = absurd (some (ap (λ (values : List (ℕ × ℕ)). bins_by values id) (none w)))

abbrev IsHeldPart : List (List (ℕ × ℕ)) → Part → Type 0
IsHeldPart others part = (part.bins ≡ bins_by_worker (((0, 7) ∷ []) ∷ others) part.worker part.id.0) × (part.bins ≢ [])

-- where the first worker alone has a value, 7 on histogram 0
pub one_part : (others : List (List (ℕ × ℕ))) → ((w : ℕ) → get_or others w [] ≡ []) → ArePartsOf (bins_by_worker (((0, 7) ∷ []) ∷ others)) (part_of_7 ∷ [])
one_part others none = record {
  held = All-from_recursion (IsHeldPart others) (part_of_7 ∷ []) ((sym bins_of_7, λ e. nil_cons _ [] (sym e)), tt);
  whole = λ w id some. (0, part_of_7, omega arith, refl, only_7 others none w id some);
  order = λ i j d low below. absurd (omega (arith, low, below));
}

h_name : IsLocalName (codes "h")
h_name = record { not_empty = omega arith; short = omega arith; bytes = refl }

pub rec_7 : IsLawful (event.Rec (codes "root") (codes "h") 7)
unfolding digits
rec_7 = lawful_rec (codes "root") (codes "h") 7 root h_name (omega arith) refl

-- what the reports of one file with one flush share
module _ (verdicts : List Verdict) (log : List Entry) (flush : FlushRecord) where
  pub read_one : (events : List Event) → length verdicts ≡ length events → AreEventsOf (file_of events) file.Whole 0 events
      → AreRead (file_of events ∷ []) (events ∷ []) (report_of verdicts log flush)
  read_one events same run = record {
    an_end_each = refl;
    verdicts_each = refl;
    a_verdict_each = ap (λ (n : ℕ). n ∷ []) same;
    read = (run, tt);
    counted = (refl, tt);
  }

  pub swept_once : count_by (λ (e : Entry). is_sweep e.call) log ≡ 1 → list_all (λ (e : Entry). not (is_end e.call)) (drop flush.at log) ≡ true
      → AreSwept plain_plan (report_of verdicts log flush)
  swept_once one ended = record { number = refl; sweeps = one; rising = one_rises flush.at; ended = ended }

  pub none_shown : (workers : List Work) → AreShown plain_plan workers (report_of verdicts log flush)
  none_shown workers = record { number = refl; never_falls = none_falls; each = tt; rising = no_pairs }

pub reported : (events : List Event) (report : Report) → RunLedger (file_of events ∷ []) (events ∷ []) plain_plan report → IsWorkedReplay events report → IsReported events report
reported events report run replay = record {
  run = run;
  replay = replay;
  only = λ other direct. one_report plain_plan (events ∷ []) (file_of events ∷ []) (file_of events ∷ []) report other replay direct;
}
