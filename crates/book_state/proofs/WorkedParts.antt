-- What the proofs of the worked logs share.
use Rattle.std.proofs.Common.{◌≡◌, ℕ, suc, true, List, [], ◌∷◌, ◌++◌, take, drop, refl, inl, inr}
use Rattle.std.specs.Prelude.{codes}
use Rattle.std.specs.List.{list_all}
use Rattle.stat_defs.specs.declared.events.Event.{Event}
use Rattle.stat_defs.specs.declared.history.Verdict.{Verdict}
use Rattle.stat_defs.specs.declared.history.Call.TheVariants as call
use Rattle.stat_defs.specs.declared.history.Entry.{Entry}
use Rattle.book_state.specs.Log.{empty, openings, fits_seat, replay_from, Run, Legal}
use Rattle.book_state.specs.Follows.{Own, own, Applied, Follows, IsChain, events_of, verdicts_of, entries_of}
use Rattle.book_state.specs.Worked.{plain, root_alone, opens, makes, releases}
use Rattle.book_state.proofs.Computed.{drawn_all}

pub legal_log : (workers : ℕ) (rest : List Entry) → list_all (fits_seat workers) rest ≡ true → Run plain (empty workers) (openings 0 root_alone ++ rest)
    → Legal plain root_alone workers (openings 0 root_alone ++ rest)
legal_log workers rest fits steps = record { rest = rest; begins = refl; seats = fits; steps = steps }

-- the first worker opens `s`, makes a counter in it and releases it
abbrev retired : List Entry
retired = openings 0 root_alone ++ opens 1 (codes "s") (codes "t") 1 ∷ makes 1 (codes "s") (codes "u") 0 (1 ∷ 2 ∷ []) ∷ releases 1 (codes "s") 1 ∷ []

pub retired_first : (others : ℕ) (rest : List Entry) → Run plain (replay_from plain (empty (suc others)) retired) rest → Run plain (empty (suc others)) (retired ++ rest)
retired_first others rest steps =
    ((inl refl, refl, refl), ((inr (refl, tt), refl, refl), (((refl, refl), (refl, drawn_all [] (codes "t" ∷ codes "u" ∷ []) (1 ∷ 2 ∷ []) refl)), (((refl, tt), refl), steps))))

abbrev pub link : Event → Verdict → List Own → Applied
link e v made = record { event = e; verdict = v; made = made }

-- some of the one worker's own entries
abbrev pub part : List Entry → ℕ → ℕ → List Own
part log from n = take n (drop from (own plain 1 (empty 1) log))

pub follows_log : (events : List Event) (verdicts : List Verdict) (log : List Entry) (applied : List Applied) (last : Own) → IsChain 1 (empty 1) applied
    → events ≡ events_of applied → verdicts ≡ verdicts_of applied → last.call ≡ call.End → own plain 1 (empty 1) log ≡ entries_of applied ++ last ∷ []
    → Follows plain 1 1 events verdicts log
follows_log events verdicts log applied last chain are told ends own_are = record {
  entries = entries_of applied;
  of_events = record { applied = applied; chain = chain; events_are = are; verdicts_are = told; entries_are = refl };
  last = last;
  ends = ends;
  own_are = own_are;
}
