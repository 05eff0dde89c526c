use Rattle.std.proofs.Common.{[], ◌∷◌, drop, refl, inl, inr, arith}
use Rattle.std.specs.Prelude.{codes}
use Rattle.std.specs.Fmt.{digits}
use Rattle.stat_defs.specs.declared.events.Event.TheVariants as event
use Rattle.stat_defs.specs.declared.history.Verdict.TheVariants as verdict
use Rattle.stat_defs.specs.declared.reports.FileEnd.TheVariants as file
use Rattle.stat_defs.specs.Names.{IsLabel, IsLocalName}
use Rattle.event_script.specs.FileEvents.{AreEventsOf}
use Rattle.book_state.specs.Log.{Legal}
use Rattle.book_state.specs.Follows.{Follows}
use Rattle.book_state.specs.Worked.{plain, root_alone, swept_last, released_events, released_verdicts}
use Rattle.book_state.proofs.WorkedParts.{legal_log, retired_first, link, part, follows_log}
use Rattle.ledger.specs.Ledger.{RunLedger}
use Rattle.ledger.specs.Worked.{plain_plan, file_of, of_released}
use Rattle.ledger.proofs.WorkedParts.{read_one, swept_once, none_shown, reported, lawful_inc, lawful_open, lawful_release, no_parts, nothing, read_whole}
use Rattle.ledger.proofs.worked.a_released_scope.Goals as goal

follows : Follows plain 1 1 released_events released_verdicts swept_last
follows = follows_log released_events released_verdicts swept_last (
    link (event.Inc (codes "s") (codes "u") 1) verdict.NoScope (part swept_last 3 2)
    ∷ link (event.Release (codes "s")) (verdict.Released (record { 0 = 1 })) (part swept_last 2 1)
    ∷ link (event.Inc (codes "s") (codes "u") 1) (verdict.Accepted (record { 0 = 0 })) (part swept_last 1 1)
    ∷ link (event.OpenScope (codes "s") (codes "t")) (verdict.Opened (record { 0 = 1 })) (part swept_last 0 1)
    ∷ []) _
    ((((tt, inl (omega arith, (refl, refl))), inl (omega arith, (refl, refl, refl))), inl (omega arith, (refl, refl))), inr (_, _, refl, refl, (refl, refl, refl)))
    refl refl refl refl

legal : Legal plain root_alone 1 swept_last
legal = legal_log 1 _ refl (retired_first 0 (drop 4 swept_last) (((refl, omega arith), refl), (((refl, refl), tt), ((refl, tt), ((refl, refl), tt)))))

label_s : IsLabel (codes "s")
label_s = record { not_empty = omega arith; short = omega arith; bytes = refl }

name_u : IsLocalName (codes "u")
name_u = record { not_empty = omega arith; short = omega arith; bytes = refl }

name_t : IsLocalName (codes "t")
name_t = record { not_empty = omega arith; short = omega arith; bytes = refl }

is_read : AreEventsOf (file_of released_events) file.Whole 0 released_events
unfolding digits
is_read = read_whole released_events (
  lawful_open (codes "s") (codes "t") (codes "t") label_s name_t refl refl refl,
  (
    lawful_inc (codes "s") (codes "u") 1 label_s name_u (omega arith) refl,
    (lawful_release (codes "s") label_s refl, (lawful_inc (codes "s") (codes "u") 1 label_s name_u (omega arith) refl, tt)),
  ),
) refl refl

ledger : RunLedger (file_of released_events ∷ []) (released_events ∷ []) plain_plan of_released
ledger = record {
  read = read_one _ _ _ _ refl is_read;
  history = record { legal = legal; follows = (follows, tt) };
  swept = swept_once _ _ _ refl refl;
  account = record {
    flushes = (record { sweep = refl; deltas = refl; gauges = refl; parts = no_parts ([] ∷ []) nothing }, tt);
    units = (refl, tt);
    values = (refl, tt);
    words = tt;
  };
  shown = none_shown _ _ _ _;
}

pub returns : goal.returns
returns c = reported released_events of_released ledger ledger
