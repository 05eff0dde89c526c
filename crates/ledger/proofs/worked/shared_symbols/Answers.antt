use Rattle.std.proofs.Common.{[], ◌∷◌, refl, inl, inr, arith}
use Rattle.std.specs.Prelude.{codes}
use Rattle.std.specs.Fmt.{digits}
use Rattle.stat_defs.specs.declared.events.Event.TheVariants as event
use Rattle.stat_defs.specs.declared.history.Verdict.TheVariants as verdict
use Rattle.stat_defs.specs.declared.reports.FileEnd.TheVariants as file
use Rattle.stat_defs.specs.Names.{IsLabel, IsLocalName}
use Rattle.event_script.specs.FileEvents.{AreEventsOf}
use Rattle.book_state.specs.Log.{Legal}
use Rattle.book_state.specs.Follows.{Follows}
use Rattle.book_state.specs.Worked.{plain, root_alone, shared, shared_events, shared_verdicts}
use Rattle.book_state.proofs.Computed.{drawn_all}
use Rattle.book_state.proofs.WorkedParts.{legal_log, link, part, follows_log}
use Rattle.ledger.specs.Ledger.{RunLedger}
use Rattle.ledger.specs.Worked.{plain_plan, file_of, of_shared}
use Rattle.ledger.proofs.WorkedParts.{read_one, swept_once, none_shown, reported, lawful_inc, lawful_open, lawful_release, no_parts, nothing, read_whole}
use Rattle.ledger.proofs.worked.shared_symbols.Goals as goal

follows : Follows plain 1 1 shared_events shared_verdicts shared
follows = follows_log shared_events shared_verdicts shared (
    link (event.Inc (codes "q") (codes "n") 4) (verdict.Accepted (record { 0 = 0 })) (part shared 5 1)
    ∷ link (event.Release (codes "p")) (verdict.Released (record { 0 = 1 })) (part shared 4 1)
    ∷ link (event.Inc (codes "q") (codes "n") 2) (verdict.Accepted (record { 0 = 0 })) (part shared 3 1)
    ∷ link (event.Inc (codes "p") (codes "n") 1) (verdict.Accepted (record { 0 = 0 })) (part shared 2 1)
    ∷ link (event.OpenScope (codes "q") (codes "cluster.c")) (verdict.Opened (record { 0 = 2 })) (part shared 1 1)
    ∷ link (event.OpenScope (codes "p") (codes "cluster.c")) (verdict.Opened (record { 0 = 1 })) (part shared 0 1)
    ∷ []) _ (
      (
        ((((tt, inl (omega arith, (refl, refl))), inl (omega arith, (refl, refl))), inl (omega arith, (refl, refl, refl))), inl (omega arith, (refl, refl, refl))),
        inl (omega arith, (refl, refl)),
      ),
      inr (_, _, refl, refl, (refl, refl)),
    )
    refl refl refl refl

legal : Legal plain root_alone 1 shared
legal = legal_log 1 _ refl (
  (inl refl, refl, refl),
  (
    (inr (refl, tt), refl, refl),
    (
      (inr (refl, tt), refl, refl),
      (
        ((refl, refl), (refl, drawn_all [] (codes "cluster" ∷ codes "c" ∷ codes "n" ∷ []) (1 ∷ 2 ∷ 3 ∷ []) refl)),
        (((refl, refl), refl), (((refl, tt), refl), (((refl, omega arith), refl), ((refl, tt), ((refl, refl), tt))))),
      ),
    ),
  ),
)

label_p : IsLabel (codes "p")
label_p = record { not_empty = omega arith; short = omega arith; bytes = refl }

label_q : IsLabel (codes "q")
label_q = record { not_empty = omega arith; short = omega arith; bytes = refl }

name_n : IsLocalName (codes "n")
name_n = record { not_empty = omega arith; short = omega arith; bytes = refl }

prefix : IsLocalName (codes "cluster.c")
prefix = record { not_empty = omega arith; short = omega arith; bytes = refl }

is_read : AreEventsOf (file_of shared_events) file.Whole 0 shared_events
unfolding digits
is_read = read_whole shared_events (
  lawful_open (codes "p") (codes "cluster.c") (codes "cluster.c") label_p prefix refl refl refl,
  (
    lawful_open (codes "q") (codes "cluster.c") (codes "cluster.c") label_q prefix refl refl refl,
    (
      lawful_inc (codes "p") (codes "n") 1 label_p name_n (omega arith) refl,
      (
        lawful_inc (codes "q") (codes "n") 2 label_q name_n (omega arith) refl,
        (lawful_release (codes "p") label_p refl, (lawful_inc (codes "q") (codes "n") 4 label_q name_n (omega arith) refl, tt)),
      ),
    ),
  ),
) refl refl

ledger : RunLedger (file_of shared_events ∷ []) (shared_events ∷ []) plain_plan of_shared
ledger = record {
  read = read_one _ _ _ _ refl is_read;
  history = record { legal = legal; follows = (follows, tt) };
  swept = swept_once _ _ _ refl refl;
  account = record {
    flushes = (record { sweep = refl; deltas = refl; gauges = refl; parts = no_parts ([] ∷ []) nothing }, tt);
    units = (refl, tt);
    values = (refl, tt);
    words = tt;
  };
  shown = none_shown _ _ _ _;
}

pub returns : goal.returns
returns c = reported shared_events of_shared ledger ledger
