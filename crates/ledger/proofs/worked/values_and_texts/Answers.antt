use Rattle.std.proofs.Common.{[], ◌∷◌, refl, inl, arith}
use Rattle.std.specs.Prelude.{codes}
use Rattle.std.specs.Fmt.{digits}
use Rattle.stat_defs.specs.declared.events.Event.TheVariants as event
use Rattle.stat_defs.specs.declared.reports.FileEnd.TheVariants as file
use Rattle.stat_defs.specs.Names.{IsLocalName}
use Rattle.event_script.specs.FileEvents.{AreEventsOf}
use Rattle.book_state.specs.Log.{Legal}
use Rattle.book_state.specs.Follows.{Follows}
use Rattle.book_state.specs.Worked.{plain, root_alone}
use Rattle.book_state.proofs.Computed.{drawn_all}
use Rattle.book_state.proofs.WorkedParts.{legal_log, link, part, follows_log}
use Rattle.ledger.specs.Ledger.{RunLedger}
use Rattle.ledger.specs.Worked.{plain_plan, file_of, accepted, values_and_texts, readout_log, of_values_and_texts}
use Rattle.ledger.proofs.WorkedParts.{read_one, swept_once, none_shown, reported, lawful_text, one_part, read_whole, rec_7, root}
use Rattle.ledger.proofs.worked.values_and_texts.Goals as goal

follows : Follows plain 1 1 values_and_texts (accepted 0 ∷ accepted 1 ∷ accepted 1 ∷ []) readout_log
follows = follows_log values_and_texts (accepted 0 ∷ accepted 1 ∷ accepted 1 ∷ []) readout_log (
    link (event.SetText (codes "root") (codes "t") (codes "all off")) (accepted 1) (part readout_log 3 1)
    ∷ link (event.SetText (codes "root") (codes "t") (codes "on")) (accepted 1) (part readout_log 1 2)
    ∷ link (event.Rec (codes "root") (codes "h") 7) (accepted 0) (part readout_log 0 1)
    ∷ []) _
    (((tt, inl (omega arith, (refl, refl, refl))), inl (omega arith, (refl, refl, refl))), inl (omega arith, (refl, refl)))
    refl refl refl refl

legal : Legal plain root_alone 1 readout_log
legal = legal_log 1 _ refl (
  (inl refl, refl, refl),
  (
    ((refl, refl), (refl, drawn_all [] (codes "h" ∷ []) (1 ∷ []) refl)),
    (
      ((refl, refl), (refl, drawn_all ((codes "h", 1) ∷ []) (codes "t" ∷ []) (2 ∷ []) refl)),
      ((refl, refl), ((refl, refl), ((refl, tt), ((refl, refl), tt)))),
    ),
  ),
)

name_t : IsLocalName (codes "t")
name_t = record { not_empty = omega arith; short = omega arith; bytes = refl }

is_read : AreEventsOf (file_of values_and_texts) file.Whole 0 values_and_texts
unfolding digits
is_read = read_whole values_and_texts (
  rec_7,
  (lawful_text (codes "root") (codes "t") (codes "on") root name_t refl refl, (lawful_text (codes "root") (codes "t") (codes "all off") root name_t refl refl, tt)),
) refl refl

ledger : RunLedger (file_of values_and_texts ∷ []) (values_and_texts ∷ []) plain_plan of_values_and_texts
ledger = record {
  read = read_one _ _ _ _ refl is_read;
  history = record { legal = legal; follows = (follows, tt) };
  swept = swept_once _ _ _ refl refl;
  account = record {
    flushes = (record { sweep = refl; deltas = refl; gauges = refl; parts = one_part [] (λ w. refl) }, tt);
    units = tt;
    values = (refl, tt);
    words = tt;
  };
  shown = none_shown _ _ _ _;
}

pub returns : goal.returns
returns c = record {
  reported = reported values_and_texts of_values_and_texts ledger ledger;
  texts = refl;
}
