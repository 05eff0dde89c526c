use Rattle.std.proofs.Common.{[], ◌∷◌, ◌^◌, ◌-◌, refl, sym, inl, arith}
use Rattle.std.specs.Prelude.{codes}
use Rattle.std.specs.Fmt.{digits}
use Rattle.stat_defs.specs.declared.events.Event.TheVariants as event
use Rattle.stat_defs.specs.declared.events.GaugeOp.TheVariants.{Add, Sub, Set}
use Rattle.stat_defs.specs.declared.ids.Mode.TheVariants.{Accumulate}
use Rattle.stat_defs.specs.declared.reports.FileEnd.TheVariants as file
use Rattle.event_script.specs.FileEvents.{AreEventsOf}
use Rattle.book_state.specs.Follows.{Follows}
use Rattle.book_state.specs.Worked.{plain}
use Rattle.book_state.proofs.Lists.{true_false}
use Rattle.book_state.proofs.WorkedParts.{link, part, follows_log}
use Rattle.ledger.specs.Ledger.{RunLedger}
use Rattle.ledger.specs.Worked.{plain_plan, file_of, accepted, gauge_moves, of_gauge_moves, gauge_log}
use Rattle.ledger.proofs.WorkedParts.{read_one, swept_once, none_shown, reported, gauge_legal, moves_g, no_parts, nothing, read_whole}
use Rattle.ledger.proofs.worked.gauge_moves.Goals as goal

follows : Follows plain 1 1 gauge_moves (accepted 0 ∷ accepted 0 ∷ accepted 0 ∷ []) gauge_log
follows = follows_log gauge_moves (accepted 0 ∷ accepted 0 ∷ accepted 0 ∷ []) gauge_log (
    link (event.Gauge (codes "root") (codes "g") Accumulate Add 1) (accepted 0) []
    ∷ link (event.Gauge (codes "root") (codes "g") Accumulate Set (2 ^ 63 - 1)) (accepted 0) []
    ∷ link (event.Gauge (codes "root") (codes "g") Accumulate Sub 5) (accepted 0) (part gauge_log 0 1)
    ∷ []) _
    (((tt, inl (omega arith, (refl, refl, refl))), inl (omega arith, (refl, refl))), inl (omega arith, (refl, refl)))
    refl refl refl refl

is_read : AreEventsOf (file_of gauge_moves) file.Whole 0 gauge_moves
unfolding digits
is_read = read_whole gauge_moves (moves_g Sub 5 (omega arith) refl, (moves_g Set (2 ^ 63 - 1) (omega arith) refl, (moves_g Add 1 (omega arith) refl, tt))) refl refl

ledger : RunLedger (file_of gauge_moves ∷ []) (gauge_moves ∷ []) plain_plan of_gauge_moves
ledger = record {
  read = read_one _ _ _ _ refl is_read;
  history = record { legal = gauge_legal; follows = (follows, tt) };
  swept = swept_once _ _ _ refl refl;
  account = record {
    flushes = (record { sweep = refl; deltas = refl; gauges = refl; parts = no_parts ([] ∷ []) nothing }, tt);
    units = tt;
    values = (refl, tt);
    words = (record { no_set = λ none. absurd (true_false (sym none)); one_mover = λ one. refl; last_sets = λ some all. absurd (true_false (sym all)) }, tt);
  };
  shown = none_shown _ _ _ _;
}

pub returns : goal.returns
returns c = reported gauge_moves of_gauge_moves ledger ledger
