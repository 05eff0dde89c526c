use Rattle.std.proofs.Common.{[], ◌∷◌, refl, sym, inl, arith}
use Rattle.std.specs.Prelude.{codes}
use Rattle.stat_defs.specs.declared.events.Event.TheVariants as event
use Rattle.book_state.specs.Log.{Legal}
use Rattle.book_state.specs.Follows.{Follows}
use Rattle.book_state.specs.Worked.{plain, root_alone}
use Rattle.book_state.proofs.Computed.{drawn_all}
use Rattle.book_state.proofs.Lists.{true_false}
use Rattle.book_state.proofs.WorkedParts.{legal_log, link, part, follows_log}
use Rattle.ledger.specs.Worked.{increments, both_accepted, accepted, ended_late}
use Rattle.ledger.proofs.WorkedParts.{read_one, none_shown, increments_read, no_parts, nothing}
use Rattle.ledger.proofs.worked.an_end_behind_the_last_sweep.Goals as goal

follows : Follows plain 1 1 increments both_accepted ended_late.log
follows = follows_log increments both_accepted ended_late.log (
    link (event.Inc (codes "root") (codes "a") 4) (accepted 0) []
    ∷ link (event.Inc (codes "root") (codes "a") 3) (accepted 0) (part ended_late.log 0 1)
    ∷ []) _
    ((tt, inl (omega arith, (refl, refl, refl))), inl (omega arith, (refl, refl)))
    refl refl refl refl

legal : Legal plain root_alone 1 ended_late.log
legal = legal_log 1 _ refl ((inl refl, refl, refl), (((refl, refl), (refl, drawn_all [] (codes "a" ∷ []) (1 ∷ []) refl)), ((refl, refl), ((refl, tt), tt))))

pub returns : goal.returns
returns c = record {
  read = read_one _ _ _ _ refl increments_read;
  history = record { legal = legal; follows = (follows, tt) };
  not_swept = λ swept. absurd (true_false (sym swept.ended));
  account = record {
    flushes = (record { sweep = refl; deltas = refl; gauges = refl; parts = no_parts ([] ∷ []) nothing }, tt);
    units = (refl, tt);
    values = (refl, tt);
    words = tt;
  };
  shown = none_shown _ _ _ _;
}
