use Rattle.std.proofs.Common.{[], ◌∷◌, drop, refl, arith, inl, inr}
use Rattle.std.specs.Prelude.{codes}
use Rattle.stat_defs.specs.declared.events.Event.TheVariants as event
use Rattle.stat_defs.specs.declared.history.Verdict.TheVariants as verdict
use Rattle.book_state.specs.Follows.{Follows}
use Rattle.book_state.specs.Worked.{plain, swept_last, released_events, released_verdicts}
use Rattle.book_state.proofs.WorkedParts.{legal_log, retired_first, link, part, follows_log}
use Rattle.book_state.proofs.worked.gone_in_the_last_sweep.Goals as goal

follows : Follows plain 1 1 released_events released_verdicts swept_last
follows = follows_log released_events released_verdicts swept_last (
    link (event.Inc (codes "s") (codes "u") 1) verdict.NoScope (part swept_last 3 2)
    ∷ link (event.Release (codes "s")) (verdict.Released (record { 0 = 1 })) (part swept_last 2 1)
    ∷ link (event.Inc (codes "s") (codes "u") 1) (verdict.Accepted (record { 0 = 0 })) (part swept_last 1 1)
    ∷ link (event.OpenScope (codes "s") (codes "t")) (verdict.Opened (record { 0 = 1 })) (part swept_last 0 1)
    ∷ []) _
    ((((tt, inl (omega arith, (refl, refl))), inl (omega arith, (refl, refl, refl))), inl (omega arith, (refl, refl))), inr (_, _, refl, refl, (refl, refl, refl)))
    refl refl refl refl

pub returns : goal.returns
returns c = record {
  legal = legal_log 1 _ refl (retired_first 0 (drop 4 swept_last) (((refl, omega arith), refl), (((refl, refl), tt), ((refl, tt), ((refl, refl), tt)))));
  follows = follows;
  gone = refl;
  no_symbols = refl;
}
