use Rattle.std.proofs.Common.{[], ◌∷◌, refl, arith, inl, inr}
use Rattle.std.specs.Prelude.{codes}
use Rattle.stat_defs.specs.declared.events.Event.TheVariants as event
use Rattle.stat_defs.specs.declared.history.Verdict.TheVariants as verdict
use Rattle.book_state.specs.Follows.{Follows}
use Rattle.book_state.specs.Worked.{plain, shared, shared_events, shared_verdicts}
use Rattle.book_state.proofs.Computed.{drawn_all}
use Rattle.book_state.proofs.WorkedParts.{legal_log, link, part, follows_log}
use Rattle.book_state.proofs.worked.shared_symbols.Goals as goal

follows : Follows plain 1 1 shared_events shared_verdicts shared
follows = follows_log shared_events shared_verdicts shared (
    link (event.Inc (codes "q") (codes "n") 4) (verdict.Accepted (record { 0 = 0 })) (part shared 5 1)
    ∷ link (event.Release (codes "p")) (verdict.Released (record { 0 = 1 })) (part shared 4 1)
    ∷ link (event.Inc (codes "q") (codes "n") 2) (verdict.Accepted (record { 0 = 0 })) (part shared 3 1)
    ∷ link (event.Inc (codes "p") (codes "n") 1) (verdict.Accepted (record { 0 = 0 })) (part shared 2 1)
    ∷ link (event.OpenScope (codes "q") (codes "cluster.c")) (verdict.Opened (record { 0 = 2 })) (part shared 1 1)
    ∷ link (event.OpenScope (codes "p") (codes "cluster.c")) (verdict.Opened (record { 0 = 1 })) (part shared 0 1)
    ∷ []) _ (
      (
        ((((tt, inl (omega arith, (refl, refl))), inl (omega arith, (refl, refl))), inl (omega arith, (refl, refl, refl))), inl (omega arith, (refl, refl, refl))),
        inl (omega arith, (refl, refl)),
      ),
      inr (_, _, refl, refl, (refl, refl)),
    )
    refl refl refl refl

pub returns : goal.returns
returns c = record {
  legal = legal_log 1 _ refl (
    (inl refl, refl, refl),
    (
      (inr (refl, tt), refl, refl),
      (
        (inr (refl, tt), refl, refl),
        (
          ((refl, refl), (refl, drawn_all [] (codes "cluster" ∷ codes "c" ∷ codes "n" ∷ []) (1 ∷ 2 ∷ 3 ∷ []) refl)),
          (((refl, refl), refl), (((refl, tt), refl), (((refl, omega arith), refl), ((refl, tt), ((refl, refl), tt))))),
        ),
      ),
    ),
  );
  follows = follows;
  held = refl;
  live = refl;
  symbols = refl;
}
