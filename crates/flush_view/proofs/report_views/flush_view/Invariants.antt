use Rattle.std.proofs.Common.{◌≡◌, true}
use Rattle.flush_view.proofs.report_views.flush_view.Given as goal

abbrev pub invariant-loop-i : goal.invariant-loop-i
invariant-loop-i l = l.views ≡ record { config = l.config; report = l.report; given = l._i; whole = true }
