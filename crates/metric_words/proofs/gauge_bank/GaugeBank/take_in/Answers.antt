use Rattle.std.proofs.Common.{rules}
use Rattle.seat_parts.proofs.Cuts.{no-slots}
use Rattle.metric_words.proofs.GaugeDeals.{joins}
use Rattle.metric_words.proofs.Stepping.{gauge-joined}
use Rattle.metric_words.proofs.gauge_bank.GaugeBank.take_in.Goals as goal

pub join_seat-requires : goal.join_seat-requires
join_seat-requires c = (search rules, search rules, no-slots _ c.args.other.leads.1, search rules, joins _ _ _ _ _)

pub invariant_of-seat : goal.invariant_of-seat
invariant_of-seat c = let j = gauge-joined c.args.seat.now c.args.other _ c.join_seat.new.seat.me c.join_seat.ensures.0 c.join_seat.ensures.2 in record { leads = (j.1, j.2) }

pub returns : goal.returns
returns c = (gauge-joined c.args.seat.now c.args.other _ c.join_seat.new.seat.me c.join_seat.ensures.0 c.join_seat.ensures.2).0
