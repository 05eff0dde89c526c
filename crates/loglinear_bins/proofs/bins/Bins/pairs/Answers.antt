use Rattle.std.proofs.Common.{◌≡◌, ◌<◌, ◌++◌, get_or, length, append-nil, ap, sym, ◌∙◌, arith}
use Rattle.loglinear_bins.proofs.Merging.{same_read}
use Rattle.loglinear_bins.proofs.Occupied.{listed-first, listed-past}
use Rattle.loglinear_bins.proofs.Reading.{shown, pairs_some, pairs_none}
use Rattle.loglinear_bins.proofs.Rising.{IsBinList-shown}
use Rattle.loglinear_bins.proofs.bins.Bins.pairs.Goals as goal
use Rattle.loglinear_bins.proofs.bins.Bins.pairs.Goals.{then-n-gt0+in_ok-push, else-n-gt0}

pub loop-place-init : goal.loop-place-init
loop-place-init c =
    let ns = c.self.inside.counts.items in
    rw c.new-pairs.ensures.items (shown ns c.self.inside.total c.args.self.now c.self.view_is c.self.invariant.0, listed-first ns c.self.inside.from c.self.invariant.1.below ∙ c.self.view_is)

pub returns-in_err-push-clause-rising : goal.returns-in_err-push-clause-rising
returns-in_err-push-clause-rising c = IsBinList-shown c.self.inside.counts.items c.args.self.now c.loop-place.invariant.0

pub loop-place-preserved : goal.loop-place-preserved
loop-place-preserved c =
    let ns = c.self.inside.counts.items in
    let short : c.loop-place.place < length ns = omega (arith, c.loop-place-test.true, c.self.invariant.1.past_within) in
    let read : c.index-n.result.now ≡ get_or ns c.loop-place.place 0 = same_read ns c.loop-place.place c.index-n.result.now short c.index-n.ensures in
    elim c.if-n-gt0.branch [
      | then-n-gt0+in_ok-push w ↦ (c.loop-place.invariant.0, rw (w.pairs-is, w.in_ok-push.ensures.items, w.bin_at.ensures.bin, read) (pairs_some c.loop-place.pairs.items c.args.self.now c.loop-place.place ns short (rw read at w.if-n-gt0.true) c.loop-place.invariant.1))
      | else-n-gt0 w ↦ (c.loop-place.invariant.0, rw w.pairs-is (pairs_none c.loop-place.pairs.items c.args.self.now c.loop-place.place ns short (omega (arith, read, w.if-n-gt0.false)) c.loop-place.invariant.1))
    ]

pub returns-clause-all : goal.returns-clause-all
returns-clause-all c =
    let none = listed-past c.self.inside.counts.items c.loop-place.place (λ k later. c.self.invariant.1.above k (omega (arith, c.loop-place-test.false, later))) in
    c.of.ensures ∙ sym (append-nil c.loop-place.pairs.items) ∙ ap (λ cs. c.loop-place.pairs.items ++ cs) (sym none) ∙ c.loop-place.invariant.1

pub returns-clause-rising : goal.returns-clause-rising
returns-clause-rising c = IsBinList-shown c.self.inside.counts.items c.args.self.now c.loop-place.invariant.0
