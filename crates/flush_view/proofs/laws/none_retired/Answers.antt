use Rattle.std.proofs.Common.{◌≡◌, ℕ, ◌||◌, Bool, true, false, cond, List, [], ◌∷◌, map, nat_le, refl, ap, sym}
use Rattle.std.specs.List.{list_all}
use Rattle.stat_defs.specs.declared.metrics.Life.{Life}
use Rattle.stat_defs.specs.declared.metrics.Life.TheVariants.{Live, Retired, Gone}
use Rattle.book_state.specs.State.{Row, Seat, is_gone, all_acknowledged}
use Rattle.book_state.specs.Step.{swept, overdue}
use Rattle.book_state.proofs.Lists.{both, true_false}
use Rattle.flush_view.specs.Symbols.{is_live_life}
use Rattle.loglinear_bins.proofs.MergedBins.{and_so}
use Rattle.flush_view.proofs.laws.none_retired.Goals as goal

ended_so : (a b : Bool) → a ≡ true → (a || b) ≡ true
ended_so true b e = refl
ended_so false b e = absurd (true_false (sym e))

all_know : (seats : List Seat) (tag : ℕ) → list_all (λ seat. seat.ended) seats ≡ true → all_acknowledged seats tag ≡ true
all_know [] tag ended = refl
all_know (seat ∷ seats) tag ended =
    let parts = both seat.ended (list_all (λ s. s.ended) seats) ended in
    and_so (seat.ended || nat_le tag seat.tag) (all_acknowledged seats tag) (ended_so seat.ended (nat_le tag seat.tag) parts.0) (all_know seats tag parts.1)

abbrev decided : Row → Bool
decided row = is_live_life row.metric.life || is_gone row.metric.life

-- the metric as it is where it is swept
abbrev gone : Row → Row
gone row = record row { metric = record row.metric { life = Gone } }

one : (seats : List Seat) (row : Row) (now : Life) → row.metric.life ≡ now → list_all (λ seat. seat.ended) seats ≡ true
    → decided (cond (overdue seats now) (gone row) row) ≡ true
one seats row Live is ended = ap (λ l. is_live_life l || is_gone l) is
one seats row Gone is ended = ap (λ l. is_live_life l || is_gone l) is
one seats row (Retired tag) is ended = ap (λ b. decided (cond b (gone row) row)) (all_know seats tag ended)

all : (seats : List Seat) (rows : List Row) → list_all (λ seat. seat.ended) seats ≡ true → list_all decided (map (swept seats) rows) ≡ true
all seats [] ended = refl
all seats (row ∷ rows) ended = and_so (decided (swept seats row)) (list_all decided (map (swept seats) rows)) (one seats row row.metric.life refl ended) (all seats rows ended)

pub returns : goal.returns
returns c = λ rules n s ended. all s.seats s.metrics ended
