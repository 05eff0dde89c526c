-- What the flusher and the reader take of the book (this project's own).
use Rattle.std.specs.Prelude.{◌≡◌, ℕ, ◌<◌, Bool, false, List, length, filter, slice_get, All}
use Rattle.std.specs.Option.{option_map_or}
use Rattle.stat_defs.specs.Books.{BookHistory}
use Rattle.stat_defs.specs.Keys.{same_kind}
use Rattle.stat_defs.specs.declared.ids.Kind.{Kind}
use Rattle.stat_defs.specs.declared.ids.Kind.TheVariants.{Counter, Gauge}
use Rattle.stat_defs.specs.declared.ids.MetricId.{MetricId}
use Rattle.stat_defs.specs.declared.history.Call.TheVariants as call
use Rattle.stat_defs.specs.declared.history.Reply.TheVariants as reply
use Rattle.book_state.specs.declared.limits.TheConstants.{MAX_METRICS}
use Rattle.book_state.specs.State.{State, names_in}
use Rattle.book_state.specs.Step.{overdue_in}
use Rattle.stat_book.specs.Calls.{state_of, Logged}
use Rattle.locked_book.specs.declared.listing.Listing.{Listing}

-- the metric of this number is of the kind
abbrev pub is_of_kind : Kind → State → MetricId → Bool
is_of_kind kind s id = option_map_or (λ row. same_kind row.metric.kind kind) (slice_get s.metrics id.0) false

-- the metrics of a kind that are not gone
abbrev pub not_gone : Kind → State → List MetricId
not_gone kind s = filter (is_of_kind kind s) (names_in s)

-- the numbers of the metrics of a store
abbrev pub AreMetrics : List MetricId → Type 0
AreMetrics ids = All (λ id. id.0 < MAX_METRICS) ids

-- the listing of a book, whose log is so long
pub record Lists (listing : Listing) (book : BookHistory) : Type 0 where
  pub at : listing.at ≡ length book.log
  pub counters : listing.counters ≡ not_gone Counter (state_of book)
  pub gauges : listing.gauges ≡ not_gone Gauge (state_of book)
  pub metrics : AreMetrics listing.counters × AreMetrics listing.gauges

-- a sweep by the seat, and the listing of the book that it found
pub record SweepsListed (listing : Listing) (seat : ℕ) (old new : BookHistory) : Type 0 where
  pub lists : Lists listing old
  pub step : Logged old seat call.Sweep (reply.Swept (length (overdue_in (state_of old)))) new

-- the listing of a book that stays as it is
pub record ListsNames (listing : Listing) (seat : ℕ) (old new : BookHistory) : Type 0 where
  pub lists : Lists listing old
  pub same : new ≡ old
