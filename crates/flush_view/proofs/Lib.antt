pub mod EachView
mod Ordered
mod Totals
pub mod Intervals
pub mod Cumulative
pub mod Ends
mod Shown
mod Made
pub mod InLog
pub mod Replayed
pub mod Befores
pub mod FullNames
mod ByNumber
pub mod Picked
pub mod Following
pub mod Viewing
pub mod Ready
pub mod FileEvents
pub mod Recorded
mod Countings
mod CountersMade
pub mod LawfulParts
pub mod BinsShown
pub mod CallsLawful
pub mod Showable
pub mod RowsBins
pub mod Lefts
pub mod LedgerNames
pub mod Walking
