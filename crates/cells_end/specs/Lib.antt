pub mod Ends
pub mod LastRound
