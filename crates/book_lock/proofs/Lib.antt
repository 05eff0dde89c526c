pub mod Standing
mod Keeps
mod Deals
mod Ends
mod Tries
mod Wording
pub mod Uses
mod Giving
