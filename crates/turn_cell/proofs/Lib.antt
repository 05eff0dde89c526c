mod Fits
pub mod Seats
mod Keeps
mod Ends
