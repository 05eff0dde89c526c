pub mod Numbered
mod NewWorkers
mod NewTokens
mod NewParties
mod Dealt
