mod Knowing
mod CounterKeeps
mod Stepping
mod CounterDeals
mod CounterEnds
mod GaugeKeeps
mod GaugeDeals
mod GaugeEnds
pub mod CounterLaws
pub mod GaugeLaws
pub mod Crossing
