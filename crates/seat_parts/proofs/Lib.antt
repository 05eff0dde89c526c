pub mod Sums
pub mod Cuts
pub mod Anys
pub mod Crossing
