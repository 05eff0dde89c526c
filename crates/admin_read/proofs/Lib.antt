pub mod Worked
pub mod Steps
pub mod Quantiles
pub mod Order
