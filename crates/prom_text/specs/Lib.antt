pub mod Labels
pub mod Members
pub mod Prometheus
pub mod Rows
pub mod Values
