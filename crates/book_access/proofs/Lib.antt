pub mod Called
pub mod OneSeat
