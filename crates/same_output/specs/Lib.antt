pub mod Independent
pub mod Worked
