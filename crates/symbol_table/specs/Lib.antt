pub mod Drawing
pub mod Table
pub mod Kept
pub mod Slots
pub mod Laws
