pub mod Fresh
pub mod Noted
