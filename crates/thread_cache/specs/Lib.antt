pub mod Keys
pub mod Scopes
pub mod Held
pub mod Kept
pub mod SameHeld
pub mod KeyLaws
