pub mod Rising
pub mod Sweeping
pub mod Taking
pub mod Accounts
pub mod Views
