pub mod Told
pub mod Accounts
pub mod Grows
pub mod Ends
pub mod Laws
