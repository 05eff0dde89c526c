pub mod Reports
pub mod Parties
pub mod Composing
pub mod Words
pub mod OneByOne
pub mod Gathered
pub mod Pending
