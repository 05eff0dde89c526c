pub mod Turned
pub mod Steps
pub mod Tokens
pub mod Answers
