pub mod AskedTexts
pub mod Paths
pub mod LoadAnswers
